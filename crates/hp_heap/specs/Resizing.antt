-- Resizing an element at its place: the rule "Resizing in place" of docs/HEAP.md.
use Rattle.std.specs.Prelude.{◌≡◌, ℕ, ◌+◌, ◌-◌, ◌%◌, ◌^◌, ◌<◌, ◌≤◌, IsSome, Bool, false, not, ◌&&◌, ◌==◌, nat_le, List, [], ◌∷◌, Option, Some, None, if◌then◌else◌}
use Rattle.std.specs.List.{filter, find}
use Rattle.hp_base.specs.declared.span.Span.{Span}
use Rattle.hp_base.specs.declared.span.SpanState.{SpanState}
use Rattle.hp_base.specs.declared.span.SpanState.TheVariants.{Free, Busy}
use Rattle.hp_heap.specs.PlainHeap.{PlainHeap, is_free, pad_of_state}
use Rattle.hp_heap.specs.Tiling.{touches}
use Rattle.hp_heap.specs.Placing.{replaced, only_if, count_if}
use Rattle.hp_heap.specs.Joining.{busy_at}

-- the bytes that an element needs for a size: its pad, its header and the size
abbrev pub bytes_needed : Span → ℕ → ℕ
bytes_needed range size = size + pad_of_state range.state + 128

-- whether an element is free and touches another
abbrev pub is_next_free : Span → Span → Bool
is_next_free range next = is_free next && touches range next

-- the free element right behind another, in its list
abbrev pub next_free : Span → PlainHeap → Option Span
next_free range heap = find (is_next_free range) heap.ranges

abbrev pub with_size : ℕ → SpanState → SpanState
with_size size (Free stamp) = Free stamp
with_size size (Busy pad old tag) = Busy pad size tag

-- an element with another whole size and another size of its data
abbrev pub resized : Span → ℕ → ℕ → Span
resized range whole size = record range { whole = whole; state = with_size size range.state }

-- the bytes of an element and of the free one behind it
abbrev pub bytes_together : Span → Option Span → ℕ
bytes_together range None = range.whole
bytes_together range (Some next) = range.whole + next.whole

abbrev pub without : Option Span → List Span → List Span
without None ranges = ranges
without (Some next) ranges = filter (λ range. not (range.addr == next.addr)) ranges

-- an element with the free one behind it: a rest of at least 192 bytes behind what it needs is cut off and inserted again
abbrev pub taken_over : Span → Option Span → ℕ → PlainHeap → PlainHeap
taken_over range next size heap =
    let need = bytes_needed range size in
    let whole = bytes_together range next in
    let has_rest = nat_le 192 (whole - need) in
    record heap {
      ranges = replaced range.addr
          (resized range (if has_rest then need else whole) size
          ∷ only_if has_rest (record range { addr = range.addr + need; whole = whole - need; state = Free (heap.insertions + 1) }))
          (without next heap.ranges);
      insertions = heap.insertions + count_if has_rest;
    }

abbrev pub with_new_size : Span → ℕ → PlainHeap → PlainHeap
with_new_size range size heap = record heap { ranges = replaced range.addr (resized range range.whole size ∷ []) heap.ranges }

abbrev pub after_resize_of : Option Span → ℕ → PlainHeap → PlainHeap
after_resize_of None size heap = heap
after_resize_of (Some range) size heap =
    if nat_le (bytes_needed range size) range.whole then with_new_size range size heap
    else (if nat_le (bytes_needed range size) (bytes_together range (next_free range heap))
    then taken_over range (next_free range heap) size heap
    else heap)

-- the heap after a resize: the element holds the size as it is, or with the free one behind it; else nothing changes
unfoldable pub after_resize : ℕ → ℕ → PlainHeap → PlainHeap
after_resize address size heap = after_resize_of (busy_at address heap) size heap

abbrev pub can_resize_of : Option Span → ℕ → PlainHeap → Bool
can_resize_of None size heap = false
can_resize_of (Some range) size heap = nat_le (bytes_needed range size) (bytes_together range (next_free range heap))

-- whether the size is had
unfoldable pub can_resize : ℕ → ℕ → PlainHeap → Bool
can_resize address size heap = can_resize_of (busy_at address heap) size heap

-- a busy element may be resized: its data are at the address, and the size is whole cache lines, at most 2^63 bytes
pub record CanAskSize (address size : ℕ) (heap : PlainHeap) : Type 0 where
  pub busy : IsSome (busy_at address heap)
  pub some : 0 < size
  pub lines : size % 64 ≡ 0
  pub most : size ≤ 2 ^ 63
