-- What a resize makes of the elements under keys. No public clause cites this module.
use Rattle.std.specs.Prelude.{◌≡◌, ◌⊎◌, ℕ, ◌+◌, ◌-◌, ◌<◌, ◌≤◌, ◌^◌, Bool, true, false, nat_le, List, [], ◌∷◌, ◌++◌, Option, Some, None, MatchBool, if◌then◌else◌}
use Rattle.hp_base.specs.declared.span.Span.{Span}
use Rattle.hp_base.specs.declared.span.SpanState.TheVariants.{Free}
use Rattle.hp_chain.specs.Chain.{Keyed}
use Rattle.hp_elem.specs.Items.{Items}
use Rattle.hp_heap.specs.PlainHeap.{is_free}
use Rattle.hp_heap.specs.Placing.{only_if, count_if}
use Rattle.hp_heap.specs.Resizing.{bytes_needed, bytes_together, is_next_free, resized}
use Rattle.hp_heap.specs.Headers.{HeadersView, spans_of}
use Rattle.hp_heap.specs.Finding.{HasDataAt}

-- a size that may be asked for
pub record IsSomeSize (size : ℕ) : Type 0 where
  pub some : 0 < size
  pub most : size ≤ 2 ^ 63

-- a busy element has too few bytes for a size
pub record IsGrowing (range : Span) (size : ℕ) : Type 0 where
  pub busy : is_free range ≡ false
  pub more : range.whole < bytes_needed range size

-- the element with another size of its data
abbrev pub sized : ℕ → Keyed Span → Items → Items
sized size e es = record e { value = resized e.value e.value.whole size } ∷ es

-- the first of the elements after another, where it is free and touches it
abbrev pub first_free : Span → List Span → Option Span
first_free range [] = None
first_free range (next ∷ ranges) = if is_next_free range next then Some next else None

-- whether an element and the next one leave a rest that is to be an element
abbrev pub has_rest : Span → Span → ℕ → Bool
has_rest range next size = nat_le 192 (range.whole + next.whole - bytes_needed range size)

-- an element with the bytes of the next one, and the rest of them free
abbrev pub with_rest_if : Bool → Span → Span → ℕ → ℕ → List Span
with_rest_if rest range next size stamp =
    resized range (if rest then bytes_needed range size else range.whole + next.whole) size
    ∷ only_if rest (record range {
      addr = range.addr + bytes_needed range size;
      whole = range.whole + next.whole - bytes_needed range size;
      state = Free stamp;
    })

-- the size is had in the element's own bytes
pub record KeepsBytes (key size : ℕ) (old new : HeadersView) : Type 0 where
  pub front : Items
  pub found : Keyed Span
  pub back : Items
  pub is : old.items ≡ front ++ found ∷ back
  pub same : found.key ≡ key
  pub fits : bytes_needed found.value size ≤ found.value.whole
  pub spans : spans_of new.items ≡ spans_of front ++ (resized found.value found.value.whole size ∷ spans_of back)
  pub insertions : new.insertions ≡ old.insertions

-- a busy element has the size with the bytes of the free element right behind it
pub record TakesNext (key size : ℕ) (old new : HeadersView) : Type 0 where
  pub front : Items
  pub found : Keyed Span
  pub next : Keyed Span
  pub back : Items
  pub is : old.items ≡ front ++ found ∷ next ∷ back
  pub same : found.key ≡ key
  pub beside : is_next_free found.value next.value ≡ true
  pub more : found.value.whole < bytes_needed found.value size
  pub fits : bytes_needed found.value size ≤ found.value.whole + next.value.whole
  pub spans : spans_of new.items
      ≡ spans_of front ++ (with_rest_if (has_rest found.value next.value size) found.value next.value size (old.insertions + 1) ++ spans_of back)
  pub insertions : new.insertions ≡ old.insertions + count_if (has_rest found.value next.value size)

-- a busy element lacks the bytes for the size, and all stays
pub record LacksBytes (key size : ℕ) (old new : HeadersView) : Type 0 where
  pub front : Items
  pub found : Keyed Span
  pub back : Items
  pub is : old.items ≡ front ++ found ∷ back
  pub same : found.key ≡ key
  pub lacks : bytes_together found.value (first_free found.value (spans_of back)) < bytes_needed found.value size
  pub items : new.items ≡ old.items
  pub insertions : new.insertions ≡ old.insertions

-- what is made of the element under a key
abbrev pub Resizes : ℕ → ℕ → HeadersView → HeadersView → Bool → Type 0
Resizes key size old new had = MatchBool had (KeepsBytes key size old new ⊎ TakesNext key size old new) (LacksBytes key size old new)

-- what is made of the busy element with its data at an address
pub record ResizesData (addr size : ℕ) (old new : HeadersView) (had : Bool) : Type 0 where
  pub key : ℕ
  pub there : HasDataAt addr old.items key
  pub resized : Resizes key size old new had
