-- Which whole pages go back from a free element: the rule "Whole pages" of docs/HEAP.md.
use Rattle.std.specs.Prelude.{◌≡◌, ◌⊎◌, ℕ, ◌+◌, ◌-◌, ◌/◌, ◌%◌, ◌<◌, ◌≤◌, Bool, not, ◌&&◌, ◌==◌, nat_lt, nat_le, List, ◌++◌, Option, Some, None, is_some, if◌then◌else◌}
use Rattle.std.specs.Option.{option_map, option_and_then}
use Rattle.std.specs.List.{filter, find}
use Rattle.hp_base.specs.Round.{floor_of, ceil_of}
use Rattle.hp_base.specs.declared.span.Span.{Span}
use Rattle.hp_base.specs.declared.span.SpanState.TheVariants.{Free}
use Rattle.hp_base.specs.declared.row.Run.{Run}
use Rattle.hp_heap.specs.PlainHeap.{PlainHeap, HeapPage, end_of, is_free}
use Rattle.hp_heap.specs.Tiling.{range_at}
use Rattle.hp_heap.specs.Placing.{replaced, only_if, count_if}

-- a rest is nothing, or an element
abbrev pub IsRest : ℕ → Type 0
IsRest rest = (rest ≡ 0) ⊎ (192 ≤ rest)

-- a stretch of whole pages in an element, whose rests before and behind are rests
pub record IsCut (range : Span) (from to : ℕ) : Type 0 where
  pub first : from % range.page ≡ 0
  pub last : to % range.page ≡ 0
  pub some : from < to
  pub before : range.addr ≤ from
  pub behind : to ≤ end_of range
  pub rest_before : IsRest (from - range.addr)
  pub rest_behind : IsRest (end_of range - to)

-- the widest such stretch
pub record IsWidestCut (range : Span) (from to : ℕ) : Type 0 where
  pub cut : IsCut range from to
  pub widest : (other_from other_to : ℕ) → IsCut range other_from other_to → (from ≤ other_from) × (other_to ≤ to)

-- there is no such stretch
abbrev pub HasNoCut : Span → Type 0
HasNoCut range = (from to : ℕ) → IsCut range from to → ⊥

-- whether a rest is too small for an element
abbrev pub is_too_small : ℕ → Bool
is_too_small rest = nat_lt 0 rest && nat_lt rest 192

-- the begin of the stretch: the first whole page, and one page more where the rest before it would be too small
abbrev pub cut_from : Span → ℕ
cut_from range =
    let first = ceil_of range.addr range.page in
    if is_too_small (first - range.addr) then first + range.page else first

-- its end: that of the last whole page, and one page less where the rest behind it would be too small
abbrev pub cut_to : Span → ℕ
cut_to range =
    let last = floor_of (end_of range) range.page in
    if is_too_small (end_of range - last) then last - range.page else last

-- the pages that go: a stretch of an element, with the slot and the socket of its first page
pub record PageCut : Type 0 where
  pub range : Span
  pub from : ℕ
  pub to : ℕ
  pub slot : ℕ
  pub socket : ℕ

abbrev pub is_page_at : ℕ → ℕ → HeapPage → Bool
is_page_at list addr page = (page.list == list) && (page.addr == addr)

abbrev pub stretch_of : Span → PlainHeap → Option PageCut
stretch_of range heap =
    if nat_lt (cut_from range) (cut_to range)
    then option_map (λ page.
    record { range = range; from = cut_from range; to = cut_to range; slot = page.slot; socket = page.socket })
    (find (is_page_at range.list (cut_from range)) heap.pages)
    else None

abbrev pub stretch_if_free : Span → PlainHeap → Option PageCut
stretch_if_free range heap = if is_free range then stretch_of range heap else None

-- the pages that go at an address: the widest stretch in the element that contains it, where that is free, in the heap of a socket
unfoldable pub cut_at : ℕ → PlainHeap → Option PageCut
cut_at address heap =
    if is_some heap.serves then option_and_then (λ range. stretch_if_free range heap) (range_at address heap) else None

-- the pages as a run
abbrev pub run_of : PageCut → Run
run_of cut = record {
  list = cut.range.list;
  first = cut.slot;
  count = (cut.to - cut.from) / cut.range.page;
  addr = cut.from;
  page = cut.range.page;
  socket = cut.socket;
}

-- what is left of the element: the rest behind is inserted into the free lists first, then the rest before
abbrev pub rests_of : PageCut → ℕ → List Span
rests_of cut insertions =
    let behind = nat_lt cut.to (end_of cut.range) in
    only_if (nat_lt cut.range.addr cut.from)
    (record cut.range { whole = cut.from - cut.range.addr; state = Free (insertions + count_if behind + 1) })
    ++ only_if behind (record cut.range { addr = cut.to; whole = end_of cut.range - cut.to; state = Free (insertions + 1) })

-- whether a page is among those that go
abbrev pub is_cut_page : PageCut → HeapPage → Bool
is_cut_page cut page = (page.list == cut.range.list) && (nat_le cut.from page.addr && nat_lt page.addr cut.to)

abbrev pub after_cut_of : Option PageCut → PlainHeap → PlainHeap
after_cut_of None heap = heap
after_cut_of (Some cut) heap = record heap {
  pages = filter (λ page. not (is_cut_page cut page)) heap.pages;
  ranges = replaced cut.range.addr (rests_of cut heap.insertions) heap.ranges;
  insertions = heap.insertions + count_if (nat_lt cut.to (end_of cut.range)) + count_if (nat_lt cut.range.addr cut.from);
}

-- the heap after a cut at an address
unfoldable pub after_cut : ℕ → PlainHeap → PlainHeap
after_cut address heap = after_cut_of (cut_at address heap) heap
