-- How whole pages are taken out of an element under a key, step by step. No public clause cites this module.
use Rattle.std.specs.Prelude.{◌≡◌, ℕ, ◌+◌, ◌-◌, ◌*◌, ◌/◌, ◌^◌, ◌<◌, ◌≤◌, Bool, true, false, nat_lt, List, ◌∷◌, ◌++◌, Option, Some, None, MatchOption, IfSome}
use Rattle.std.specs.List.{find}
use Rattle.hp_base.specs.declared.span.Span.{Span}
use Rattle.hp_base.specs.declared.row.Run.{Run}
use Rattle.hp_chain.specs.Chain.{Keyed}
use Rattle.hp_elem.specs.Items.{Items}
use Rattle.hp_heap.specs.declared.page_list.PageList.{PageList}
use Rattle.hp_heap.specs.PlainHeap.{end_of, is_free}
use Rattle.hp_heap.specs.Tiling.{in_range}
use Rattle.hp_heap.specs.Placing.{count_if}
use Rattle.hp_heap.specs.Cut.{IsCut, PageCut, cut_from, cut_to, rests_of}
use Rattle.hp_heap.specs.PageLists.{list_at}
use Rattle.hp_heap.specs.Headers.{HeadersView, spans_of}

-- the free element that contains an address stands under a key
pub record HasFreeAt (addr : ℕ) (items : Items) (key : ℕ) : Type 0 where
  pub front : Items
  pub found : Keyed Span
  pub back : Items
  pub is : items ≡ front ++ found ∷ back
  pub same : found.key ≡ key
  pub free : is_free found.value ≡ true
  pub found_is : find (in_range addr) (spans_of items) ≡ Some found.value

-- no free element contains an address
abbrev pub HasNoFreeAt : ℕ → Items → Type 0
HasNoFreeAt addr items = IfSome (find (in_range addr) (spans_of items)) (λ range. is_free range ≡ false)

-- the key of the free element that contains an address, or that there is none
abbrev pub FindsFree : ℕ → Items → Option ℕ → Type 0
FindsFree addr items result = MatchOption result (HasNoFreeAt addr items) (HasFreeAt addr items)

-- the first and the last whole page of an element are numbers of 64 bits
pub record CanRound (range : Span) : Type 0 where
  pub some : 0 < range.page
  pub most : range.page ≤ 2 ^ 34
  pub end : end_of range ≤ 2 ^ 63

-- a stretch of whole pages may be taken out of a free element
pub record CanTakeOut (from to : ℕ) (range : Span) : Type 0 where
  pub free : is_free range ≡ true
  pub cut : IsCut range from to
  pub end : end_of range ≤ 2 ^ 63

-- a stretch of an element's pages, without the slot and the socket of the first
abbrev pub bare_cut : Span → ℕ → ℕ → PageCut
bare_cut range from to = record { range = range; from = from; to = to; slot = 0; socket = 0 }

-- the number of insertions after a stretch was taken out
abbrev pub insertions_cut : Span → ℕ → ℕ → ℕ → ℕ
insertions_cut range from to insertions =
    insertions + count_if (nat_lt to (end_of range)) + count_if (nat_lt range.addr from)

-- a stretch of an element lies within the slots of its list
pub record IsInSlots (entry : PageList) (range : Span) (from to : ℕ) : Type 0 where
  pub some : 0 < range.page
  pub base : entry.base ≤ from
  pub rises : from ≤ to
  pub slots : to < entry.base + 2 ^ 32 * range.page

-- the stretch as a run of its list
abbrev pub run_on : PageList → Span → ℕ → ℕ → Run
run_on entry range from to = record {
  list = range.list;
  first = (from - entry.base) / range.page;
  count = (to - from) / range.page;
  addr = from;
  page = range.page;
  socket = entry.socket;
}

-- the whole pages of the free element that contains an address were taken out, as a run
pub record IsTakenOut (lists : List PageList) (addr : ℕ) (old new : HeadersView) (run : Run) : Type 0 where
  pub front : Items
  pub found : Keyed Span
  pub back : Items
  pub is : old.items ≡ front ++ found ∷ back
  pub free : is_free found.value ≡ true
  pub found_is : find (in_range addr) (spans_of old.items) ≡ Some found.value
  pub some : cut_from found.value < cut_to found.value
  pub entry : PageList
  pub noted : list_at found.value.list lists ≡ Some entry
  pub run_is : run ≡ run_on entry found.value (cut_from found.value) (cut_to found.value)
  pub spans : spans_of new.items
      ≡ spans_of front ++ (rests_of (bare_cut found.value (cut_from found.value) (cut_to found.value)) old.insertions ++ spans_of back)
  pub insertions : new.insertions ≡ insertions_cut found.value (cut_from found.value) (cut_to found.value) old.insertions

-- there are none, and all is as it was
pub record IsLeftWhole (of_socket : Bool) (addr : ℕ) (old new : HeadersView) : Type 0 where
  pub none : of_socket ≡ true → IfSome (find (in_range addr) (spans_of old.items))
      (λ range. is_free range ≡ true → nat_lt (cut_from range) (cut_to range) ≡ false)
  pub items : new.items ≡ old.items
  pub insertions : new.insertions ≡ old.insertions

-- what a cut makes of the elements of a heap, which is that of a socket or not
abbrev pub CutsOut : List PageList → Bool → ℕ → HeadersView → HeadersView → Option Run → Type 0
CutsOut lists of_socket addr old new None = IsLeftWhole of_socket addr old new
CutsOut lists of_socket addr old new (Some run) = (of_socket ≡ true) × IsTakenOut lists addr old new run
