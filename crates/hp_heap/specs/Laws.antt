-- Laws of the definitions alone, of all heaps, which docs/HEAP.md states under these headings.
use Rattle.std.specs.Prelude.{◌≡◌, ◌⊎◌, ℕ, ◌+◌, ◌<◌, ◌≤◌, ◌==◌, List, [], ◌∷◌, ◌++◌, length, count_by, Contains, Bool, true, false, not, nat_lt, MatchBool, MatchOption, Option, IsNone, ⊤, if◌then◌else◌}
use Rattle.std.specs.List.{AllByRecursion, filter}
use Rattle.std.specs.Option.{option_map}
use Rattle.hp_base.specs.declared.span.Span.{Span}
use Rattle.hp_base.specs.declared.row.Run.{Run}
use Rattle.hp_base.specs.declared.tag.Caller.{Caller}
use Rattle.hp_base.specs.declared.request.Request.{Request}
use Rattle.hp_heap.specs.declared.entry.Entry.{Entry}
use Rattle.hp_heap.specs.declared.entry.HeapCall.{HeapCall}
use Rattle.hp_heap.specs.declared.entry.HeapAnswer.{HeapAnswer}
use Rattle.hp_heap.specs.declared.entry.HeapAnswer.TheVariants as answer
use Rattle.hp_heap.specs.PlainHeap.{PlainHeap, HeapPage, opening_heap, is_free, stamp_of, data_address}
use Rattle.hp_heap.specs.Tiling.{IsTiled, in_range}
use Rattle.hp_heap.specs.Choice.{chosen, IsChoice, HasNoChoice}
use Rattle.hp_heap.specs.Placing.{allocated, IsPlacedIn}
use Rattle.hp_heap.specs.Joining.{stretch_up, stretch_down, after_free, busy_at, busy_ranges, zone_ranges}
use Rattle.hp_heap.specs.Resizing.{after_resize, can_resize, resized}
use Rattle.hp_heap.specs.Cut.{cut_from, cut_to, cut_at, after_cut, run_of, PageCut, IsWidestCut, HasNoCut}
use Rattle.hp_heap.specs.Lists.{newest_first, free_list, range_class}
use Rattle.hp_heap.specs.Growing.{run_pages}
use Rattle.hp_heap.specs.Step.{after, free_answer}
use Rattle.hp_heap.specs.Allowed.{IsAllowed}
use Rattle.hp_heap.specs.History.{HeapView, after_entry, replay, IsLegal, IsLegalEntry, StandsFor, IsSound, IsCall}

-- the computed choice is the choice, and there is none where none is computed ("Search")
abbrev pub ComputesChoice : Type 0
ComputesChoice = (participant : ℕ) (request : Request) (heap : PlainHeap)
    → MatchOption (chosen participant request heap) (HasNoChoice participant request heap) (IsChoice participant request heap)

-- an allocation from a tiled heap gives the place in the choice ("Cutting an element")
abbrev pub AllocatesPlace : Type 0
AllocatesPlace = (participant : ℕ) (request : Request) (heap : PlainHeap) → IsTiled heap
    → MatchOption (allocated participant request heap)
    (HasNoChoice participant request heap) (IsPlacedIn participant request heap)

-- a call that is allowed leaves a tiled heap tiled ("Tiling")
abbrev pub KeepsTiled : Type 0
KeepsTiled = (participant : ℕ) (step : HeapCall) (heap : PlainHeap) → IsTiled heap → IsAllowed participant step heap
    → IsTiled (after participant step heap)

-- a heap is tiled and stands for a history
pub record StandsTiled (heap : PlainHeap) (history : List Entry) : Type 0 where
  pub tiled : IsTiled heap
  pub stands : StandsFor heap history

-- every front of a legal history stands for a tiled heap ("History")
abbrev pub FrontsStand : Type 0
FrontsStand = (index : ℕ) (serves : Option ℕ) (history more : List Entry)
    → IsLegal (opening_heap index serves) (history ++ more)
    → StandsTiled (replay (opening_heap index serves) history) history

-- a heap that stands for its history does so one entry on ("History")
abbrev pub StandsOn : Type 0
StandsOn = (heap : PlainHeap) (history : List Entry) (entry : Entry) → StandsFor heap history → IsLegalEntry heap entry
    → StandsFor (after_entry heap entry) (history ++ entry ∷ [])

-- what holds of every heap holds after a call ("History")
abbrev pub CallsKeepSound : Type 0
CallsKeepSound = (caller : Caller) (step : HeapCall) (given : HeapAnswer) (old new : HeapView)
    → IsSound old → IsCall caller step given old new → IsSound new

-- a free element that joins others takes at most the last of those below it, and at most the first of those above it ("Joining")
pub record TakesNeighbours (range : Span) (lows highs : List Span) : Type 0 where
  pub below : length lows ≤ length (stretch_down lows range).left + 1
  pub above : length highs ≤ length (stretch_up range highs)

-- what a free of a tiled heap leaves as it was ("Joining")
pub record FreesAlone (address : ℕ) (zone : Bool) (heap : PlainHeap) : Type 0 where
  -- where it is done, every other busy element and every other zone, in their order
  pub busy : free_answer (busy_at address heap) zone ≡ answer.Done
      → busy_ranges (after_free address zone heap) ≡ filter (λ range. not (data_address range == address)) (busy_ranges heap)
  pub zones : free_answer (busy_at address heap) zone ≡ answer.Done
      → zone_ranges (after_free address zone heap) ≡ filter (λ range. not (data_address range == address)) (zone_ranges heap)
  -- a free that is not for memzones, every zone
  pub all_zones : zone ≡ false → zone_ranges (after_free address zone heap) ≡ zone_ranges heap
  -- where it is refused, the heap
  pub refused : (free_answer (busy_at address heap) zone ≡ answer.Done → ⊥) → after_free address zone heap ≡ heap

-- what a resize in a tiled heap leaves as it was ("Resizing in place")
pub record ResizesAlone (address size : ℕ) (heap : PlainHeap) : Type 0 where
  -- every other busy element and every other zone, in their order
  pub busy : filter (λ range. not (data_address range == address)) (busy_ranges (after_resize address size heap))
      ≡ filter (λ range. not (data_address range == address)) (busy_ranges heap)
  pub zones : filter (λ range. not (data_address range == address)) (zone_ranges (after_resize address size heap))
      ≡ filter (λ range. not (data_address range == address)) (zone_ranges heap)
  -- the element keeps its address, its pad and its tag, and has the size where that is had
  pub element : can_resize address size heap ≡ true → (whole : ℕ)
      × (busy_at address (after_resize address size heap) ≡ option_map (λ range. resized range whole size) (busy_at address heap))
  -- else the heap
  pub refused : can_resize address size heap ≡ false → after_resize address size heap ≡ heap

-- the computed cut is the widest, and there is none where none is computed ("Whole pages")
abbrev pub ComputesCut : Type 0
ComputesCut = (range : Span) → 192 ≤ range.page
    → MatchBool (nat_lt (cut_from range) (cut_to range)) (IsWidestCut range (cut_from range) (cut_to range)) (HasNoCut range)

-- an element is free, and contains an address
pub record IsFreeAt (address : ℕ) (heap : PlainHeap) (range : Span) : Type 0 where
  pub among : Contains heap.ranges range
  pub contains : in_range address range ≡ true
  pub free : is_free range ≡ true

-- no page goes at an address: the heap is external, no free element contains the address, or no whole page of it may go
abbrev pub HasNoPagesAt : ℕ → PlainHeap → Type 0
HasNoPagesAt address heap =
    IsNone heap.serves
    ⊎ (((range : Span) → IsFreeAt address heap range → ⊥)
    ⊎ ((range : Span) × IsFreeAt address heap range × HasNoCut range))

-- the pages that go at an address: the widest stretch of the free element there, and exactly the pages of the run that is answered
pub record CutsRun (address : ℕ) (heap : PlainHeap) (cut : PageCut) : Type 0 where
  pub there : IsFreeAt address heap cut.range
  pub widest : IsWidestCut cut.range cut.from cut.to
  -- the heap's pages are those that stay and those of the run, which do not stay
  pub pages : (page : HeapPage) → Contains heap.pages page
      → Contains (after_cut address heap).pages page ⊎ Contains (run_pages (run_of cut)) page
  pub stayed : (page : HeapPage) → Contains (after_cut address heap).pages page → Contains heap.pages page
  pub left : (page : HeapPage) → Contains (run_pages (run_of cut)) page
      → Contains heap.pages page × (Contains (after_cut address heap).pages page → ⊥)

-- a run has exactly the pages that go at an address
pub record IsRunCut (address : ℕ) (heap : PlainHeap) (run : Run) : Type 0 where
  pub cut : PageCut
  pub pages : CutsRun address heap cut
  pub is : run ≡ run_of cut

-- a cut of a tiled heap answers none exactly where no page goes, and else the run of the pages that go ("Whole pages")
abbrev pub CutsPages : Type 0
CutsPages = (address : ℕ) (heap : PlainHeap) → IsTiled heap
    → MatchOption (cut_at address heap) (HasNoPagesAt address heap) (CutsRun address heap)

-- stamps fall along elements
abbrev pub IsFalling : List Span → Type 0
IsFalling [] = ⊤
IsFalling (range ∷ ranges) = AllByRecursion (λ other. stamp_of other ≤ stamp_of range) ranges × IsFalling ranges

-- elements by falling stamp are the same elements, and their stamps fall ("Free lists")
pub record SortsByStamp (ranges : List Span) : Type 0 where
  pub same : (test : Span → Bool) → count_by test (newest_first ranges) ≡ count_by test ranges
  pub falling : IsFalling (newest_first ranges)

-- a free element with a new greatest stamp stands at the head of its free list, and changes no other ("Free lists")
abbrev pub InsertsAtHead : Type 0
InsertsAtHead = (before after : List Span) (range : Span) → is_free range ≡ true
    → AllByRecursion (λ other. stamp_of other < stamp_of range) (before ++ after) → (class : ℕ)
    → free_list (before ++ (range ∷ after)) class
    ≡ (if range_class range == class then range.addr ∷ free_list (before ++ after) class else free_list (before ++ after) class)
