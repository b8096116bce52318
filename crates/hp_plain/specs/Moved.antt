-- How values come out of slots. No public clause cites this module.
use Rattle.std.specs.Prelude.{◌≡◌, ℕ, List, [], ◌∷◌, length, map}
use Rattle.hp_heap.specs.History.{HeapView}
use Rattle.hp_stats.specs.StatViews.{PenView}
use Rattle.hp_segs.specs.SegsView.{SegsView}
use Rattle.hp_hall.specs.declared.kept.Kept.TheVariants.{Names, Segments}
use Rattle.hp_hall.specs.Views.{HeldHeap}
use Rattle.hp_zone.specs.declared.names.Names.{Names as NamesView}
use Rattle.hp_plain.specs.HallView.{SlotView}
use Rattle.hp_plain.specs.HallSteps.{heap_slot, home_slot, slots_of}

-- these are the slots of so many heaps, a segment value and names, all at home
pub record AreSlotsOf (count : ℕ) (slots : List SlotView) : Type 0 where
  pub heaps : List HeldHeap
  pub segs : SegsView
  pub names : NamesView
  pub count_is : length heaps ≡ count
  pub slots_are : slots ≡ slots_of heaps segs names

-- the first of the slots is that of a heap at home
pub record IsFirstHeap (slots : List SlotView) : Type 0 where
  pub heap : HeldHeap
  pub rest : List SlotView
  pub slots_are : slots ≡ heap_slot heap ∷ rest

-- the last two slots are those of a segment value and of names at home
pub record AreLast (slots : List SlotView) : Type 0 where
  pub segs : SegsView
  pub names : NamesView
  pub slots_are : slots ≡ home_slot (Segments segs) ∷ home_slot (Names names) ∷ []

-- a heap with some pen stands in the first slot, and after it these
pub record IsHeapFirst (heap : HeapView) (slots rest : List SlotView) : Type 0 where
  pub pen : PenView
  pub slots_are : slots ≡ heap_slot (record { heap = heap; pen = pen }) ∷ rest

-- heaps, each with its pen, a segment value and names have come into slots
pub record IsMovedIn (heaps : List HeapView) (pens : List PenView) (segs : SegsView) (names : NamesView) (slots : List SlotView) : Type 0 where
  pub held : List HeldHeap
  pub heaps_are : map (λ one. one.heap) held ≡ heaps
  pub pens_are : map (λ one. one.pen) held ≡ pens
  pub slots_are : slots ≡ slots_of held segs names
