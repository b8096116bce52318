-- What a kept value is: a heap with its pen, the segment value, or the names. What is said of two values of one kind is said by these views.
use Rattle.std.specs.Prelude.{Option, Some, None, IsSomeAnd}
use Rattle.hp_heap.specs.History.{HeapView}
use Rattle.hp_segs.specs.SegsView.{SegsView}
use Rattle.hp_stats.specs.StatViews.{PenView}
use Rattle.hp_zone.specs.declared.names.Names.{Names as NamesView}
use Rattle.hp_hall.specs.declared.kept.Kept.{Kept}
use Rattle.hp_hall.specs.declared.kept.Kept.TheVariants.{Heap, Names, Segments}

-- a heap, and the pen by which its statistics are published
pub record HeldHeap : Type 0 where
  pub heap : HeapView
  pub pen : PenView

-- the heap and its pen, where the value is one
abbrev pub held_of : Kept → Option HeldHeap
held_of (Heap heap pen) = Some (record { heap = heap; pen = pen })
held_of (Segments segs) = None
held_of (Names names) = None

-- the segment value
abbrev pub segs_of : Kept → Option SegsView
segs_of (Heap heap pen) = None
segs_of (Segments segs) = Some segs
segs_of (Names names) = None

-- the names
abbrev pub names_of : Kept → Option NamesView
names_of (Heap heap pen) = None
names_of (Segments segs) = None
names_of (Names names) = Some names

-- two values are of one kind, and of two heaps with their pens, of two segment values and of names that is so which is said of them
abbrev pub AreOfOneKind : (HeldHeap → HeldHeap → Type 0) → (SegsView → SegsView → Type 0) → (NamesView → NamesView → Type 0) → Kept → Kept → Type 0
AreOfOneKind OfHeaps OfSegs OfNames (Heap heap pen) other = IsSomeAnd (held_of other) (OfHeaps (record { heap = heap; pen = pen }))
AreOfOneKind OfHeaps OfSegs OfNames (Segments segs) other = IsSomeAnd (segs_of other) (OfSegs segs)
AreOfOneKind OfHeaps OfSegs OfNames (Names names) other = IsSomeAnd (names_of other) (OfNames names)
