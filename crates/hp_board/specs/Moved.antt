-- How heaps come into slots. No public clause cites this module.
use Rattle.std.specs.Prelude.{List, [], ◌∷◌, ◌++◌, map, zip, Option, Some}
use Rattle.hp_heap.specs.History.{HeapView}
use Rattle.hp_segs.specs.SegsView.{SegsView}
use Rattle.hp_stats.specs.StatViews.{PenView}
use Rattle.hp_hall.specs.declared.kept.Kept.{Kept}
use Rattle.hp_hall.specs.declared.kept.Kept.TheVariants.{Heap, Names, Segments}
use Rattle.hp_zone.specs.declared.names.Names.{Names as NamesView}

-- what the slot of a heap with its pen has
abbrev pub slot_of : HeapView × PenView → Option Kept
slot_of held = Some (Heap held.0 held.1)

-- the slots of heaps, each with its pen, and after them that of the segment value and that of the names
abbrev pub slots_of : List HeapView → List PenView → SegsView → NamesView → List (Option Kept)
slots_of heaps pens segs names = map slot_of (zip heaps pens) ++ Some (Segments segs) ∷ Some (Names names) ∷ []
