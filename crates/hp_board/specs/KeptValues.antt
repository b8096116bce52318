-- The values that slots keep: the rule "Words and slots" of docs/BOARD.md.
use Rattle.std.specs.Prelude.{◌≡◌, ℕ, ◌<◌, List, [], Option, Some, None, drop, length}
use Rattle.std.specs.List.{slice_get}
use Rattle.hp_base.specs.declared.limits.TheConstants.{MAX_HEAPS}
use Rattle.hp_heap.specs.declared.entry.Entry.{Entry}
use Rattle.hp_heap.specs.History as heaps
use Rattle.hp_heap.specs.History.{HeapView}
use Rattle.hp_segs.specs.SegsView.{SegsView}
use Rattle.hp_segs.specs.Sound as segments
use Rattle.hp_hall.specs.Values.{history_of}
use Rattle.hp_hall.specs.declared.kept.Kept.{Kept}
use Rattle.hp_hall.specs.declared.kept.Kept.TheVariants.{Heap, Names, Segments}
use Rattle.hp_hall.specs.declared.slot.TheConstants.{NAMES_SLOT}
use Rattle.hp_zone.specs.Directory.{IsDirectory}
use Rattle.hp_zone.specs.Zones.{IsZones}
use Rattle.hp_zone.specs.declared.names.Names.{Names as NamesView}
use Rattle.hp_hall.specs.HeapPairs.{ArePairsOf}
use Rattle.hp_stats.specs.StatViews.{IsPenOf, PenView}
use Rattle.hp_board.specs.declared.opening.Opening.{Opening}

-- a heap is the sound one of a slot, and opened as the board's heap of that index
pub record IsHeapAt (opening : Opening) (slot : ℕ) (heap : HeapView) : Type 0 where
  pub below : slot < MAX_HEAPS
  pub sound : heaps.IsSound heap
  pub index : heap.plain.index ≡ slot
  pub serves : slice_get opening.serves slot ≡ Some heap.plain.serves

-- a pen is that of the board's cell of that index, and all that was published by it are pairs of the heap
pub record IsPenAt (opening : Opening) (slot : ℕ) (heap : HeapView) (pen : PenView) : Type 0 where
  pub cell : IsPenOf opening.cells.value slot pen
  pub pairs : ArePairsOf heap pen

-- a heap with a pen is that of a slot
pub record IsHeldAt (opening : Opening) (slot : ℕ) (held : HeapView) (its_pen : PenView) : Type 0 where
  pub heap : IsHeapAt opening slot held
  pub pen : IsPenAt opening slot held its_pen

-- a segment value is the sound one of its slot
pub record IsSegsAt (slot : ℕ) (segs : SegsView) : Type 0 where
  pub last : slot ≡ MAX_HEAPS
  pub sound : segments.IsSound segs

-- names are those of their slot: their logs leave zones and directory, which was opened with the board's sockets
pub record IsNamesAt (opening : Opening) (slot : ℕ) (names : NamesView) : Type 0 where
  pub last : slot ≡ NAMES_SLOT
  pub zones : IsZones names.zones
  pub heaps : IsDirectory names.heaps
  pub sockets : names.heaps.sockets ≡ opening.names.value.heaps.sockets

-- a value is one of a slot
abbrev pub IsKeptAt : Opening → ℕ → Kept → Type 0
IsKeptAt opening slot (Heap heap pen) = IsHeldAt opening slot heap pen
IsKeptAt opening slot (Segments segs) = IsSegsAt slot segs
IsKeptAt opening slot (Names names) = IsNamesAt opening slot names

-- the entries that the giver has added to a taken value, where one was taken
abbrev pub entries_added : Option Kept → Kept → List Entry
entries_added None given = []
entries_added (Some taken) given = drop (length (history_of taken)) (history_of given)
