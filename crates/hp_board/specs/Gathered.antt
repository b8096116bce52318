-- How a board is taken apart. No public clause cites this module.
use Rattle.std.specs.Prelude.{◌≡◌, ℕ, ◌<◌, List, [], Option, Some, length}
use Rattle.std.specs.List.{slice_get}
use mathlib.Core.Option.{some}
use lib.ListN.{get_elem?}
use Rattle.atomic_table.specs.Seated.{TableId}
use Rattle.hp_base.specs.declared.limits.TheConstants.{MAX_HEAPS}
use Rattle.hp_heap.specs.History.{HeapView}
use Rattle.hp_segs.specs.SegsView.{SegsView}
use Rattle.hp_hall.specs.Views.{HeldHeap}
use Rattle.hp_hall.specs.declared.kept.Kept.{Kept}
use Rattle.hp_hall.specs.declared.kept.Kept.TheVariants.{Heap, Names, Segments}
use Rattle.hp_hall.specs.declared.slot.TheConstants.{NAMES_SLOT}
use Rattle.hp_zone.specs.declared.names.Names.{Names as NamesView}
use Rattle.hp_board.specs.Closing.{HandedOut}
use Rattle.hp_board.specs.SeatView.{SeatView}
use Rattle.hp_stats.specs.StatViews.{PenView}

-- a seat is at a table, and holds no slot
pub record IsSeatOf (id : TableId) (seat : SeatView) : Type 0 where
  pub board : seat.board ≡ id
  pub holds : seat.mine.held ≡ []

-- each slot of a closed table has its value: a heap's slot a heap, the one after these the segment value, and the last one the names
pub record HaveValues (items : List (Option Kept)) : Type 0 where
  pub heap : (slot : ℕ) → slot < MAX_HEAPS → (held : HeldHeap) × (get_elem? items slot ≡ some (Some (Heap held.heap held.pen)))
  pub segs : (segs : SegsView) × (get_elem? items MAX_HEAPS ≡ some (Some (Segments segs)))
  pub names : (names : NamesView) × (get_elem? items NAMES_SLOT ≡ some (Some (Names names)))

-- the value of a slot is a heap, with the pen at that place
pub record IsHeapIn (items : List (Option Kept)) (pens : List PenView) (slot : ℕ) (heap : HeapView) : Type 0 where
  pub pen : PenView
  pub its : slice_get pens slot ≡ Some pen
  pub there : get_elem? items slot ≡ some (Some (Heap heap pen))

-- the heaps with their pens, the segment value and the names are the values of the slots
pub record AreFrom (items : List (Option Kept)) (out : HandedOut) : Type 0 where
  pub count : length out.heaps ≡ MAX_HEAPS
  pub pen_count : length out.pens ≡ MAX_HEAPS
  pub segs : get_elem? items MAX_HEAPS ≡ some (Some (Segments out.segs))
  pub names : get_elem? items NAMES_SLOT ≡ some (Some (Names out.names))
  pub each : (slot : ℕ) (heap : HeapView) → slice_get out.heaps slot ≡ Some heap → IsHeapIn items out.pens slot heap
