-- The value of a heap's slot is a heap, that of the slot after these a segment value, and that of the last one names.
use Rattle.std.proofs.Common.{◌≡◌, ℕ, ◌<◌, refl, arith}
use Rattle.hp_base.specs.declared.limits.TheConstants.{MAX_HEAPS}
use Rattle.hp_segs.specs.SegsView.{SegsView}
use Rattle.hp_hall.specs.Values.{IsHeap, IsNames, IsSegments}
use Rattle.hp_hall.specs.Views.{HeldHeap}
use Rattle.hp_hall.specs.declared.kept.Kept.{Kept}
use Rattle.hp_hall.specs.declared.kept.Kept.TheVariants.{Heap, Names, Segments}
use Rattle.hp_hall.specs.declared.slot.TheConstants.{NAMES_SLOT}
use Rattle.hp_zone.specs.declared.names.Names.{Names as NamesView}
use Rattle.hp_board.specs.KeptValues.{IsKeptAt}
use Rattle.hp_board.specs.declared.opening.Opening.{Opening}

pub heap_kept : (o : Opening) (slot : ℕ) (kept : Kept) → slot < MAX_HEAPS → IsKeptAt o slot kept → (held : HeldHeap) × (kept ≡ Heap held.heap held.pen)
heap_kept o slot (Heap heap pen) below at = (record { heap = heap; pen = pen }, refl)
heap_kept o slot (Segments segs) below at = let last = at.last in absurd (omega arith)
heap_kept o slot (Names names) below at = let last = at.last in absurd (omega arith)

pub segs_kept : (o : Opening) (kept : Kept) → IsKeptAt o MAX_HEAPS kept → (segs : SegsView) × (kept ≡ Segments segs)
segs_kept o (Heap heap pen) at = let below = at.heap.below in absurd (omega arith)
segs_kept o (Segments segs) at = (segs, refl)
segs_kept o (Names names) at = let last = at.last in absurd (omega arith)

pub names_kept : (o : Opening) (kept : Kept) → IsKeptAt o NAMES_SLOT kept → (names : NamesView) × (kept ≡ Names names)
names_kept o (Heap heap pen) at = let below = at.heap.below in absurd (omega arith)
names_kept o (Segments segs) at = let last = at.last in absurd (omega arith)
names_kept o (Names names) at = (names, refl)

pub is_heap : (o : Opening) (slot : ℕ) (kept : Kept) → slot < MAX_HEAPS → IsKeptAt o slot kept → IsHeap kept
is_heap o slot (Heap heap pen) below at = tt
is_heap o slot (Segments segs) below at = let last = at.last in absurd (omega arith)
is_heap o slot (Names names) below at = let last = at.last in absurd (omega arith)

pub is_segments : (o : Opening) (kept : Kept) → IsKeptAt o MAX_HEAPS kept → IsSegments kept
is_segments o (Heap heap pen) at = let below = at.heap.below in absurd (omega arith)
is_segments o (Segments segs) at = tt
is_segments o (Names names) at = let last = at.last in absurd (omega arith)

pub is_names : (o : Opening) (kept : Kept) → IsKeptAt o NAMES_SLOT kept → IsNames kept
is_names o (Heap heap pen) at = let below = at.heap.below in absurd (omega arith)
is_names o (Segments segs) at = let last = at.last in absurd (omega arith)
is_names o (Names names) at = tt
