use Rattle.std.proofs.Common.{◌≡◌, ℕ, ◌<◌, length, map, take, get_or}
use Rattle.hp_heap.specs.History.{HeapView, IsSound}
use Rattle.hp_base.specs.declared.limits.TheConstants.{MAX_HEAPS}
use Rattle.hp_board.specs.Served.{serves_of}
use Rattle.hp_board.proofs.opening.Opening.of.Given as goal

abbrev pub invariant-loop-index : goal.invariant-loop-index
invariant-loop-index l =
    (length l.serves ≡ MAX_HEAPS) × (take l.index l.serves ≡ take l.index (map serves_of l.heaps)) × ((k : ℕ) (d : HeapView) → k < l.index → IsSound (get_or l.heaps k d))
