use Rattle.std.proofs.Common.{◌≡◌, ◌+◌, ◌≤◌, ◌++◌, map, vec_len, vec_capacity}
use Rattle.std.specs.Prelude.{zip}
use Rattle.hp_board.specs.Moved.{slot_of}
use Rattle.hp_board.proofs.moving.into_slots.Given as goal

abbrev pub invariant-loop-slots : goal.invariant-loop-slots
invariant-loop-slots l =
    (l.slots.items ++ map slot_of (zip l.heaps.items l.pens.items) ≡ map slot_of (zip l.initial.heaps.items l.initial.pens.items))
    × (vec_len l.slots + vec_len l.heaps + 2 ≤ vec_capacity l.slots) × (vec_capacity l.heaps ≡ vec_capacity l.initial.heaps)
    × (vec_capacity l.pens ≡ vec_capacity l.initial.pens) × (vec_len l.pens ≡ vec_len l.heaps)

abbrev pub decreases-loop-slots : goal.decreases-loop-slots
decreases-loop-slots l = vec_len l.heaps
