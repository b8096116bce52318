use Rattle.std.proofs.Common.{◌≡◌, ◌+◌, ◌<◌, vec_len, vec_capacity}
use Rattle.hp_plain.proofs.MovedIn.{HaveComeIn}
use Rattle.hp_plain.proofs.plain_hall.moving.into_slots.Given as goal

abbrev pub invariant-loop-slots : goal.invariant-loop-slots
invariant-loop-slots l = record {
  moved : HaveComeIn l.slots.items l.heaps.items l.initial.heaps.items l.pens.items l.initial.pens.items;
  many : vec_len l.pens ≡ vec_len l.heaps;
  room : vec_len l.slots + vec_len l.heaps + 1 < vec_capacity l.slots;
  kept : vec_capacity l.heaps ≡ vec_capacity l.initial.heaps;
}

abbrev pub decreases-loop-slots : goal.decreases-loop-slots
decreases-loop-slots l = vec_len l.heaps
