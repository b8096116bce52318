use Rattle.std.proofs.Common.{◌≡◌, ◌-◌, ◌≤◌, vec_len, vec_capacity}
use Rattle.hp_base.specs.declared.limits.TheConstants.{MAX_HEAPS}
use Rattle.hp_plain.specs.Moved.{AreSlotsOf}
use Rattle.hp_plain.proofs.HandedOut.{HaveComeOut}
use Rattle.hp_plain.proofs.plain_hall.moving.from_slots.Given as goal

abbrev pub invariant-loop-heap : goal.invariant-loop-heap
invariant-loop-heap l = record {
  moved : HaveComeOut l.heaps.items l.slots.items l.initial.slots.items;
  left : AreSlotsOf (MAX_HEAPS - l._heap) l.slots.items;
  count : vec_len l.heaps ≡ l._heap;
  room : MAX_HEAPS ≤ vec_capacity l.heaps;
}
