use Rattle.std.proofs.Common.{◌≡◌}
use Rattle.hp_ring.specs.Taking.{HasTaken}
use Rattle.hp_ring.proofs.taking.take_both.Given as goal

abbrev pub invariant-loop : goal.invariant-loop
invariant-loop g l = record {
  ring : l.taken.pass.ring ≡ l.initial.taken.pass.ring;
  taken : HasTaken l.taken;
}
