use Rattle.std.proofs.Common.{◌≡◌}
use Rattle.hp_ring.proofs.sending.put_whole.Given as goal

abbrev pub invariant-loop : goal.invariant-loop
invariant-loop g l = l.pass ≡ l.initial.pass
