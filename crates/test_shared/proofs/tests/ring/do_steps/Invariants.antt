-- The passes stay with their ring and their sender.
use Rattle.std.proofs.Common.{◌≡◌}
use Rattle.test_shared.proofs.tests.ring.do_steps.Given as goal

abbrev pub invariant-loop-step : goal.invariant-loop-step
invariant-loop-step g l = record {
  sender : (l.sender.ring ≡ l.initial.sender.ring) × (l.sender.who ≡ l.initial.sender.who);
  taker : l.taker.ring ≡ l.initial.taker.ring;
}
