use Rattle.std.proofs.Common.{map}
use Rattle.hp_mempool.specs.PassView.{AreOut, IsOf}
use Rattle.test_shared.proofs.tests.mempool.steps.do_steps.Given as goal

abbrev pub invariant-loop-step : goal.invariant-loop-step
invariant-loop-step g l = record {
  of : IsOf l.pass l.pool;
  out : AreOut l.pass (map (λ obj. obj.number) l.out.items);
}
