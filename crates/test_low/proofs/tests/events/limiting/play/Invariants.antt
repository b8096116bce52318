-- They may be called.
use Rattle.std.specs.List.{All}
use Rattle.hp_events.specs.Validators.{validators_in}
use Rattle.test_low.proofs.tests.events.limiting.play.Given as goal

abbrev pub invariant-loop-place : goal.invariant-loop-place
invariant-loop-place g l = All (λ own. goal.F-IsAlwaysCallable g own.allows) (validators_in l.validators)
