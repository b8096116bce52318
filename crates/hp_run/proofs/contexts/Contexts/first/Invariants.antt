use Rattle.std.proofs.Common.{◌≡◌, ◌<◌, ℕ, [], length, Some}
use Rattle.std.specs.List.{slice_get}
use Rattle.hp_run.specs.Running.{taken_along}
use Rattle.hp_run.proofs.contexts.Contexts.first.Given as goal

-- those below a number know what they know before their first lines
abbrev pub invariant-loop-who : goal.invariant-loop-who
invariant-loop-who l = record {
  many : length l.contexts.items ≡ l.who;
  know : (who : ℕ) → who < l.who → slice_get l.contexts.items who ≡ Some (Some (taken_along l.fn.workload who []));
}
