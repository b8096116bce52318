use Rattle.std.proofs.Common.{◌≡◌, take}
use Rattle.hp_run.proofs.opening.plan_of.Given as goal

abbrev pub invariant-loop-entry : goal.invariant-loop-entry
invariant-loop-entry l = l.plan ≡ take l.entry-index l.fn.entries
