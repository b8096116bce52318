use Rattle.std.proofs.Common.{◌≤◌}
use Rattle.bench_board.proofs.count_of.Given as goal

abbrev pub invariant-loop-entry : goal.invariant-loop-entry
invariant-loop-entry l = l.count ≤ l.entry-index
