use Rattle.std.proofs.Common.{◌≤◌}
use Rattle.bench_board.proofs.main.Given as goal

abbrev pub invariant-loop : goal.invariant-loop
invariant-loop g l = l.whole ≤ l.counter
