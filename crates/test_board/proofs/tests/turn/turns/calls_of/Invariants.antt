use Rattle.std.proofs.Common.{◌≤◌}
use Rattle.test_board.proofs.tests.turn.turns.calls_of.Given as goal

abbrev pub invariant-loop-entry : goal.invariant-loop-entry
invariant-loop-entry l = l.count ≤ l.entry-index
