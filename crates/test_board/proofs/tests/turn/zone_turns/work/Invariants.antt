use Rattle.std.proofs.Common.{◌+◌, ◌*◌, ◌≤◌}
use Rattle.test_board.specs.Zoning.{IsFree}
use Rattle.test_board.proofs.tests.turn.zone_turns.work.Given as goal

abbrev pub invariant-loop : goal.invariant-loop
invariant-loop g l = record {
  free : IsFree l.board.id l.who l.made l.seat;
  few : l.made ≤ 1 + 3 * l.counter;
}
