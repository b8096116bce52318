use Rattle.test_board.specs.Zoning.{IsFree}
use Rattle.test_board.proofs.tests.turn.zone_turns.reserve.Given as goal

abbrev pub invariant-loop : goal.invariant-loop
invariant-loop g l = IsFree l.board.id l.who l.made l.seat
