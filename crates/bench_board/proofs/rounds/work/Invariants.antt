use Rattle.std.proofs.Common.{◌*◌, ◌≤◌}
use Rattle.bench_board.specs.Rounds.{IsWorking}
use Rattle.bench_board.proofs.rounds.work.Given as goal

abbrev pub invariant-loop : goal.invariant-loop
invariant-loop g l = record {
  working : IsWorking l.board.id l.initial.seat.mine.who l.made l.seat;
  few : l.made ≤ 2 * l.counter;
}
