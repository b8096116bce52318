use Rattle.std.proofs.Common.{◌<◌}
use Rattle.bench_board.specs.Rounds.{IsWorking}
use Rattle.bench_board.proofs.awaits.wait_for_a_line.Given as goal

abbrev pub invariant-loop : goal.invariant-loop
invariant-loop g l = IsWorking l.board.id l.initial.seat.mine.who 0 l.seat × (0 < l.seat.mine.opening.participants)
