use Rattle.std.proofs.Common.{◌≡◌}
use Rattle.hp_board.specs.Views.{FindsMore}
use Rattle.hp_turn.proofs.locks.take.Given as goal

abbrev pub invariant-loop : goal.invariant-loop
invariant-loop g l = (l.seat.board ≡ l.initial.seat.board) × FindsMore l.initial.seat.mine l.seat.mine
