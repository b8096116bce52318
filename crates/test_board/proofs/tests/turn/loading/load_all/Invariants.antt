use Rattle.std.proofs.Common.{◌≡◌, ℕ, ◌≤◌, get_or, length}
use Rattle.hp_board.specs.Views.{noted_of, own_of}
use Rattle.test_board.specs.Playing.{HasComeOn}
use Rattle.test_board.proofs.tests.turn.loading.load_all.Given as goal

abbrev pub invariant-loop-participant : goal.invariant-loop-participant
invariant-loop-participant l = record {
  board : l.seat.board ≡ l.initial.seat.board;
  comes : HasComeOn l.initial.seat.mine l.seat.mine;
  own : own_of l.seat.mine ≡ own_of l.initial.seat.mine;
  places : length l.acks ≡ 16;
  noted : (who : ℕ) → get_or l.acks who 0 ≤ noted_of who l.seat.mine;
}
