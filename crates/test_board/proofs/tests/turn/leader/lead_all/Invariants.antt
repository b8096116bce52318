use Rattle.std.proofs.Common.{◌≡◌, []}
use Rattle.test_board.specs.Playing.{IsPlaying}
use Rattle.test_board.proofs.tests.turn.leader.lead_all.Given as goal

abbrev pub invariant-loop : goal.invariant-loop
invariant-loop g l = record {
  playing : IsPlaying l.board.id l.seat l.maps;
  first : l.seat.mine.who ≡ 0;
  held : l.seat.mine.held ≡ [];
}
