use Rattle.std.proofs.Common.{List, sym, subst}
use Rattle.hp_board.specs.Closing.{IsAmong}
use Rattle.hp_board.specs.SeatView.{SeatView}
use Rattle.test_board.proofs.ThreeOpened.{everyone}
use Rattle.test_board.proofs.tests.turn.turns.closed.Goals as goal

pub close-requires-clause-everyone : goal.close-requires-clause-everyone
close-requires-clause-everyone c who may =
    subst (λ (l : List SeatView). IsAmong l who) (sym c.gathered.ensures)
    (everyone c.args.board c.args.first c.args.second c.args.third c.requires.three c.requires.first c.requires.second c.requires.third who may)
