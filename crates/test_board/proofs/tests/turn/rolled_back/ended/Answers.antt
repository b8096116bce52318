use Rattle.std.proofs.Common.{List, sym, subst, arith}
use Rattle.hp_board.specs.Closing.{IsAmong}
use Rattle.hp_board.specs.SeatView.{SeatView}
use Rattle.test_board.proofs.ThreeOpened.{back_loaded, everyone}
use Rattle.test_board.proofs.tests.turn.rolled_back.ended.Goals as goal

pub load_ack-word-requires-clause-declared : goal.load_ack-word-requires-clause-declared
load_ack-word-requires-clause-declared c = let three = c.requires.third.three in omega (arith, three)

pub close-closed-requires-clause-everyone : goal.close-closed-requires-clause-everyone
close-closed-requires-clause-everyone c who may =
    let loaded =
    back_loaded c.args.board.id 2 2 c.load_ack-word.result c.args.third.0 c.load_ack-word.new.seat c.requires.third c.load_ack-word.ensures.board c.load_ack-word.ensures.loaded in
    subst (λ (l : List SeatView). IsAmong l who) (sym c.gathered.ensures)
    (everyone c.args.board c.args.leader.0 c.args.asker.0 c.load_ack-word.new.seat c.requires.three c.requires.leader c.requires.asker loaded who may)
