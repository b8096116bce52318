use Rattle.std.proofs.Common.{true, sym, subst}
use Rattle.hp_hall.specs.Own.{Own}
use Rattle.hp_serve.specs.Tied.{IsTied, no_chunks}
use Rattle.test_board.proofs.PlayLemmas.{come_holds, holds_tied}
use Rattle.test_board.proofs.tests.turn.leader.poll_of.Goals as goal

pub returns-clause-holds : goal.returns-clause-holds
returns-clause-holds c =
    come_holds c.args.board.now.id c.args.segs.now c.args.seat.now c.load_all-acks.new.seat c.args.maps.now c.args.maps.now c.requires.holds c.load_all-acks.ensures.board
    c.load_all-acks.ensures.comes
    (subst (λ (own : Own). IsTied c.args.segs.now.log own no_chunks true c.args.maps.now) (sym c.load_all-acks.ensures.own)
    (holds_tied c.args.board.now.id c.args.segs.now c.args.seat.now c.args.maps.now c.requires.holds))

pub returns-clause-known : goal.returns-clause-known
returns-clause-known c = λ member few. c.load_all-acks.ensures.noted member
