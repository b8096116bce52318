use Rattle.test_board.proofs.PlayLemmas.{gave_has, gave_playing, may_give}
use Rattle.test_board.proofs.tests.turn.member.give_segs.Goals as goal

pub give-requires-clause-gives : goal.give-requires-clause-gives
give-requires-clause-gives c =
    may_give c.args.board.now.id c.args.seat.now c.args.seat.now c.args.maps.now c.args.taken.now.value c.args.given c.requires.holds c.requires.gives

pub returns-clause-playing : goal.returns-clause-playing
returns-clause-playing c =
    gave_playing c.args.board.now.id c.args.seat.now c.give.new.seat c.args.maps.now c.args.taken.now.value c.args.given c.requires.holds c.requires.gives c.give.ensures.given
    c.requires.member c.give.ensures.board

pub returns-clause-given : goal.returns-clause-given
returns-clause-given c =
    gave_has c.args.board.now.id c.args.seat.now c.give.new.seat c.args.maps.now c.args.taken.now.value c.args.given c.requires.holds c.requires.gives c.give.ensures.given
