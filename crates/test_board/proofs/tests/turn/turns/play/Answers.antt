use Rattle.std.proofs.Common.{◌∙◌, sym}
use Rattle.test_board.proofs.ThreeOpened.{AreThree, three_seats}
use Rattle.test_board.proofs.ZoneLemmas.{newcomer_free}
use Rattle.test_board.proofs.tests.turn.turns.play.Goals as goal

pub bring-requires : goal.bring-requires
bring-requires g c =
    let board = c.in_ok-board.board in
    let three = c.in_ok-board.ensures.participants in
    let are : AreThree board c.in-Some.first c.in-Some.second c.in-Some.third =
    three_seats board c.in-Some.first c.in-Some.second c.in-Some.third three (sym c.in_ok-board.ensures.seats ∙ c.in-Some.ensures) in
    record { new = newcomer_free board 2 c.in-Some.third three are.third_is }

pub both-one-requires-clause-first : goal.both-one-requires-clause-first
both-one-requires-clause-first g c κs within =
    let board = c.in_ok-board.board in
    let three = c.in_ok-board.ensures.participants in
    let are : AreThree board c.in-Some.first c.in-Some.second c.in-Some.third =
    three_seats board c.in-Some.first c.in-Some.second c.in-Some.third three (sym c.in_ok-board.ensures.seats ∙ c.in-Some.ensures) in
    newcomer_free board 0 c.in-Some.first three are.first_is

pub both-one-requires-clause-second : goal.both-one-requires-clause-second
both-one-requires-clause-second g c κs within =
    let board = c.in_ok-board.board in
    let three = c.in_ok-board.ensures.participants in
    let are : AreThree board c.in-Some.first c.in-Some.second c.in-Some.third =
    three_seats board c.in-Some.first c.in-Some.second c.in-Some.third three (sym c.in_ok-board.ensures.seats ∙ c.in-Some.ensures) in
    newcomer_free board 1 c.in-Some.second three are.second_is
