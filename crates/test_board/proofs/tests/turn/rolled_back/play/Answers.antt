use Rattle.std.proofs.Common.{sym, lit<, ◌∙◌}
use Rattle.test_board.proofs.ThreeOpened.{AreThree, member_of, newcomer_plays, three_seats}
use Rattle.test_board.proofs.tests.turn.rolled_back.play.Goals as goal

pub all-leader-requires-clause-leader : goal.all-leader-requires-clause-leader
all-leader-requires-clause-leader g c κs within =
    let board = c.in_ok-board.board in
    let three = c.in_ok-board.ensures.participants in
    let are : AreThree board c.in-Some.first c.in-Some.second c.in-Some.third =
    three_seats board c.in-Some.first c.in-Some.second c.in-Some.third three (sym c.in_ok-board.ensures.seats ∙ c.in-Some.ensures) in
    newcomer_plays board 0 c.in-Some.first c.in_ok-tables.tables.0 three
    (member_of board c.in_ok-segs.segs 0 c.in_ok-board.ensures.segs c.in_ok-segs.ensures.roster (lit< tt)) are.first_is c.in_ok-tables.ensures.first

pub all-leader-requires-clause-asker : goal.all-leader-requires-clause-asker
all-leader-requires-clause-asker g c κs within =
    let board = c.in_ok-board.board in
    let three = c.in_ok-board.ensures.participants in
    let are : AreThree board c.in-Some.first c.in-Some.second c.in-Some.third =
    three_seats board c.in-Some.first c.in-Some.second c.in-Some.third three (sym c.in_ok-board.ensures.seats ∙ c.in-Some.ensures) in
    newcomer_plays board 1 c.in-Some.second c.in_ok-tables.tables.1 three
    (member_of board c.in_ok-segs.segs 1 c.in_ok-board.ensures.segs c.in_ok-segs.ensures.roster (lit< tt)) are.second_is c.in_ok-tables.ensures.second

pub all-leader-requires-clause-third : goal.all-leader-requires-clause-third
all-leader-requires-clause-third g c κs within =
    let board = c.in_ok-board.board in
    let three = c.in_ok-board.ensures.participants in
    let are : AreThree board c.in-Some.first c.in-Some.second c.in-Some.third =
    three_seats board c.in-Some.first c.in-Some.second c.in-Some.third three (sym c.in_ok-board.ensures.seats ∙ c.in-Some.ensures) in
    newcomer_plays board 2 c.in-Some.third c.in_ok-tables.tables.2 three
    (member_of board c.in_ok-segs.segs 2 c.in_ok-board.ensures.segs c.in_ok-segs.ensures.roster (lit< tt)) are.third_is c.in_ok-tables.ensures.third
