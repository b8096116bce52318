-- The seats are the new ones of participants 0 and 1.
use Rattle.std.proofs.Common.{[], ◌∷◌, sym, ◌∙◌}
use Rattle.hp_board.proofs.NamesFacts.NamesOpened.{names_open}
use Rattle.test_board.proofs.TwoOpened.{for_two, two_seats}
use Rattle.test_board.proofs.tests.chair.staging.seated.Goals as goal

pub returns-clause-board : goal.returns-clause-board
returns-clause-board c =
    for_two c.in_ok-board.board c.in_ok-segs.segs c.in_ok-board.ensures.participants c.in_ok-board.ensures.segs c.in_ok-segs.ensures.roster

pub returns-clause-first : goal.returns-clause-first
returns-clause-first c =
    (two_seats c.in_ok-board.board c.in-Some.first c.in-Some.second c.in_ok-board.ensures.participants
    (sym c.in_ok-board.ensures.seats ∙ c.in-Some.ensures)).first_is

pub returns-clause-second : goal.returns-clause-second
returns-clause-second c =
    (two_seats c.in_ok-board.board c.in-Some.first c.in-Some.second c.in_ok-board.ensures.participants
    (sym c.in_ok-board.ensures.seats ∙ c.in-Some.ensures)).second_is

pub new-requires-clause-names : goal.new-requires-clause-names
new-requires-clause-names c =
    names_open (0 ∷ []) c.in_ok-heaps.heaps.items c.in_ok-names.names c.in_ok-names.ensures.heaps c.in_ok-names.ensures.zones c.in_ok-heaps.ensures.names
