use Rattle.std.proofs.Common.{List, sym, subst, ◌∙◌}
use Rattle.hp_board.specs.Closing.{IsAmong}
use Rattle.hp_board.specs.SeatView.{SeatView}
use Rattle.bench_board.proofs.Sharing.{AreThree, three_seats, everyone}
use Rattle.bench_board.proofs.VisitLemmas.{back}
use Rattle.bench_board.proofs.visited.visited.Goals as goal

pub close-requires-clause-everyone : goal.close-requires-clause-everyone
close-requires-clause-everyone g c who may =
    let board = c.in_ok-board.board in
    let are : AreThree board c.in-Some.first c.in-Some.second c.in-Some.third =
    three_seats board c.in-Some.first c.in-Some.second c.in-Some.third c.in_ok-board.ensures.participants (sym c.in_ok-board.ensures.seats ∙ c.in-Some.ensures) in
    subst (λ (l : List SeatView). IsAmong l who) (sym c.gathered.ensures)
    (everyone board c.all-first.result.0 c.all-first.result.1.0 c.all-first.result.1.1 c.in_ok-board.ensures.participants
    (back board 0 c.in-Some.first c.all-first.result.0 are.first_is c.all-first.ensures.first)
    (back board 1 c.in-Some.second c.all-first.result.1.0 are.second_is c.all-first.ensures.second)
    (back board 2 c.in-Some.third c.all-first.result.1.1 are.third_is c.all-first.ensures.third) who may)
