use Rattle.std.proofs.Common.{◌<◌, ℕ, List, sym, subst}
use Rattle.hp_hall.specs.Mail.{MailStep}
use Rattle.hp_board.specs.SeatView.{SeatView}
use Rattle.hp_chair.specs.ChairInside.{IsChair}
use Rattle.hp_chair.specs.ChairView.{ChairView}
use Rattle.hp_chair.proofs.ChairLines.{LoadsLines, chair_loaded, load_here}
use Rattle.hp_chair.proofs.ChairSteps.{chair_of, its_own}
use Rattle.hp_chair.proofs.ChairTakes.{with_seat}
use Rattle.hp_chair.proofs.board_hall.calls.BoardHallHall.load_done.Goals as goal

pub load_done-lines-requires-clause-declared : goal.load_done-lines-requires-clause-declared
load_done-lines-requires-clause-declared g c =
    subst (λ (chair : ChairView). c.args.participant < chair.seat.mine.opening.participants) (sym c.self.view_is) c.requires.declared

pub invariant_of-self : goal.invariant_of-self
invariant_of-self g c =
    let from : ℕ = c.args.participant in
    let lines : ℕ = c.load_done-lines.result in
    let seat : SeatView = c.load_done-lines.new.seat in
    let inside = c.self.inside in
    let before = chair_of inside.seat inside.boxes.now inside.passes.items inside.stats inside.log inside.full_mailboxes inside.stopped inside.turns in
    let its = its_own c.args.me c.self.view_is c.requires.serves in
    let found = c.load_done-lines.ensures in
    subst (λ (steps : List MailStep). IsChair inside.board.now inside.boxes.now inside.cells.now (with_seat seat steps before))
    (sym c.with_note.ensures)
    (chair_loaded c.args.me from lines before seat its c.self.invariant.declared found.rises found.own found.looked found.board
    inside.board.now inside.boxes.now inside.cells.now c.self.invariant)

pub returns : goal.returns
returns g c =
    let from : ℕ = c.args.participant in
    let lines : ℕ = c.load_done-lines.result in
    let seat : SeatView = c.load_done-lines.new.seat in
    let inside = c.self.inside in
    let before = chair_of inside.seat inside.boxes.now inside.passes.items inside.stats inside.log inside.full_mailboxes inside.stopped inside.turns in
    let its = its_own c.args.me c.self.view_is c.requires.serves in
    let found = c.load_done-lines.ensures in
    let after : ChairView = with_seat seat c.with_note.result before in
    let here : LoadsLines c.args.me from lines before after =
    subst (λ (steps : List MailStep). LoadsLines c.args.me from lines before (with_seat seat steps before)) (sym c.with_note.ensures)
    (load_here c.args.me from lines before seat its c.self.invariant.declared found.rises found.own found.looked found.board) in
    let is : LoadsLines c.args.me from lines c.args.self.now after =
    subst (λ (chair : ChairView). LoadsLines c.args.me from lines chair after) c.self.view_is here in
    record { loaded = is.loaded; measure = is.measure; goes_on = is.goes_on }
