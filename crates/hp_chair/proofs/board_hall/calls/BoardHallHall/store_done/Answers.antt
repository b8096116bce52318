use Rattle.std.proofs.Common.{ℕ, List, sym, subst}
use Rattle.hp_hall.specs.Mail.{MailStep}
use Rattle.hp_board.specs.SeatView.{SeatView}
use Rattle.hp_chair.specs.ChairInside.{IsChair}
use Rattle.hp_chair.specs.ChairView.{ChairView}
use Rattle.hp_chair.proofs.ChairLines.{StoresLines, all_home, chair_stored, store_here, told_least}
use Rattle.hp_chair.proofs.ChairSteps.{chair_of, its_own}
use Rattle.hp_chair.proofs.ChairTakes.{with_seat}
use Rattle.hp_chair.proofs.board_hall.calls.BoardHallHall.store_done.Goals as goal

pub store_done-requires-clause-rises : goal.store_done-requires-clause-rises
store_done-requires-clause-rises g c =
    let inside = c.self.inside in
    let before = chair_of inside.seat inside.boxes.now inside.passes.items inside.stats inside.log inside.full_mailboxes inside.stopped inside.turns in
    let its = its_own c.args.me c.self.view_is c.requires.serves in
    told_least c.args.me c.args.lines before c.args.self.now c.self.view_is its c.requires.may.rises

pub store_done-requires-clause-home : goal.store_done-requires-clause-home
store_done-requires-clause-home g c =
    let inside = c.self.inside in
    let before = chair_of inside.seat inside.boxes.now inside.passes.items inside.stats inside.log inside.full_mailboxes inside.stopped inside.turns in
    let its = its_own c.args.me c.self.view_is c.requires.serves in
    all_home c.args.me c.args.lines inside.board.now inside.boxes.now inside.cells.now before c.args.self.now c.self.view_is its
    c.self.invariant c.requires.may

pub invariant_of-self : goal.invariant_of-self
invariant_of-self g c =
    let lines : ℕ = c.args.lines in
    let seat : SeatView = c.store_done.new.seat in
    let inside = c.self.inside in
    let before = chair_of inside.seat inside.boxes.now inside.passes.items inside.stats inside.log inside.full_mailboxes inside.stopped inside.turns in
    let its = its_own c.args.me c.self.view_is c.requires.serves in
    let rises = told_least c.args.me lines before c.args.self.now c.self.view_is its c.requires.may.rises in
    subst (λ (steps : List MailStep). IsChair inside.board.now inside.boxes.now inside.cells.now (with_seat seat steps before))
    (sym c.with_note.ensures)
    (chair_stored c.args.me lines before seat its c.self.invariant.declared rises c.store_done.ensures.told c.store_done.ensures.board
    inside.board.now inside.boxes.now inside.cells.now c.self.invariant)

pub returns : goal.returns
returns g c =
    let lines : ℕ = c.args.lines in
    let seat : SeatView = c.store_done.new.seat in
    let inside = c.self.inside in
    let before = chair_of inside.seat inside.boxes.now inside.passes.items inside.stats inside.log inside.full_mailboxes inside.stopped inside.turns in
    let its = its_own c.args.me c.self.view_is c.requires.serves in
    let rises = told_least c.args.me lines before c.args.self.now c.self.view_is its c.requires.may.rises in
    let after : ChairView = with_seat seat c.with_note.result before in
    let here : StoresLines c.args.me lines before after =
    subst (λ (steps : List MailStep). StoresLines c.args.me lines before (with_seat seat steps before)) (sym c.with_note.ensures)
    (store_here c.args.me lines before seat its c.self.invariant.declared rises c.store_done.ensures.told c.store_done.ensures.board) in
    let is : StoresLines c.args.me lines c.args.self.now after =
    subst (λ (chair : ChairView). StoresLines c.args.me lines chair after) c.self.view_is here in
    record { stored = is.stored; measure = is.measure; goes_on = is.goes_on }
