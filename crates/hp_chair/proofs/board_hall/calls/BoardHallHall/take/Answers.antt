use Rattle.std.proofs.Common.{◌≡◌, ℕ, List, [], ◌∷◌, ◌++◌, sym, ap, subst, ◌∙◌}
use Rattle.hp_hall.specs.Mail.{MailStep, Takes}
use Rattle.hp_hall.specs.Slots.{slot_number}
use Rattle.hp_board.specs.SeatView.{SeatView}
use Rattle.hp_chair.specs.ChairInside.{IsChair}
use Rattle.hp_chair.specs.ChairView.{ChairView}
use Rattle.hp_chair.proofs.ChairSteps.{chair_of, its_own}
use Rattle.hp_chair.proofs.ChairTakes.{HasTook, chair_taken, taken_here, with_seat}
use Rattle.hp_chair.proofs.board_hall.calls.BoardHallHall.take.Goals as goal

pub invariant_of-self : goal.invariant_of-self
invariant_of-self g c =
    let kept = c.take-kept.result in
    let seat : SeatView = c.take-kept.new.seat in
    let number : ℕ = slot_number c.args.slot in
    let inside = c.self.inside in
    let before = chair_of inside.seat inside.boxes.now inside.passes.items inside.stats inside.log inside.full_mailboxes inside.stopped inside.turns in
    let its = its_own c.args.me c.self.view_is c.requires.serves in
    let made : c.with_take.result ≡ before.steps ++ Takes number kept ∷ [] =
    c.with_take.ensures ∙ ap (λ (n : ℕ). before.steps ++ Takes n kept ∷ []) c.number.ensures in
    subst (λ (steps : List MailStep). IsChair inside.board.now inside.boxes.now inside.cells.now (with_seat seat steps before)) (sym made)
    (chair_taken c.args.me number kept before seat its c.self.invariant.declared c.take-kept.ensures.handed c.take-kept.ensures.taken
    c.take-kept.ensures.board
    inside.board.now inside.boxes.now inside.cells.now c.self.invariant)

pub returns : goal.returns
returns g c =
    let kept = c.take-kept.result in
    let seat : SeatView = c.take-kept.new.seat in
    let number : ℕ = slot_number c.args.slot in
    let inside = c.self.inside in
    let before = chair_of inside.seat inside.boxes.now inside.passes.items inside.stats inside.log inside.full_mailboxes inside.stopped inside.turns in
    let its = its_own c.args.me c.self.view_is c.requires.serves in
    let made : c.with_take.result ≡ before.steps ++ Takes number kept ∷ [] =
    c.with_take.ensures ∙ ap (λ (n : ℕ). before.steps ++ Takes n kept ∷ []) c.number.ensures in
    let after : ChairView = with_seat seat c.with_take.result before in
    let here : HasTook c.args.me number kept before after =
    subst (λ (steps : List MailStep). HasTook c.args.me number kept before (with_seat seat steps before)) (sym made)
    (taken_here c.args.me number kept before seat its c.self.invariant.declared c.take-kept.ensures.handed c.take-kept.ensures.taken
    c.take-kept.ensures.board) in
    let is : HasTook c.args.me number kept c.args.self.now after =
    subst (λ (chair : ChairView). HasTook c.args.me number kept chair after) c.self.view_is here in
    record { took = is.took; slots = is.slots; others = is.others; measure = is.measure; goes_on = is.goes_on }
