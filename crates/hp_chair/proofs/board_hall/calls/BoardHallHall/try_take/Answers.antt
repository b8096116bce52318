use Rattle.std.proofs.Common.{◌≡◌, ℕ, List, [], ◌∷◌, ◌++◌, sym, ap, subst, ◌∙◌}
use Rattle.hp_hall.specs.Mail.{MailStep, Takes}
use Rattle.hp_hall.specs.Slots.{slot_number}
use Rattle.hp_board.specs.SeatView.{SeatView}
use Rattle.hp_board.proofs.Finds.{finds_none, taken_after}
use Rattle.hp_chair.specs.ChairInside.{IsChair}
use Rattle.hp_chair.specs.ChairView.{ChairView}
use Rattle.hp_chair.proofs.ChairSteps.{chair_of, its_own}
use Rattle.hp_chair.proofs.ChairFinds.{HasLooked, chair_looked, looked_here}
use Rattle.hp_chair.proofs.ChairTakes.{HasTook, chair_taken, taken_here, with_seat}
use Rattle.hp_chair.proofs.board_hall.calls.BoardHallHall.try_take.Goals as goal

pub invariant_of-self : goal.invariant_of-self
invariant_of-self g c =
    let kept = c.in-Ok.kept in
    let seat : SeatView = c.try_take.new.seat in
    let number : ℕ = slot_number c.args.slot in
    let inside = c.self.inside in
    let before = chair_of inside.seat inside.boxes.now inside.passes.items inside.stats inside.log inside.full_mailboxes inside.stopped inside.turns in
    let its = its_own c.args.me c.self.view_is c.requires.serves in
    let made : c.with_take.result ≡ before.steps ++ Takes number kept ∷ [] =
    c.with_take.ensures ∙ ap (λ (n : ℕ). before.steps ++ Takes n kept ∷ []) c.number.ensures in
    let taken = taken_after before.seat.mine before.seat.mine seat.mine number kept (finds_none before.seat.mine) c.in-Ok.ensures.taken in
    subst (λ (steps : List MailStep). IsChair inside.board.now inside.boxes.now inside.cells.now (with_seat seat steps before)) (sym made)
    (chair_taken c.args.me number kept before seat its c.self.invariant.declared c.in-Ok.ensures.handed taken c.try_take.ensures.board
    inside.board.now inside.boxes.now inside.cells.now c.self.invariant)

pub returns-in-Ok : goal.returns-in-Ok
returns-in-Ok g c =
    let kept = c.in-Ok.kept in
    let seat : SeatView = c.try_take.new.seat in
    let number : ℕ = slot_number c.args.slot in
    let inside = c.self.inside in
    let before = chair_of inside.seat inside.boxes.now inside.passes.items inside.stats inside.log inside.full_mailboxes inside.stopped inside.turns in
    let its = its_own c.args.me c.self.view_is c.requires.serves in
    let made : c.with_take.result ≡ before.steps ++ Takes number kept ∷ [] =
    c.with_take.ensures ∙ ap (λ (n : ℕ). before.steps ++ Takes n kept ∷ []) c.number.ensures in
    let taken = taken_after before.seat.mine before.seat.mine seat.mine number kept (finds_none before.seat.mine) c.in-Ok.ensures.taken in
    let after : ChairView = with_seat seat c.with_take.result before in
    let here : HasTook c.args.me number kept before after =
    subst (λ (steps : List MailStep). HasTook c.args.me number kept before (with_seat seat steps before)) (sym made)
    (taken_here c.args.me number kept before seat its c.self.invariant.declared c.in-Ok.ensures.handed taken c.try_take.ensures.board) in
    let is : HasTook c.args.me number kept c.args.self.now after =
    subst (λ (chair : ChairView). HasTook c.args.me number kept chair after) c.self.view_is here in
    record { took = is.took; held = tt; slots = is.slots; others = is.others; measure = is.measure; goes_on = is.goes_on }

pub invariant_of-self-in-Err : goal.invariant_of-self-in-Err
invariant_of-self-in-Err g c =
    let seat : SeatView = c.try_take.new.seat in
    let number : ℕ = slot_number c.args.slot in
    let inside = c.self.inside in
    let before = chair_of inside.seat inside.boxes.now inside.passes.items inside.stats inside.log inside.full_mailboxes inside.stopped inside.turns in
    let its = its_own c.args.me c.self.view_is c.requires.serves in
    chair_looked c.args.me number c.in-Err.busy.word before seat its c.in-Err.ensures.busy c.in-Err.ensures.noted c.try_take.ensures.board
    inside.board.now inside.boxes.now inside.cells.now c.self.invariant

pub returns-in-Err : goal.returns-in-Err
returns-in-Err g c =
    let seat : SeatView = c.try_take.new.seat in
    let number : ℕ = slot_number c.args.slot in
    let inside = c.self.inside in
    let before = chair_of inside.seat inside.boxes.now inside.passes.items inside.stats inside.log inside.full_mailboxes inside.stopped inside.turns in
    let its = its_own c.args.me c.self.view_is c.requires.serves in
    let after : ChairView = with_seat seat before.steps before in
    let is : HasLooked c.args.me number c.in-Err.busy.word c.args.self.now after =
    subst (λ (chair : ChairView). HasLooked c.args.me number c.in-Err.busy.word chair after) c.self.view_is
    (looked_here c.args.me number c.in-Err.busy.word before seat its c.in-Err.ensures.busy c.in-Err.ensures.noted c.try_take.ensures.board)
    in
    record { took = tt; held = is.held; slots = is.slots; others = is.others; measure = is.measure; goes_on = is.goes_on }
