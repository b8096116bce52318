use Rattle.std.proofs.Common.{◌≡◌, ℕ, List, [], ◌∷◌, ◌++◌, sym, ap, subst, ◌∙◌}
use Rattle.hp_hall.specs.Mail.{Gives, MailStep}
use Rattle.hp_hall.specs.Slots.{slot_number}
use Rattle.hp_board.specs.SeatView.{SeatView}
use Rattle.hp_chair.specs.ChairInside.{IsChair}
use Rattle.hp_chair.specs.ChairView.{ChairView}
use Rattle.hp_chair.proofs.ChairSteps.{chair_of, its_own}
use Rattle.hp_chair.proofs.ChairGives.{HasGave, chair_given, gives_by, given_here}
use Rattle.hp_chair.proofs.ChairTakes.{with_seat}
use Rattle.hp_chair.proofs.board_hall.calls.BoardHallHall.give.Goals as goal

pub give-requires-clause-gives : goal.give-requires-clause-gives
give-requires-clause-gives g c =
    let inside = c.self.inside in
    let before = chair_of inside.seat inside.boxes.now inside.passes.items inside.stats inside.log inside.full_mailboxes inside.stopped inside.turns in
    let its = its_own c.args.me c.self.view_is c.requires.serves in
    (gives_by c.args.me (slot_number c.args.slot) c.args.kept inside.board.now inside.boxes.now inside.cells.now before c.args.self.now
    c.self.view_is its c.self.invariant c.requires.gives).at

pub invariant_of-self : goal.invariant_of-self
invariant_of-self g c =
    let kept = c.args.kept in
    let seat : SeatView = c.give.new.seat in
    let number : ℕ = slot_number c.args.slot in
    let inside = c.self.inside in
    let before = chair_of inside.seat inside.boxes.now inside.passes.items inside.stats inside.log inside.full_mailboxes inside.stopped inside.turns in
    let its = its_own c.args.me c.self.view_is c.requires.serves in
    let made : c.with_give.result ≡ before.steps ++ Gives number kept ∷ [] =
    c.with_give.ensures ∙ ap (λ (n : ℕ). before.steps ++ Gives n kept ∷ []) c.number.ensures in
    let gives = gives_by c.args.me number kept inside.board.now inside.boxes.now inside.cells.now before c.args.self.now c.self.view_is its
    c.self.invariant c.requires.gives in
    subst (λ (steps : List MailStep). IsChair inside.board.now inside.boxes.now inside.cells.now (with_seat seat steps before)) (sym made)
    (chair_given c.args.me number kept inside.board.now inside.boxes.now inside.cells.now before seat its c.self.invariant gives
    c.give.ensures.given
    c.give.ensures.own c.give.ensures.mapped c.give.ensures.board)

pub returns : goal.returns
returns g c =
    let kept = c.args.kept in
    let seat : SeatView = c.give.new.seat in
    let number : ℕ = slot_number c.args.slot in
    let inside = c.self.inside in
    let before = chair_of inside.seat inside.boxes.now inside.passes.items inside.stats inside.log inside.full_mailboxes inside.stopped inside.turns in
    let its = its_own c.args.me c.self.view_is c.requires.serves in
    let made : c.with_give.result ≡ before.steps ++ Gives number kept ∷ [] =
    c.with_give.ensures ∙ ap (λ (n : ℕ). before.steps ++ Gives n kept ∷ []) c.number.ensures in
    let gives = gives_by c.args.me number kept inside.board.now inside.boxes.now inside.cells.now before c.args.self.now c.self.view_is its
    c.self.invariant c.requires.gives in
    let after : ChairView = with_seat seat c.with_give.result before in
    let here : HasGave c.args.me number kept before after =
    subst (λ (steps : List MailStep). HasGave c.args.me number kept before (with_seat seat steps before)) (sym made)
    (given_here c.args.me number kept inside.board.now inside.boxes.now inside.cells.now before seat its c.self.invariant gives
    c.give.ensures.given
    c.give.ensures.own c.give.ensures.mapped c.give.ensures.board) in
    let is : HasGave c.args.me number kept c.args.self.now after =
    subst (λ (chair : ChairView). HasGave c.args.me number kept chair after) c.self.view_is here in
    record { gave = is.gave; slots = is.slots; others = is.others; measure = is.measure; goes_on = is.goes_on }
