use Rattle.std.proofs.Common.{◌≡◌, ◌⊎◌, ◌≤◌, true, List, length, refl, sym, subst}
use Rattle.hp_base.specs.declared.limits.TheConstants.{MAX_HEAPS}
use Rattle.hp_hall.specs.Mail.{HasInHand, MailStep, Notes}
use Rattle.hp_hall.specs.Own.{Own, after_ack}
use Rattle.hp_hall.specs.declared.note.Note.TheVariants.{Acked}
use Rattle.hp_board.specs.SeatView.{SeatView}
use Rattle.hp_chair.specs.ChairInside.{IsChair}
use Rattle.hp_chair.specs.ChairView.{ChairView, chair_state}
use Rattle.hp_chair.proofs.ChairNotes.{acked_here, chair_noted, hand_acked, may_ack, note_come}
use Rattle.hp_chair.proofs.ChairSteps.{ComesTo, chair_of, its_own, own_old}
use Rattle.hp_chair.proofs.ChairTakes.{with_seat}
use Rattle.hp_chair.proofs.SeatGoes.{goes_acked, leaves_acked, own_acked}
use Rattle.hp_chair.proofs.StepsDone.{done_acked}
use Rattle.hp_chair.proofs.board_hall.calls.BoardHallHall.ack.Goals as goal

pub ack-requires-clause-hand : goal.ack-requires-clause-hand
ack-requires-clause-hand g c =
    let inside = c.self.inside in
    let before = chair_of inside.seat inside.boxes.now inside.passes.items inside.stats inside.log inside.full_mailboxes inside.stopped inside.turns in
    let its = its_own c.args.me c.self.view_is c.requires.serves in
    may_ack c.args.me inside.board.now inside.boxes.now inside.cells.now before its c.self.invariant
    (subst (λ (chair : ChairView). ((chair_state chair).joined c.args.me ≡ true) ⊎ HasInHand MAX_HEAPS
    ((chair_state chair).done c.args.me)) (sym c.self.view_is) c.requires.may)

pub ack-requires-clause-rises : goal.ack-requires-clause-rises
ack-requires-clause-rises g c =
    let inside = c.self.inside in
    let before = chair_of inside.seat inside.boxes.now inside.passes.items inside.stats inside.log inside.full_mailboxes inside.stopped inside.turns in
    let its = its_own c.args.me c.self.view_is c.requires.serves in
    subst (λ (own : Own). own.number ≤ c.args.number) (own_old c.args.me before before its refl)
    (subst (λ (chair : ChairView). ((chair_state chair).own c.args.me).number ≤ c.args.number) (sym c.self.view_is) c.requires.rises)

pub ack-requires-clause-seen : goal.ack-requires-clause-seen
ack-requires-clause-seen g c =
    subst (λ (chair : ChairView). c.args.number ≤ length chair.seat.mine.log) (sym c.self.view_is) c.requires.seen

pub invariant_of-self : goal.invariant_of-self
invariant_of-self g c =
    let seat : SeatView = c.ack.new.seat in
    let inside = c.self.inside in
    let before = chair_of inside.seat inside.boxes.now inside.passes.items inside.stats inside.log inside.full_mailboxes inside.stopped inside.turns in
    let its = its_own c.args.me c.self.view_is c.requires.serves in
    let rises =
    subst (λ (own : Own). own.number ≤ c.args.number) (own_old c.args.me before before its refl)
    (subst (λ (chair : ChairView). ((chair_state chair).own c.args.me).number ≤ c.args.number) (sym c.self.view_is) c.requires.rises) in
    subst (λ (steps : List MailStep). IsChair inside.board.now inside.boxes.now inside.cells.now (with_seat seat steps before))
    (sym c.with_note.ensures)
    (chair_noted c.args.me (Acked c.args.number) (λ heap told. refl) before seat its c.self.invariant.declared
    (goes_acked before.seat.mine seat.mine c.args.number c.ack.ensures.acked rises)
    (leaves_acked before.seat.mine seat.mine c.args.number c.ack.ensures.acked) c.ack.ensures.board
    inside.board.now inside.boxes.now inside.cells.now c.self.invariant
    (hand_acked before.seat.mine seat.mine c.args.number c.ack.ensures.acked)
    (acked_here before.seat.mine seat.mine c.args.number c.ack.ensures.acked) (λ heap. refl))

pub returns : goal.returns
returns g c =
    let seat : SeatView = c.ack.new.seat in
    let inside = c.self.inside in
    let before = chair_of inside.seat inside.boxes.now inside.passes.items inside.stats inside.log inside.full_mailboxes inside.stopped inside.turns in
    let its = its_own c.args.me c.self.view_is c.requires.serves in
    let rises =
    subst (λ (own : Own). own.number ≤ c.args.number) (own_old c.args.me before before its refl)
    (subst (λ (chair : ChairView). ((chair_state chair).own c.args.me).number ≤ c.args.number) (sym c.self.view_is) c.requires.rises) in
    let after : ChairView = with_seat seat c.with_note.result before in
    let here : ComesTo c.args.me (after_ack c.args.number) (Notes (Acked c.args.number)) before after =
    subst (λ (steps : List MailStep). ComesTo c.args.me (after_ack c.args.number) (Notes (Acked c.args.number)) before
    (with_seat seat steps before)) (sym c.with_note.ensures)
    (note_come c.args.me (Acked c.args.number) (λ heap told. refl) before seat its c.self.invariant.declared
    (goes_acked before.seat.mine seat.mine c.args.number c.ack.ensures.acked rises)
    (leaves_acked before.seat.mine seat.mine c.args.number c.ack.ensures.acked) c.ack.ensures.board
    (done_acked before.seat.mine seat.mine c.args.number c.ack.ensures.acked) (after_ack c.args.number) (own_acked before.seat.mine seat.mine c.args.number c.ack.ensures.acked)) in
    let is : ComesTo c.args.me (after_ack c.args.number) (Notes (Acked c.args.number)) c.args.self.now after =
    subst (λ (chair : ChairView). ComesTo c.args.me (after_ack c.args.number) (Notes (Acked c.args.number)) chair after) c.self.view_is
    here in
    record { own = is.own; measure = is.measure; goes_on = is.goes_on }
