use Rattle.std.proofs.Common.{◌≡◌, List, length, refl, sym, ap, subst, ◌∙◌}
use Rattle.hp_hall.specs.Mail.{MailStep, Notes}
use Rattle.hp_hall.specs.Own.{Own, after_partial}
use Rattle.hp_hall.specs.Telling.{acked_since_take}
use Rattle.hp_hall.specs.declared.note.Note.TheVariants.{Unmapped}
use Rattle.hp_board.specs.SeatView.{SeatView}
use Rattle.hp_board.specs.Views.{own_of}
use Rattle.hp_chair.specs.ChairInside.{IsChair}
use Rattle.hp_chair.specs.ChairView.{ChairView, chair_state}
use Rattle.hp_chair.proofs.ChairNotes.{acked_unmapped, chair_noted, hand_unmapped, note_come}
use Rattle.hp_chair.proofs.ChairSteps.{ComesTo, chair_of, its_own, own_old}
use Rattle.hp_chair.proofs.ChairTakes.{with_seat}
use Rattle.hp_chair.proofs.SeatGoes.{goes_unmapped, leaves_unmapped, own_unmapped}
use Rattle.hp_chair.proofs.StepsDone.{done_unmapped}
use Rattle.hp_chair.proofs.board_hall.calls.BoardHallHall.note_unmapped.Goals as goal

pub invariant_of-self : goal.invariant_of-self
invariant_of-self g c =
    let seat : SeatView = c.note_unmapped.new.seat in
    let inside = c.self.inside in
    let before = chair_of inside.seat inside.boxes.now inside.passes.items inside.stats inside.log inside.full_mailboxes inside.stopped inside.turns in
    let its = its_own c.args.me c.self.view_is c.requires.serves in
    subst (λ (steps : List MailStep). IsChair inside.board.now inside.boxes.now inside.cells.now (with_seat seat steps before))
    (sym c.with_note.ensures)
    (chair_noted c.args.me Unmapped (λ heap told. refl) before seat its c.self.invariant.declared
    (goes_unmapped before.seat.mine seat.mine c.note_unmapped.ensures.unmapped)
    (leaves_unmapped before.seat.mine seat.mine c.note_unmapped.ensures.unmapped) c.note_unmapped.ensures.board
    inside.board.now inside.boxes.now inside.cells.now c.self.invariant
    (hand_unmapped before.seat.mine seat.mine c.note_unmapped.ensures.unmapped)
    (acked_unmapped (acked_since_take before.steps) before.seat.mine seat.mine c.note_unmapped.ensures.unmapped c.self.invariant.acked)
    (λ heap. refl))

pub returns : goal.returns
returns g c =
    let seat : SeatView = c.note_unmapped.new.seat in
    let inside = c.self.inside in
    let before = chair_of inside.seat inside.boxes.now inside.passes.items inside.stats inside.log inside.full_mailboxes inside.stopped inside.turns in
    let its = its_own c.args.me c.self.view_is c.requires.serves in
    let after : ChairView = with_seat seat c.with_note.result before in
    let part : Own = after_partial (length before.seat.mine.log) ((chair_state before).own c.args.me) in
    let own : own_of seat.mine ≡ part =
    own_unmapped before.seat.mine seat.mine c.note_unmapped.ensures.unmapped
    ∙ ap (after_partial (length before.seat.mine.log)) (sym (own_old c.args.me before before its refl)) in
    let here : ComesTo c.args.me part (Notes Unmapped) before after =
    subst (λ (steps : List MailStep). ComesTo c.args.me part (Notes Unmapped) before (with_seat seat steps before))
    (sym c.with_note.ensures)
    (note_come c.args.me Unmapped (λ heap told. refl) before seat its c.self.invariant.declared
    (goes_unmapped before.seat.mine seat.mine c.note_unmapped.ensures.unmapped)
    (leaves_unmapped before.seat.mine seat.mine c.note_unmapped.ensures.unmapped) c.note_unmapped.ensures.board
    (done_unmapped before.seat.mine seat.mine c.note_unmapped.ensures.unmapped) part own) in
    let is : ComesTo c.args.me (after_partial (length c.args.self.now.seat.mine.log) ((chair_state c.args.self.now).own c.args.me))
    (Notes Unmapped) c.args.self.now after =
    subst (λ (chair : ChairView).
    ComesTo c.args.me (after_partial (length chair.seat.mine.log) ((chair_state chair).own c.args.me)) (Notes Unmapped) chair after)
    c.self.view_is here in
    record { own = is.own; measure = is.measure; goes_on = is.goes_on }
