use Rattle.std.proofs.Common.{◌≡◌, ◌<◌, ℕ, List, refl, sym, ap, subst, ◌∙◌}
use Rattle.hp_hall.specs.Mail.{MailStep, Notes}
use Rattle.hp_hall.specs.Own.{Own}
use Rattle.hp_hall.specs.Telling.{acked_since_take}
use Rattle.hp_hall.specs.declared.note.Note.TheVariants.{Loaded}
use Rattle.hp_board.specs.SeatView.{SeatView}
use Rattle.hp_chair.specs.ChairInside.{IsChair}
use Rattle.hp_chair.specs.ChairView.{ChairView, chair_state}
use Rattle.hp_chair.proofs.ChairNotes.{acked_loaded, chair_noted, hand_loaded, note_one}
use Rattle.hp_chair.proofs.ChairSteps.{DoesOne, chair_of, its_own, own_old}
use Rattle.hp_chair.proofs.ChairTakes.{with_seat}
use Rattle.hp_chair.proofs.SeatGoes.{goes_loaded, leaves_loaded, now_noted, own_loaded}
use Rattle.hp_chair.proofs.StepsDone.{done_loaded}
use Rattle.hp_chair.proofs.board_hall.calls.BoardHallHall.load_ack.Goals as goal

pub load_ack-number-requires-clause-declared : goal.load_ack-number-requires-clause-declared
load_ack-number-requires-clause-declared g c =
    subst (λ (chair : ChairView). c.args.participant < chair.seat.mine.opening.participants) (sym c.self.view_is) c.requires.declared

pub invariant_of-self : goal.invariant_of-self
invariant_of-self g c =
    let seat : SeatView = c.load_ack-number.new.seat in
    let number : ℕ = c.load_ack-number.result in
    let from : ℕ = c.args.participant in
    let inside = c.self.inside in
    let before = chair_of inside.seat inside.boxes.now inside.passes.items inside.stats inside.log inside.full_mailboxes inside.stopped inside.turns in
    let its = its_own c.args.me c.self.view_is c.requires.serves in
    let loaded = c.load_ack-number.ensures.loaded in
    let own = c.load_ack-number.ensures.own in
    subst (λ (steps : List MailStep). IsChair inside.board.now inside.boxes.now inside.cells.now (with_seat seat steps before))
    (sym c.with_note.ensures)
    (chair_noted c.args.me (Loaded from number) (λ heap told. refl) before seat its c.self.invariant.declared
    (goes_loaded before.seat.mine seat.mine from number loaded own c.load_ack-number.ensures.rises)
    (leaves_loaded before.seat.mine seat.mine from number loaded own) c.load_ack-number.ensures.board
    inside.board.now inside.boxes.now inside.cells.now c.self.invariant
    (hand_loaded before.seat.mine seat.mine from number loaded)
    (acked_loaded (acked_since_take before.steps) before.seat.mine seat.mine from number loaded c.self.invariant.acked)
    (λ heap. refl))

pub returns : goal.returns
returns g c =
    let seat : SeatView = c.load_ack-number.new.seat in
    let number : ℕ = c.load_ack-number.result in
    let from : ℕ = c.args.participant in
    let inside = c.self.inside in
    let before = chair_of inside.seat inside.boxes.now inside.passes.items inside.stats inside.log inside.full_mailboxes inside.stopped inside.turns in
    let its = its_own c.args.me c.self.view_is c.requires.serves in
    let loaded = c.load_ack-number.ensures.loaded in
    let own = c.load_ack-number.ensures.own in
    let after : ChairView = with_seat seat c.with_note.result before in
    let here : DoesOne c.args.me (Notes (Loaded from number)) before after =
    subst (λ (steps : List MailStep). DoesOne c.args.me (Notes (Loaded from number)) before (with_seat seat steps before))
    (sym c.with_note.ensures)
    (note_one c.args.me (Loaded from number) (λ heap told. refl) before seat its c.self.invariant.declared
    (goes_loaded before.seat.mine seat.mine from number loaded own c.load_ack-number.ensures.rises)
    (leaves_loaded before.seat.mine seat.mine from number loaded own) c.load_ack-number.ensures.board
    (done_loaded before.seat.mine seat.mine from number loaded) (own_loaded before.seat.mine seat.mine from number loaded own)) in
    let is : DoesOne c.args.me (Notes (Loaded from number)) c.args.self.now after =
    subst (λ (chair : ChairView). DoesOne c.args.me (Notes (Loaded from number)) chair after) c.self.view_is here in
    let mine : from ≡ c.args.me → number ≡ ((chair_state c.args.self.now).own c.args.me).number =
    λ same.
    subst (λ (chair : ChairView). number ≡ ((chair_state chair).own c.args.me).number) c.self.view_is
    (own (same ∙ its) ∙ sym (ap (λ (o : Own). o.number) (own_old c.args.me before before its refl))) in
    record {
      noted = now_noted before.seat.mine seat.mine from number loaded own;
      mine = mine;
      did = is.did;
      stays = is.stays;
      measure = is.measure;
      goes_on = is.goes_on;
    }
