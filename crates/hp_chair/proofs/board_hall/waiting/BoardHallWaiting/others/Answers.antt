use Rattle.std.proofs.Common.{List, Some, false, refl, sym, subst, arith}
use Rattle.hp_hall.specs.Mail.{MailStep, Notes}
use Rattle.hp_hall.specs.declared.note.Note.TheVariants.{Yielded}
use Rattle.hp_chair.specs.ChairInside.{IsChair}
use Rattle.hp_chair.specs.ChairView.{ChairView}
use Rattle.hp_chair.proofs.ChairNotes.{chair_noted, hand_same, note_one}
use Rattle.hp_chair.proofs.ChairSteps.{DoesOne, chair_of, its_own}
use Rattle.hp_chair.proofs.ChairTakes.{with_seat}
use Rattle.hp_chair.proofs.SeatGoes.{goes_same, leaves_same}
use Rattle.hp_chair.proofs.StepsDone.{done_same}
use Rattle.hp_chair.proofs.board_hall.waiting.BoardHallWaiting.others.Goals as goal

pub invariant_of-self : goal.invariant_of-self
invariant_of-self g c =
    let inside = c.self.inside in
    let before = chair_of inside.seat inside.boxes.now inside.passes.items inside.stats inside.log inside.full_mailboxes inside.stopped inside.turns in
    let its = its_own c.args.me c.self.view_is c.requires.serves in
    subst (λ (steps : List MailStep). IsChair inside.board.now inside.boxes.now inside.cells.now (with_seat before.seat steps before))
    (sym c.with_note.ensures)
    (chair_noted c.args.me (Yielded c.args.above (Some false)) (λ heap told. refl) before before.seat its c.self.invariant.declared
    (goes_same before.seat.mine) (leaves_same before.seat.mine) refl
    inside.board.now inside.boxes.now inside.cells.now c.self.invariant (hand_same before.seat.mine) c.self.invariant.acked
    (λ heap. refl))

pub returns : goal.returns
returns g c =
    let inside = c.self.inside in
    let before = chair_of inside.seat inside.boxes.now inside.passes.items inside.stats inside.log inside.full_mailboxes inside.stopped inside.turns in
    let its = its_own c.args.me c.self.view_is c.requires.serves in
    let after : ChairView = with_seat before.seat c.with_note.result before in
    let here : DoesOne c.args.me (Notes (Yielded c.args.above (Some false))) before after =
    subst (λ (steps : List MailStep). DoesOne c.args.me (Notes (Yielded c.args.above (Some false))) before
    (with_seat before.seat steps before)) (sym c.with_note.ensures)
    (note_one c.args.me (Yielded c.args.above (Some false)) (λ heap told. refl) before before.seat its c.self.invariant.declared (goes_same before.seat.mine)
    (leaves_same before.seat.mine) refl
    (done_same before.seat.mine (Yielded c.args.above (Some false)) refl refl) refl) in
    let is : DoesOne c.args.me (Notes (Yielded c.args.above (Some false))) c.args.self.now after =
    subst (λ (chair : ChairView). DoesOne c.args.me (Notes (Yielded c.args.above (Some false))) chair after) c.self.view_is here in
    record {
      idles = record { slots = is.stays.slots; mine = is.stays.mine; later = is.stays.others.later; did = is.did };
      measure = omega
          (arith, is.measure);
      clock = refl;
      goes_on = is.goes_on;
    }
