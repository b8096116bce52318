use Rattle.std.proofs.Common.{◌≤◌, ◌+◌, inl, refl, subst, arith}
use Rattle.hp_hall.specs.Mail.{MailStep, Notes}
use Rattle.hp_hall.specs.Measures.{counted, pause_measure}
use Rattle.hp_hall.specs.declared.note.Note.TheVariants.{Paused}
use Rattle.hp_stats.specs.StatViews.{seen_of}
use Rattle.hp_board.proofs.Fronts.{front_itself}
use Rattle.hp_chair.specs.ChairView.{ChairView}
use Rattle.hp_chair.proofs.ChairKept.{chair_quiet, reader_step}
use Rattle.hp_chair.proofs.ChairNotes.{hand_same}
use Rattle.hp_chair.proofs.ChairOpens.{turn_falls}
use Rattle.hp_chair.proofs.ChairSteps.{DoesOne, chair_of, does_one, its_own, mail_still}
use Rattle.hp_chair.proofs.SeatGoes.{goes_same, leaves_same}
use Rattle.hp_chair.proofs.StepsDone.{before_same, beside_note, done_beside}
use Rattle.hp_chair.proofs.StepsOn.{quiet_note, tells_none}
use Rattle.hp_chair.proofs.board_hall.waiting.BoardHallWaiting.pause.Goals as goal

pub invariant_of-self : goal.invariant_of-self
invariant_of-self g c =
    let step : MailStep = Notes (Paused c.args.moved c.args.until) in
    let inside = c.self.inside in
    let before = chair_of inside.seat inside.boxes.now inside.passes.items inside.stats inside.log inside.full_mailboxes inside.stopped inside.turns in
    let its = its_own c.args.me c.self.view_is c.requires.serves in
    let after : ChairView =
    record before { steps = c.with_note.result; stopped = c.seen_stopped-self-inside.result; turns = c.one_less-self-inside.result } in
    chair_quiet inside.board.now inside.boxes.now inside.cells.now before after c.self.invariant refl (goes_same before.seat.mine) refl step
    (quiet_note (Paused c.args.moved c.args.until))
    c.with_note.ensures refl (hand_same before.seat.mine) c.self.invariant.acked
    (reader_step inside.cells.now before after c.self.invariant.reads refl refl step c.with_note.ensures
    (tells_none step (λ heap told. refl)) (λ heap. refl))

pub returns : goal.returns
returns g c =
    let step : MailStep = Notes (Paused c.args.moved c.args.until) in
    let inside = c.self.inside in
    let before = chair_of inside.seat inside.boxes.now inside.passes.items inside.stats inside.log inside.full_mailboxes inside.stopped inside.turns in
    let its = its_own c.args.me c.self.view_is c.requires.serves in
    let after : ChairView =
    record before { steps = c.with_note.result; stopped = c.seen_stopped-self-inside.result; turns = c.one_less-self-inside.result } in
    let is : DoesOne c.args.me step c.args.self.now after =
    subst (λ (chair : ChairView). DoesOne c.args.me step chair after) c.self.view_is
    (does_one c.args.me step before after its c.self.invariant.declared (record {
      board = refl;
      boxes = refl;
      cells = refl;
      goes = goes_same before.seat.mine;
      shown = λ heap. front_itself (seen_of heap before.stats);
      made = c.with_note.ensures;
      done = done_beside before.seat.mine before.seat.mine step (beside_note (Paused c.args.moved c.args.until) refl refl) (before_same before.seat.mine);
      mail = mail_still step before after refl tt refl refl refl;
      planned = tt;
      full_mailboxes = omega arith;
      turns = omega (arith, c.one_less-self-inside.ensures);
      stopped = c.seen_stopped-self-inside.ensures;
    }) (leaves_same before.seat.mine) (λ heap told. refl) refl) in
    record {
      idles = record { slots = is.stays.slots; mine = is.stays.mine; later = is.stays.others.later; did = is.did };
      falls = subst (λ (chair : ChairView).
          after.turns + counted (λ deadline. 0) c.args.until + pause_measure 0 c.args.moved ≤ chair.turns + counted (λ deadline. 0)
          c.args.until) c.self.view_is
          (turn_falls c.args.moved c.args.until after.turns before.turns c.one_less-self-inside.ensures);
      lower = λ deadline. omega arith;
      clock = inl refl;
      goes_on = is.goes_on;
    }
