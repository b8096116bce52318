-- The answer is the line's, or the coordinator is told first.
use Rattle.std.proofs.Common.{◌≡◌, ◌∙◌, ℕ, ◌+◌, [], ◌∷◌, ◌++◌, List, None, refl, ap, sym, append-nil, subst, arith}
use Rattle.hp_base.specs.declared.row.Run.{Run}
use Rattle.hp_hall.specs.Holding.{HeapPart}
use Rattle.hp_hall.specs.Mail.{MailStep}
use Rattle.hp_log.specs.declared.log_record.LogRecord.{LogRecord}
use Rattle.hp_segs.specs.declared.outcome.AskLog.{AskLog}
use Rattle.hp_script.specs.declared.answer.Answer.TheVariants as answer
use Rattle.hp_proc.specs.Acting.{Acts, AreAsked}
use Rattle.hp_proc.specs.Denying.{denials_of}
use Rattle.hp_serve.specs.AskSteps.{DoesNotify}
use Rattle.hp_proc.specs.Doing.{Deed, Doing, Done, Goes, Leads}
use Rattle.hp_proc.specs.Freeing.{left_of}
use Rattle.hp_serve.specs.Party.{IsSameParty}
use Rattle.hp_proc.specs.ParticipantView.{ParticipantView}
use Rattle.hp_proc.specs.declared.element_act.Left.{Left}
use Rattle.hp_proc.specs.Progress.{Does, moment_of}
use Rattle.hp_proc.proofs.Joining.{context_still, does_same, goes_as}
use Rattle.hp_hall.proofs.HallStates.{did_same}
use Rattle.hp_proc.specs.Halting.{ActsOn}
use Rattle.hp_proc.specs.LineInHall.{HaltsHere, did_in, moment}
use Rattle.hp_serve.proofs.AskingFacts.AskedAlong.{on_err_any}
use Rattle.hp_proc.proofs.Halted.{halts_by}
use Rattle.hp_proc.proofs.HandFacts.Holds.{again_by, again_same}
use Rattle.hp_proc.proofs.LinesInHall.{idle_can}
use Rattle.hp_proc.proofs.participant.Participant.tell.Goals as goal

module _ (count : ℕ) (doer after : ParticipantView) (heap : ℕ) (run : Run) (parts later : ℕ → HeapPart) (log now more : List LogRecord)
    (asks heard others : List AskLog) (alike : (index : ℕ) → later index ≡ parts index) (same : IsSameParty doer.party after.party)
    (known : after.context ≡ doer.context)
    (log_is : now ≡ log ++ more) (asks_is : heard ≡ asks ++ others) where
  -- a run that was given up was told of
  does_tell : (did : List MailStep → Type 0) (steps : List MailStep) → did steps
      → DoesNotify (denials_of doer.context.standing) count doer.party after.party heap run steps
      → after.party.asked ≡ doer.party.asked + 1
      → Does [] count did (Doing.Then (Deed.GiveUp heap run) (λ _. Doing.Ended answer.Done)) (Doing.Ended answer.Done)
      (moment_of doer parts log asks)
      (moment_of after later now heard)
  unfolding Leads Goes AreAsked
  does_tell did steps made notifies asked = record {
    trace = Done.GaveUp heap run ∷ [];
    steps = steps;
    leads = (tt, refl, refl);
    made = made;
    acts = subst (λ (after : ParticipantView). Acts count None None [] doer after (Done.GaveUp heap run ∷ []) steps) (goes_as doer after known)
        (Acts.notifies_run doer after.party heap run steps notifies);
    entries = λ index. ap (λ (part : HeapPart). part.entries) (alike index) ∙ sym (append-nil (parts index).entries);
    serves = λ index. ap (λ (part : HeapPart). part.serves) (alike index);
    counted = context_still doer.context after.context known;
    same = same;
    asked = asked;
    more = more;
    log = log_is;
    outcomes = others;
    asks = asks_is;
  }

pub returns-in-Answered : goal.returns-in-Answered
returns-in-Answered g c =
    let doer = c.args.self.now in
    let me = doer.party.me in
    let hall = g.H.Hall.state c.args.hall.now in
    let at = moment me doer hall in
    record {
      does = subst (λ (left : Left). Does [] hall.count (did_in me hall hall) (left_of c.args.heap left) (Doing.Ended c.in-Answered.answer) at at)
          (sym c.in-Answered.is) (does_same hall.count (did_in me hall hall) (Doing.Ended c.in-Answered.answer) at (did_same me hall));
      clock = λ one. omega arith;
      halts = tt;
      ready = again_same doer c.requires.ready;
      goes_on = g.met.H.Hall.goes_on_same _;
    }

pub notify-requires : goal.notify-requires
notify-requires g c = record { can = idle_can c.requires.ready.idle }

pub returns-in_err-notify-in-GaveUp-clause-ready : goal.returns-in_err-notify-in-GaveUp-clause-ready
returns-in_err-notify-in-GaveUp-clause-ready g c =
    again_by c.args.self.now c.notify.new.self c.notify.ensures.stays c.notify.ensures.context c.requires.ready

pub returns-in_err-notify-in-GaveUp-clause-halts : goal.returns-in_err-notify-in-GaveUp-clause-halts
returns-in_err-notify-in-GaveUp-clause-halts g c =
    let doer = c.args.self.now in
    let me = doer.party.me in
    let old = g.H.Hall.state c.args.hall.now in
    let new = g.H.Hall.state c.notify.new.hall in
    let after = c.notify.new.self in
    let told = c.in_err-notify-in-GaveUp.ensures.err in
    let stays = c.notify.ensures.stays in
    let halts : HaltsHere [] me doer after old new (left_of c.args.heap c.args.left) =
    halts_by [] old.count (did_in me old new) (left_of c.args.heap c.args.left) (moment me doer old) (moment me after new) told.0 told.1
    (subst (λ (after : ParticipantView). ActsOn old.count None None [] doer after [] told.0) (goes_as doer after c.notify.ensures.context)
    (ActsOn.notice_stops doer after.party c.args.heap c.in-GaveUp.run' told.0 told.2))
    (λ index. ap (λ (part : HeapPart). part.entries) (stays.waits.parts.part index)) stays.same c.notify.ensures.context in
    on_err_any _ _ halts

pub returns-in_ok-notify-in-GaveUp : goal.returns-in_ok-notify-in-GaveUp
returns-in_ok-notify-in-GaveUp g c =
    let doer = c.args.self.now in
    let me = doer.party.me in
    let old = g.H.Hall.state c.args.hall.now in
    let new = g.H.Hall.state c.notify.new.hall in
    let after = c.notify.new.self in
    let told = c.in_ok-notify-in-GaveUp.ensures in
    let stays = c.notify.ensures.stays in
    let more = stays.waits.later.seen me in
    let others = stays.waits.later.heard me in
    record {
      does = subst (λ (left : Left). Does [] old.count (did_in me old new) (left_of c.args.heap left) (Doing.Ended answer.Done) (moment me doer old)
          (moment me after new)) (sym c.in-GaveUp.is)
          (does_tell old.count doer after c.args.heap c.in-GaveUp.run' (old.part me) (new.part me) (old.seen me) (new.seen me) more.0 (old.heard me)
          (new.heard me) others.0 stays.waits.parts.part stays.same c.notify.ensures.context more.1 others.1 (did_in me old new) told.did.0 told.did.1 told.did.2 told.asked);
      clock = c.notify.ensures.clock;
      halts = tt;
      ready = again_by doer after stays c.notify.ensures.context c.requires.ready;
      goes_on = c.notify.ensures.goes_on;
    }
