-- Who waits tells of no line, nor does who asks, tells of a run, or does a line. As WaitsNoHeap of thm_run, of another kind of step.
use Rattle.std.proofs.Common.{ℕ, zero, suc, Bool, true, false, List, [], ◌∷◌, Option, Some, length, sym, subst}
use Rattle.std.proofs.lemmas.Option.{none-some}
use Rattle.hp_base.specs.declared.caught.Caught.{Caught}
use Rattle.hp_base.specs.declared.caught.Caught.TheVariants as caught
use Rattle.hp_base.specs.declared.row.Run.{Run}
use Rattle.hp_hall.specs.HallState.{HallState}
use Rattle.hp_hall.specs.Mail.{MailStep, Gives, Notes}
use Rattle.hp_hall.specs.declared.kept.Kept.TheVariants.{Names}
use Rattle.hp_hall.specs.declared.note.Note.TheVariants.{Read, Yielded}
use Rattle.hp_hall.specs.declared.slot.TheConstants.{NAMES_SLOT}
use Rattle.hp_script.specs.declared.answer.Answer.{Answer}
use Rattle.hp_script.specs.declared.line.Line.{Line}
use Rattle.hp_serve.specs.AskSteps.{DoesAsk, DoesNotify, IsAwaitedBy, IsSettledLate}
use Rattle.hp_serve.specs.Denials.{Denials}
use Rattle.hp_serve.specs.Party.{Party}
use Rattle.hp_serve.specs.Serving.{acks_after, gives_segments}
use Rattle.hp_serve.specs.Waiting.{AreServings, AreTurns, HaveServed, IsServedOut, IsTurned, IsWaited}
use Rattle.hp_serve.specs.declared.pages_asked.PagesAsked.{PagesAsked}
use Rattle.hp_segs.specs.declared.ask.Ask.{Ask}
use Rattle.hp_serve.specs.Attaching.{after_attaching}
use Rattle.hp_proc.specs.Acting.{Acts}
use Rattle.hp_proc.specs.Denying.{denials_of}
use Rattle.hp_proc.specs.Doing.{Done}
use Rattle.hp_proc.specs.LineInHall.{DoesLineHere}
use Rattle.hp_proc.specs.ParticipantView.{ParticipantView}
use Rattle.hp_threads.specs.Adding.{TellNothing}
use Rattle.hp_threads.proofs.ServesUntold.{served_untold, untold_both}

-- what an attach tells
pub acks_untold : (caught : Caught) (records : ℕ) → TellNothing (acks_after caught records)
acks_untold caught.Done records = (tt, tt)
acks_untold (caught.Refused row call) records = tt
acks_untold (caught.Elsewhere row call got) records = tt

module _ (denies : Denials) (count : ℕ) where
  servings_untold : (times : ℕ) (party after : Party) (steps : List MailStep) → AreServings denies count times party after steps → TellNothing steps
  unfolding AreServings
  servings_untold zero party after steps are = subst TellNothing (sym are.1) tt
  servings_untold (suc n) party after steps are =
      subst TellNothing (sym are.5)
      (untold_both are.1 are.2 (servings_untold n party are.0 are.1 are.3) (served_untold count are.0 after are.2 true are.4))

  served_out_untold : (party after : Party) (steps : List MailStep) (own : Bool) → IsServedOut denies count party after steps (Some own)
      → TellNothing steps
  served_out_untold party after steps own (IsServedOut.rests times mid first last few are served did is) =
      subst TellNothing (sym did)
      (untold_both first last (servings_untold times party mid first are) (served_untold count mid after last false served))
  served_out_untold party after steps own (IsServedOut.stops times mid first last few are served did is) = absurd (none-some own (sym is))
  served_out_untold party after steps own (IsServedOut.enough are is) = servings_untold _ party after steps are

  all_served_untold : (party after : Party) (steps : List MailStep) (moved : Bool) → HaveServed denies count party after steps (Some moved)
      → TellNothing steps
  all_served_untold party after steps moved (HaveServed.below_stops did after_is is) = absurd (none-some moved (sym is))
  all_served_untold party after steps moved (HaveServed.stops below own served did is) = absurd (none-some moved (sym is))
  all_served_untold party after steps moved (HaveServed.above_stops below mine own served did is) = absurd (none-some moved (sym is))
  all_served_untold party after steps moved (HaveServed.ends below mine above own served did is) =
      subst TellNothing (sym did)
      (tt, untold_both own (Notes (Yielded true (Some above)) ∷ []) (served_out_untold party after own mine served) (tt, tt))

  -- a turn that came to its end, and so many
  pub turn_untold : (until : ℕ) (party after : Party) (steps : List MailStep) (moved : Bool)
      → IsTurned denies count until party after steps (Some moved) → TellNothing steps
  turn_untold until party after steps moved (IsTurned.stops served is) = absurd (none-some moved (sym is))
  turn_untold until party after steps moved (IsTurned.ends any served paused have pauses did is) =
      subst TellNothing (sym did)
      (untold_both served paused (all_served_untold party after served any have) (subst TellNothing (sym pauses.are) (tt, (tt, tt))))

  turns_untold : (until : ℕ) (heeds : Bool) (turns : ℕ) (party after : Party) (steps : List MailStep)
      → AreTurns denies count until heeds turns party after steps → TellNothing steps
  unfolding AreTurns
  turns_untold until heeds zero party after steps are = subst TellNothing (sym are.1) tt
  turns_untold until heeds (suc n) party after steps are =
      subst TellNothing (sym are.8)
      (untold_both are.1 (Notes (Read are.3) ∷ are.2) (turns_untold until heeds n party are.0 are.1 are.5)
      (tt, turn_untold until are.0 after are.2 are.4 are.7))

  -- a wait that came to its end
  wait_untold : (until now : ℕ) (heeds : Bool) (party after : Party) (steps : List MailStep)
      → IsWaited denies count until heeds party after steps (Some now) → TellNothing steps
  wait_untold until now heeds party after steps (IsWaited.ends turns last first are waited did is) =
      subst TellNothing (sym did)
      (untold_both first (Notes (Read last) ∷ []) (turns_untold until heeds turns party after first are) (tt, tt))
  wait_untold until now heeds party after steps (IsWaited.stops turns at mid first last are waits one did is) = absurd (none-some now (sym is))

  settled_untold : (party after : Party) (ask : Ask) (since : ℕ) (steps : List MailStep) → IsSettledLate denies count party after ask since steps
      → TellNothing steps
  settled_untold party after ask since steps late =
      subst TellNothing (sym late.are)
      (untold_both late.waited _ (wait_untold _ late.now false party after late.waited late.waits) (tt, (tt, tt)))

  awaited_untold : (party after : Party) (ask : Ask) (since : ℕ) (steps : List MailStep) (run : Option Run)
      → IsAwaitedBy denies count party after ask since steps run → TellNothing steps
  awaited_untold party after ask since steps run (IsAwaitedBy.finds now waited looked waits look did) =
      subst TellNothing (sym did)
      (untold_both waited looked (wait_untold _ now true party after waited waits) (subst TellNothing (sym look.are) (tt, (tt, tt))))
  awaited_untold party after ask since steps run (IsAwaitedBy.settles mid now waited looked late waits look settled did) =
      subst TellNothing (sym did)
      (untold_both waited _ (wait_untold _ now true party mid waited waits)
      (untold_both looked late (subst TellNothing (sym look.are) (tt, (tt, tt))) (settled_untold mid after ask since late settled)))

  -- an ask, and a notice
  pub ask_untold : (party after : Party) (asked : PagesAsked) (steps : List MailStep) (run : Option Run)
      → DoesAsk denies count party after asked steps run → TellNothing steps
  ask_untold party after asked steps run does =
      subst TellNothing (sym does.are)
      (untold_both does.sending does.rest (subst TellNothing (sym does.sent.are) (tt, (tt, (tt, (tt, tt)))))
      (awaited_untold _ after _ does.since does.rest run does.awaited))

  pub notice_untold : (party after : Party) (heap : ℕ) (run : Run) (steps : List MailStep) → DoesNotify denies count party after heap run steps
      → TellNothing steps
  notice_untold party after heap run steps does =
      subst TellNothing (sym does.are) (tt, (tt, wait_untold _ does.now true _ after does.waited does.waits))

-- who does something of a line
pub acts_untold : {count : ℕ} {hand fin : Option ℕ} {held : List ℕ} {doer after : ParticipantView} {trace : List Done} {steps : List MailStep}
    → Acts count hand fin held doer after trace steps → TellNothing steps
acts_untold (Acts.nothing hand doer) = tt
acts_untold {count} (Acts.waits_turn until doer after moved steps turned) =
    turn_untold (denials_of doer.context.standing) count until doer.party after steps moved turned
acts_untold (Acts.takes_heap doer heap pen few) = (tt, tt)
acts_untold (Acts.gives_heap doer heap pen) = (tt, (tt, tt))
acts_untold (Acts.makes_call doer heap call answer uncut) = tt
acts_untold (Acts.cuts_run doer heap addr run taken) = (tt, (tt, tt))
acts_untold {count} (Acts.asks_pages doer after asked run steps does) =
    ask_untold (denials_of doer.context.standing) count doer.party after asked steps run does
acts_untold {count} (Acts.notifies_run doer after heap run steps does) =
    notice_untold (denials_of doer.context.standing) count doer.party after heap run steps does
acts_untold (Acts.attaches doer after taken caught tried) =
    let acks : List MailStep = acks_after caught (length taken.log) in
    let gives : List MailStep = gives_segments (after_attaching doer.party.me caught taken) ∷ [] in
    (tt, untold_both acks gives (acks_untold caught (length taken.log)) (tt, tt))
acts_untold (Acts.detaches doer taken told above left none heard) = (tt, (tt, (tt, tt)))
acts_untold (Acts.notes_left doer elements) = tt
acts_untold (Acts.reads_names doer names) = (tt, (tt, tt))
acts_untold (Acts.changes_names hand doer change) = tt
acts_untold (Acts.holds_names held doer after taken given trace steps inner changes) =
    (tt, untold_both steps (Gives NAMES_SLOT (Names given) ∷ []) (acts_untold inner) (tt, tt))
acts_untold (Acts.sees_heap doer heap pen few) = (tt, tt)
acts_untold (Acts.looks_at_segs doer heap taken) = (tt, (tt, tt))
acts_untold (Acts.plans_range doer heap addr len page taken) = (tt, (tt, tt))
acts_untold (Acts.claims doer heap chunk taken plan) = (tt, (tt, tt))
acts_untold (Acts.releases doer heap chunk taken) = (tt, (tt, tt))
acts_untold (Acts.maps_chunk doer heap chunk after ended maps) = tt
acts_untold (Acts.shares doer heap chunk here) = tt
acts_untold (Acts.leaves doer heap chunk after leaves) = tt
acts_untold (Acts.looks_up_lines doer other lines) = (tt, tt)
acts_untold (Acts.reads_stats doer heap pair) = (tt, tt)
acts_untold (Acts.and_then hand between fin held more doer mid after first rest before late one two) =
    untold_both before late (acts_untold one) (acts_untold two)

-- who does a line in a hall
pub line_untold : (me : ℕ) (old new : ParticipantView) (from to : HallState) (line : Line) (answer : Answer)
    → (did : DoesLineHere me old new from to line answer) → TellNothing did.does.steps
line_untold me old new from to line answer did = acts_untold did.does.acts
