-- What serving leaves of a participant's asks, by cases on what it did: the rule "Serving" of docs/PARTICIPANTS.md.
use Rattle.std.proofs.Common.{◌≡◌, ◌∙◌, ℕ, zero, suc, Bool, true, false, ◌||◌, List, [], ◌∷◌, Option, Some, None, refl, sym, subst}
use Rattle.hp_core.specs.declared.event.CoreEvent.{CoreEvent}
use Rattle.hp_core.specs.declared.out.Out.{Out}
use Rattle.hp_frame.specs.declared.frame.Frame.{Frame}
use Rattle.hp_frame.specs.declared.message.Body.{Body}
use Rattle.hp_hall.specs.Mail.{MailStep}
use Rattle.hp_segs.specs.SegsView.{SegsView}
use Rattle.hp_serve.specs.Coordinating.{IsAnswered, IsCarried, IsCoreServed, IsHandled, IsMapped, IsFrameHandled, IsPolled, IsRested, IsServed, IsSettled}
use Rattle.hp_serve.specs.Denials.{Denials}
use Rattle.hp_serve.specs.Party.{Party}
use Rattle.hp_serve.specs.Posting.{IsPosted}
use Rattle.hp_serve.specs.Serving.{IsFollowed, IsDispatched, IsMemberServed, IsTold, hearing, is_answer_to}
use Rattle.hp_serve.specs.Waiting.{AreServings, AreTurns, HaveServed, IsServedOut, IsTurned, IsWaited, LeavesAsked}

pub asked_same : (party : Party) → LeavesAsked party party
asked_same party = record { asked = refl; answered = λ is. is }

pub asked_then : (first second third : Party) → LeavesAsked first second → LeavesAsked second third → LeavesAsked first third
asked_then first second third here there = record { asked = there.asked ∙ here.asked; answered = λ is. there.answered (here.answered is) }

-- one that has become another
asked_to : (party mid after : Party) → after ≡ mid → LeavesAsked party mid → LeavesAsked party after
asked_to party mid after is leaves = subst (LeavesAsked party) (sym is) leaves

asked_here : (party after : Party) → after ≡ party → LeavesAsked party after
asked_here party after is = asked_to party party after is (asked_same party)

or_keeps : (first second : Bool) → first ≡ true → (first || second) ≡ true
or_keeps true second is = refl
or_keeps false second is = cc

asked_hearing : (body : Body) (party : Party) → LeavesAsked party (hearing body party)
asked_hearing body party = record { asked = refl; answered = or_keeps party.answered (is_answer_to party body) }

-- OF PARTICIPANT 0

asked_posted : (count : ℕ) (party after : Party) (answer : Out) (steps : List MailStep) → IsPosted count party after answer steps
    → LeavesAsked party after
asked_posted count party after answer steps (IsPosted.nothing is did after_is) = asked_here party after after_is
asked_posted count party after answer steps (IsPosted.syncs generation round members frame is says told after_is) =
    asked_to party _ after after_is (record { asked = refl; answered = λ is. is })
asked_posted count party after answer steps (IsPosted.answers to number what good frame posted is asker says did after_is) =
    asked_to party _ after after_is (record { asked = refl; answered = λ is. is })
asked_posted count party after answer steps (IsPosted.nobody to number what good is asker did after_is) = asked_here party after after_is

asked_mapped : (party after : Party) (steps : List MailStep) (answer : Option Out) → IsMapped party after steps answer → LeavesAsked party after
asked_mapped party after steps answer (IsMapped.maps core next taken caught table own now more core_is did caught_up is after_is) =
    asked_to party _ after after_is (record { asked = refl; answered = λ is. is })
asked_mapped party after steps answer (IsMapped.worn taken is_worn did after_is none) = asked_here party after after_is

asked_settled : (count : ℕ) (party after : Party) (answer : Out) (steps : List MailStep) (goes : Bool) → IsSettled count party after answer steps goes
    → LeavesAsked party after
asked_settled count party after answer steps goes (IsSettled.posts posted is) = asked_posted count party after answer steps posted
asked_settled count party after answer steps goes (IsSettled.stops must mapped is) = asked_mapped party after steps None mapped

asked_carried : (count : ℕ) (path : List Party) (party after : Party) (answer : Out) (steps : List MailStep) (goes : Bool)
    → IsCarried count path party after answer steps goes → LeavesAsked party after
asked_carried count [] party after answer steps goes is = asked_settled count party after answer steps goes is
asked_carried count (mid ∷ path) party after answer steps goes is =
    asked_then party mid after (asked_mapped party mid is.1 (Some is.0) is.5) (asked_carried count path mid after is.0 is.2 goes is.6)

asked_handled : {denies : Denials} → (count : ℕ) (event : CoreEvent) (party after : Party) (steps : List MailStep) (goes : Bool)
    → IsHandled denies count event party after steps goes → LeavesAsked party after
asked_handled count event party after steps goes (IsHandled.carries core next answer path first more core_is hands carried did) =
    asked_then party _ after (record { asked = refl; answered = λ is. is }) (asked_carried count path _ after answer more goes carried)
asked_handled count event party after steps goes (IsHandled.stops core next core_is hands after_is none) =
    asked_to party _ after after_is (record { asked = refl; answered = λ is. is })

asked_polled : {denies : Denials} → (count now : ℕ) (party after : Party) (steps : List MailStep) (goes : Bool)
    → IsPolled denies count now party after steps goes
    → LeavesAsked party after
asked_polled count now party after steps goes polled = asked_handled count _ party after polled.more goes polled.handled

asked_answered : {denies : Denials} → (count : ℕ) (party after : Party) (body : Body) (steps : List MailStep) (goes : Bool)
    → IsAnswered denies count party after body steps goes → LeavesAsked party after
asked_answered count party after body steps goes (IsAnswered.polls due now more reply due_is did polled) =
    asked_polled count now party after more goes polled
asked_answered count party after body steps goes (IsAnswered.rests reply none did after_is goes_is) = asked_here party after after_is
asked_answered count party after body steps goes (IsAnswered.hears reply did after_is goes_is) =
    asked_to party (hearing body party) after after_is (asked_hearing body party)

asked_obeyed : {denies : Denials} → (count : ℕ) (party after : Party) (frame : Frame) (steps : List MailStep) (goes : Bool)
    → IsFrameHandled denies count party after frame steps goes
    → LeavesAsked party after
asked_obeyed count party after frame steps goes (IsFrameHandled.drops says did after_is goes_is) = asked_here party after after_is
asked_obeyed count party after frame steps goes (IsFrameHandled.asks body event says ask handled) = asked_handled count event party after steps goes handled
asked_obeyed count party after frame steps goes (IsFrameHandled.others body says none answered) = asked_answered count party after body steps goes answered

asked_rested : {denies : Denials} → (count : ℕ) (party after : Party) (steps : List MailStep) (answer : Option Bool)
    → IsRested denies count party after steps answer
    → LeavesAsked party after
asked_rested count party after steps answer (IsRested.rests now holds early did after_is is) = asked_here party after after_is
asked_rested count party after steps answer (IsRested.polls now more goes due did polled is) = asked_polled count now party after more goes polled

asked_core : {denies : Denials} → (count : ℕ) (party after : Party) (steps : List MailStep) (answer : Option Bool)
    → IsCoreServed denies count party after steps answer
    → LeavesAsked party after
asked_core count party after steps answer (IsCoreServed.rests more did rested) = asked_rested count party after more answer rested
asked_core count party after steps answer (IsCoreServed.heeds frame more goes did obeyed is) = asked_obeyed count party after frame more goes obeyed

-- OF ALL OTHERS

asked_followed : (party after : Party) (taken : SegsView) (steps : List MailStep) (goes : Bool) → IsFollowed party after taken steps goes
    → LeavesAsked party after
asked_followed party after taken steps goes (IsFollowed.obeys member obeys is) =
    asked_to party _ after obeys.after_is (record { asked = refl; answered = λ is. is })
asked_followed party after taken steps goes (IsFollowed.is_out member did after_is is) = asked_here party after after_is
asked_followed party after taken steps goes (IsFollowed.is_worn member worn did after_is is) = asked_here party after after_is

asked_told : (party after : Party) (body : Body) (steps : List MailStep) (goes : Bool) → IsTold party after body steps goes → LeavesAsked party after
asked_told party after body steps goes (IsTold.hears sync did after_is is) =
    asked_to party (hearing body party) after after_is (asked_hearing body party)
asked_told party after body steps goes (IsTold.follows taken more sync did followed) = asked_followed party after taken more goes followed

asked_heeded : (party after : Party) (frame : Frame) (steps : List MailStep) (goes : Bool) → IsDispatched party after frame steps goes
    → LeavesAsked party after
asked_heeded party after frame steps goes (IsDispatched.drops says did after_is is) = asked_here party after after_is
asked_heeded party after frame steps goes (IsDispatched.tells body says told) = asked_told party after body steps goes told

asked_member : (party after : Party) (steps : List MailStep) (answer : Option Bool) → IsMemberServed party after steps answer → LeavesAsked party after
asked_member party after steps answer (IsMemberServed.rests did after_is is) = asked_here party after after_is
asked_member party after steps answer (IsMemberServed.heeds frame more goes did heeded is) = asked_heeded party after frame more goes heeded

-- OF EVERY ONE

-- one serving
pub asked_served : {denies : Denials} → (count : ℕ) (party after : Party) (steps : List MailStep) (answer : Option Bool)
    → IsServed denies count party after steps answer
    → LeavesAsked party after
asked_served count party after steps answer (IsServed.coordinates me served) = asked_core count party after steps answer served
asked_served count party after steps answer (IsServed.follows me served) = asked_member party after steps answer served

-- so many servings
pub asked_servings : (denies : Denials) (count times : ℕ) (party after : Party) (steps : List MailStep)
    → AreServings denies count times party after steps
    → LeavesAsked party after
unfolding AreServings
asked_servings denies count zero party after steps are = asked_here party after are.0
asked_servings denies count (suc n) party after steps are =
    asked_then party are.0 after (asked_servings denies count n party are.0 are.1 are.3)
    (asked_served count are.0 after are.2 (Some true) are.4)

-- its part of a turn
pub asked_served_out : {denies : Denials} → (count : ℕ) (party after : Party) (steps : List MailStep) (answer : Option Bool)
    → IsServedOut denies count party after steps answer
    → LeavesAsked party after
asked_served_out {denies} count party after steps answer (IsServedOut.rests times mid first last few are served did is) =
    asked_then party mid after (asked_servings denies count times party mid first are)
    (asked_served count mid after last (Some false) served)
asked_served_out {denies} count party after steps answer (IsServedOut.stops times mid first last few are served did is) =
    asked_then party mid after (asked_servings denies count times party mid first are) (asked_served count mid after last None served)
asked_served_out {denies} count party after steps answer (IsServedOut.enough are is) = asked_servings denies count _ party after steps are

-- all served in a turn
pub asked_have_served : {denies : Denials} → (count : ℕ) (party after : Party) (steps : List MailStep) (answer : Option Bool)
    → HaveServed denies count party after steps answer
    → LeavesAsked party after
asked_have_served count party after steps answer (HaveServed.below_stops did after_is is) = asked_here party after after_is
asked_have_served count party after steps answer (HaveServed.stops below own served did is) = asked_served_out count party after own None served
asked_have_served count party after steps answer (HaveServed.above_stops below mine own served did is) =
    asked_served_out count party after own (Some mine) served
asked_have_served count party after steps answer (HaveServed.ends below mine above own served did is) =
    asked_served_out count party after own (Some mine) served

-- a turn
pub asked_turned : {denies : Denials} → (count until : ℕ) (party after : Party) (steps : List MailStep) (answer : Option Bool)
    → IsTurned denies count until party after steps answer → LeavesAsked party after
asked_turned count until party after steps answer (IsTurned.stops served is) = asked_have_served count party after steps None served
asked_turned count until party after steps answer (IsTurned.ends moved served paused have pauses did is) =
    asked_have_served count party after served (Some moved) have

-- so many turns
pub asked_turns : (denies : Denials) (count until : ℕ) (heeds : Bool) (turns : ℕ) (party after : Party) (steps : List MailStep)
    → AreTurns denies count until heeds turns party after steps → LeavesAsked party after
unfolding AreTurns
asked_turns denies count until heeds zero party after steps are = asked_here party after are.0
asked_turns denies count until heeds (suc n) party after steps are =
    asked_then party are.0 after (asked_turns denies count until heeds n party are.0 are.1 are.5)
    (asked_turned count until are.0 after are.2 (Some are.4) are.7)

-- a wait
pub asked_waited : {denies : Denials} → (count until : ℕ) (heeds : Bool) (party after : Party) (steps : List MailStep) (ended : Option ℕ)
    → IsWaited denies count until heeds party after steps ended → LeavesAsked party after
asked_waited {denies} count until heeds party after steps ended (IsWaited.ends turns now first are over did is) =
    asked_turns denies count until heeds turns party after first are
asked_waited {denies} count until heeds party after steps ended (IsWaited.stops turns now mid first last are on one did is) =
    asked_then party mid after (asked_turns denies count until heeds turns party mid first are)
    (asked_turned count until mid after last None one)
