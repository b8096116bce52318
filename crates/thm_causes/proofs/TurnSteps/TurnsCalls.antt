-- While a participant serves, nobody else does, and the clock stands: each step of a serving is a call.
use Rattle.std.proofs.Common.{◌≡◌, ℕ, zero, suc, Bool, true, false, List, [], ◌∷◌, ◌++◌, Option, Some, None, nat_lt, sym, subst}
use Rattle.std.specs.Prelude.{if◌then◌else◌, slice_index}
use Rattle.hp_base.specs.declared.caught.Caught.{Caught}
use Rattle.hp_base.specs.declared.caught.Caught.TheVariants as caught
use Rattle.hp_core.specs.Core.{Core}
use Rattle.hp_core.specs.declared.event.CoreEvent.{CoreEvent}
use Rattle.hp_core.specs.declared.out.Out.{Out}
use Rattle.hp_base.specs.declared.plan_entry.PlanEntry.{PlanEntry}
use Rattle.hp_frame.specs.declared.frame.Frame.{Frame}
use Rattle.hp_frame.specs.declared.message.Body.{Body}
use Rattle.hp_hall.specs.Mail.{MailStep, Notes}
use Rattle.hp_hall.specs.declared.note.Note.TheVariants.{Loaded}
use Rattle.hp_segs.specs.SegsView.{SegsView}
use Rattle.hp_serve.specs.Coordinating.{Hands, IsAnswered, IsCarried, IsCoreServed, IsHanded, IsHandled, IsMapped, IsFrameHandled, IsPolled, IsRested, IsServed, IsSettled, loads_of}
use Rattle.hp_serve.specs.Denials.{Denials}
use Rattle.hp_serve.specs.Party.{Party}
use Rattle.hp_serve.specs.Posting.{AreTold, IsPosted, IsToldOne}
use Rattle.hp_serve.specs.Serving.{IsFollowed, IsDispatched, IsMemberServed, IsTold, FollowsAndReplies, Replies, acks_after, tells_after_catching}
use Rattle.hp_solo.specs.Sequence.{IsCall}
use Rattle.thm_causes.specs.RunStates.{AreCalls}

-- calls after calls
pub calls_then : (first rest : List MailStep) → AreCalls first → AreCalls rest → AreCalls (first ++ rest)
calls_then [] rest begins ends = ends
calls_then (step ∷ first) rest begins ends = (begins.0, calls_then first rest begins.1 ends)

-- the same steps are calls
pub calls_are : (steps those : List MailStep) → steps ≡ those → AreCalls those → AreCalls steps
calls_are steps those are calls = subst AreCalls (sym are) calls

-- so are parts of them
pub calls_first : (first rest : List MailStep) → AreCalls (first ++ rest) → AreCalls first
calls_first [] rest calls = tt
calls_first (step ∷ first) rest calls = (calls.0, calls_first first rest calls.1)

pub calls_rest : (first rest : List MailStep) → AreCalls (first ++ rest) → AreCalls rest
calls_rest [] rest calls = calls
calls_rest (step ∷ first) rest calls = calls_rest first rest calls.1

-- what is told after a catching up
pub acks_calls : (caught : Caught) (records : ℕ) → AreCalls (acks_after caught records)
acks_calls caught.Done records = (tt, tt)
acks_calls (caught.Refused row call) records = tt
acks_calls (caught.Elsewhere row call got) records = tt

tells_calls : (caught : Caught) (records : ℕ) → AreCalls (tells_after_catching caught records)
tells_calls caught.Done records = (tt, tt)
tells_calls (caught.Refused row call) records = (tt, tt)
tells_calls (caught.Elsewhere row call got) records = (tt, tt)

-- WHAT PARTICIPANT 0 DOES

handed_calls : {denies : Denials} → (event : CoreEvent) (core after : Core) (taken : SegsView) (steps : List MailStep) (answer : Option Out)
    → IsHanded denies event core after taken steps answer → AreCalls steps
handed_calls event core after taken steps answer (IsHanded.handed denied may are after_is is) = calls_are steps _ are (tt, tt)
handed_calls event core after taken steps answer (IsHanded.no_room are after_is is) = calls_are steps _ are (tt, tt)

hands_calls : {denies : Denials} → (event : CoreEvent) (core after : Core) (steps : List MailStep) (answer : Option Out)
    → Hands denies event core after steps answer
    → AreCalls steps
hands_calls event core after steps answer hands =
    calls_are steps _ hands.begins (tt, handed_calls event core after hands.taken hands.more answer hands.is_handed)

mapped_calls : (party after : Party) (steps : List MailStep) (answer : Option Out) → IsMapped party after steps answer → AreCalls steps
mapped_calls party after steps answer (IsMapped.maps core next taken caught table own now more there are caught_up is_handed after_is) =
    calls_are steps _ are (
      tt,
      calls_then (tells_after_catching caught _) _ (tells_calls caught _)
          (tt, (tt, handed_calls _ core next taken more answer is_handed)),
    )
mapped_calls party after steps answer (IsMapped.worn taken is_worn are after_is is) = calls_are steps _ are (tt, (tt, tt))

told_one_calls : (plan : List PlanEntry) (frame : Frame) (counts : List ℕ) (who : ℕ) (told : Bool) (steps : List MailStep)
    → IsToldOne plan frame counts who told steps → AreCalls steps
told_one_calls plan frame counts who told steps (IsToldOne.tells posted is are) = calls_are steps _ are (tt, tt)
told_one_calls plan frame counts who told steps (IsToldOne.passes is are) = calls_are steps _ are tt

told_calls : (plan : List PlanEntry) (counts : List ℕ) (frame : Frame) (told : ℕ → Bool) (n : ℕ) (steps : List MailStep)
    → AreTold plan counts frame told n steps → AreCalls steps
unfolding AreTold
told_calls plan counts frame told zero steps are = calls_are steps [] are tt
told_calls plan counts frame told (suc n) steps are =
    calls_are steps _ are.4 (calls_then are.0 are.1 (told_calls plan counts frame told n are.0 are.2) (told_one_calls plan frame _ _ _ are.1 are.3))

posted_calls : (count : ℕ) (party after : Party) (answer : Out) (steps : List MailStep) → IsPosted count party after answer steps → AreCalls steps
posted_calls count party after answer steps (IsPosted.nothing is are after_is) = calls_are steps _ are tt
posted_calls count party after answer steps (IsPosted.syncs generation round members frame is says told after_is) =
    told_calls party.plan party.sent.syncs frame _ 15 steps told
posted_calls count party after answer steps (IsPosted.answers to number what good frame posted is asker says are after_is) =
    calls_are steps _ are (tt, tt)
posted_calls count party after answer steps (IsPosted.nobody to number what good is asker are after_is) = calls_are steps _ are tt

settled_calls : (count : ℕ) (party after : Party) (answer : Out) (steps : List MailStep) (goes : Bool)
    → IsSettled count party after answer steps goes → AreCalls steps
settled_calls count party after answer steps goes (IsSettled.posts posted is) = posted_calls count party after answer steps posted
settled_calls count party after answer steps goes (IsSettled.stops must mapped is) = mapped_calls party after steps None mapped

carried_calls : (count : ℕ) (path : List Party) (party after : Party) (answer : Out) (steps : List MailStep) (goes : Bool)
    → IsCarried count path party after answer steps goes → AreCalls steps
carried_calls count [] party after answer steps goes settled = settled_calls count party after answer steps goes settled
carried_calls count (mid ∷ path) party after answer steps goes carried =
    calls_are steps _ carried.3 (calls_then carried.1 carried.2 (mapped_calls party mid carried.1 (Some carried.0) carried.5)
    (carried_calls count path mid after carried.0 carried.2 goes carried.6))

handled_calls : {denies : Denials} → (count : ℕ) (event : CoreEvent) (party after : Party) (steps : List MailStep) (goes : Bool)
    → IsHandled denies count event party after steps goes → AreCalls steps
handled_calls count event party after steps goes (IsHandled.carries core next answer path first more there hands carried are) =
    calls_are steps _ are (calls_then first more (hands_calls event core next first (Some answer) hands)
    (carried_calls count path _ after answer more goes carried))
handled_calls count event party after steps goes (IsHandled.stops core next there hands after_is is) =
    hands_calls event core next steps None hands

load_calls : (found : Bool) (participant number : ℕ) → AreCalls (if found then Notes (Loaded participant number) ∷ [] else [])
load_calls true participant number = (tt, tt)
load_calls false participant number = tt

loads_calls : (count : ℕ) (acks : List ℕ) (n : ℕ) → AreCalls (loads_of count acks n)
unfolding loads_of
loads_calls count acks zero = tt
loads_calls count acks (suc n) =
    calls_then (loads_of count acks n) _ (loads_calls count acks n) (load_calls (nat_lt n count) n (slice_index acks n))

polled_calls : {denies : Denials} → (count now : ℕ) (party after : Party) (steps : List MailStep) (goes : Bool)
    → IsPolled denies count now party after steps goes
    → AreCalls steps
polled_calls count now party after steps goes polled =
    calls_are steps _ polled.are (calls_then polled.looks polled.more
    (calls_are polled.looks _ polled.looked_up.looked_up (loads_calls count polled.acks 16))
    (handled_calls count _ party after polled.more goes polled.handled))

answered_calls : {denies : Denials} → (count : ℕ) (party after : Party) (body : Body) (steps : List MailStep) (goes : Bool)
    → IsAnswered denies count party after body steps goes → AreCalls steps
answered_calls count party after body steps goes (IsAnswered.polls due now more is there are polled) =
    calls_are steps _ are (tt, polled_calls count now party after more goes polled)
answered_calls count party after body steps goes (IsAnswered.rests is none are after_is goes_is) = calls_are steps _ are tt
answered_calls count party after body steps goes (IsAnswered.hears is are after_is goes_is) = calls_are steps _ are tt

obeyed_calls : {denies : Denials} → (count : ℕ) (party after : Party) (frame : Frame) (steps : List MailStep) (goes : Bool)
    → IsFrameHandled denies count party after frame steps goes → AreCalls steps
obeyed_calls count party after frame steps goes (IsFrameHandled.drops nothing are after_is is) = calls_are steps _ are tt
obeyed_calls count party after frame steps goes (IsFrameHandled.asks body event says is_ask handled) =
    handled_calls count event party after steps goes handled
obeyed_calls count party after frame steps goes (IsFrameHandled.others body says no_ask answered) =
    answered_calls count party after body steps goes answered

rested_calls : {denies : Denials} → (count : ℕ) (party after : Party) (steps : List MailStep) (answer : Option Bool)
    → IsRested denies count party after steps answer
    → AreCalls steps
rested_calls count party after steps answer (IsRested.rests now nothing to_come are after_is is) = calls_are steps _ are (tt, tt)
rested_calls count party after steps answer (IsRested.polls now more goes due are polled is) =
    calls_are steps _ are (tt, polled_calls count now party after more goes polled)

core_calls : {denies : Denials} → (count : ℕ) (party after : Party) (steps : List MailStep) (answer : Option Bool)
    → IsCoreServed denies count party after steps answer
    → AreCalls steps
core_calls count party after steps answer (IsCoreServed.rests more are rested) =
    calls_are steps _ are (tt, rested_calls count party after more answer rested)
core_calls count party after steps answer (IsCoreServed.heeds frame more goes are obeyed is) =
    calls_are steps _ are (tt, obeyed_calls count party after frame more goes obeyed)

-- WHAT ANOTHER PARTICIPANT DOES

reply_call : (party : Party) (body : Body) (step : MailStep) → Replies party body step → IsCall step
reply_call party body step replies = subst IsCall (sym replies.posts) tt

obeys_calls : (party after : Party) (taken : SegsView) (steps : List MailStep) → FollowsAndReplies party after taken steps → AreCalls steps
obeys_calls party after taken steps obeys =
    calls_are steps _ obeys.done (calls_then (tells_after_catching obeys.caught _) _ (tells_calls obeys.caught _)
    (tt, (reply_call party _ obeys.reply obeys.replied, tt)))

followed_calls : (party after : Party) (taken : SegsView) (steps : List MailStep) (goes : Bool) → IsFollowed party after taken steps goes
    → AreCalls steps
followed_calls party after taken steps goes (IsFollowed.obeys member obeys is) = obeys_calls party after taken steps obeys
followed_calls party after taken steps goes (IsFollowed.is_out member are after_is is) = calls_are steps _ are (tt, tt)
followed_calls party after taken steps goes (IsFollowed.is_worn member worn are after_is is) = calls_are steps _ are (tt, tt)

told_body_calls : (party after : Party) (body : Body) (steps : List MailStep) (goes : Bool) → IsTold party after body steps goes → AreCalls steps
told_body_calls party after body steps goes (IsTold.hears is are after_is goes_is) = calls_are steps _ are tt
told_body_calls party after body steps goes (IsTold.follows taken more is are followed) =
    calls_are steps _ are (tt, followed_calls party after taken more goes followed)

heeded_calls : (party after : Party) (frame : Frame) (steps : List MailStep) (goes : Bool) → IsDispatched party after frame steps goes → AreCalls steps
heeded_calls party after frame steps goes (IsDispatched.drops nothing are after_is is) = calls_are steps _ are tt
heeded_calls party after frame steps goes (IsDispatched.tells body says told) = told_body_calls party after body steps goes told

member_calls : (party after : Party) (steps : List MailStep) (answer : Option Bool) → IsMemberServed party after steps answer → AreCalls steps
member_calls party after steps answer (IsMemberServed.rests are after_is is) = calls_are steps _ are (tt, tt)
member_calls party after steps answer (IsMemberServed.heeds frame more goes are heeded is) =
    calls_are steps _ are (tt, heeded_calls party after frame more goes heeded)

-- all that a serving does is calls
pub served_calls : {denies : Denials} → (count : ℕ) (party after : Party) (steps : List MailStep) (answer : Option Bool)
    → IsServed denies count party after steps answer
    → AreCalls steps
served_calls count party after steps answer (IsServed.coordinates me served) = core_calls count party after steps answer served
served_calls count party after steps answer (IsServed.follows me served) = member_calls party after steps answer served
