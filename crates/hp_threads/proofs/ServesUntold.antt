-- Who serves tells of no line. As ServesNoHeap of thm_run, of another kind of step.
use Rattle.std.proofs.Common.{ℕ, zero, suc, Bool, true, false, true≢false, nat_lt, List, [], ◌∷◌, ◌++◌, length, Some, if◌then◌else◌, sym, subst}
use Rattle.std.proofs.lemmas.Option.{none-some}
use Rattle.hp_base.specs.declared.caught.Caught.{Caught}
use Rattle.hp_base.specs.declared.caught.Caught.TheVariants as caught
use Rattle.hp_core.specs.Core.{Core}
use Rattle.hp_core.specs.declared.event.CoreEvent.{CoreEvent}
use Rattle.hp_core.specs.declared.out.Out.{Out}
use Rattle.hp_frame.specs.declared.frame.Frame.{Frame}
use Rattle.hp_frame.specs.declared.message.Body.{Body}
use Rattle.hp_base.specs.declared.plan_entry.PlanEntry.{PlanEntry}
use Rattle.hp_hall.specs.Mail.{MailStep, Notes}
use Rattle.hp_hall.specs.declared.note.Note.{Note}
use Rattle.hp_segs.specs.SegsView.{SegsView}
use Rattle.hp_serve.specs.Coordinating.{IsAnswered, IsCarried, IsCoreServed, IsHanded, IsHandled, IsMapped, IsFrameHandled, IsPolled, IsRested, IsServed, IsSettled, loads_of}
use Rattle.hp_serve.specs.Denials.{Denials}
use Rattle.hp_serve.specs.Party.{Party}
use Rattle.hp_serve.specs.Posting.{AreTold, IsPosted, IsToldOne, is_told, syncs_after}
use Rattle.hp_serve.specs.Serving.{IsFollowed, IsDispatched, IsMemberServed, IsTold, tells_after_catching}
use Rattle.hp_threads.specs.Adding.{IsUntelling, TellNothing}

-- steps one after the other
pub untold_both : (first last : List MailStep) → TellNothing first → TellNothing last → TellNothing (first ++ last)
untold_both [] last here there = there
untold_both (step ∷ first) last here there = (here.0, untold_both first last here.1 there)

-- WHAT IS POSTED

told_one : (plan : List PlanEntry) (frame : Frame) (counts : List ℕ) (to : ℕ) (told : Bool) (steps : List MailStep)
    → IsToldOne plan frame counts to told steps → TellNothing steps
told_one plan frame counts to told steps (IsToldOne.tells posted is did) = subst TellNothing (sym did) (tt, tt)
told_one plan frame counts to told steps (IsToldOne.passes is did) = subst TellNothing (sym did) tt

are_told : (plan : List PlanEntry) (counts : List ℕ) (frame : Frame) (told : ℕ → Bool) (n : ℕ) (steps : List MailStep)
    → AreTold plan counts frame told n steps → TellNothing steps
unfolding AreTold
are_told plan counts frame told zero steps are = subst TellNothing (sym are) tt
are_told plan counts frame told (suc n) steps are =
    subst TellNothing (sym are.4)
    (untold_both are.0 are.1 (are_told plan counts frame told n are.0 are.2)
    (told_one plan frame (syncs_after told counts n) (suc n) (told (suc n)) are.1 are.3))

posts : (count : ℕ) (party after : Party) (answer : Out) (steps : List MailStep) → IsPosted count party after answer steps → TellNothing steps
posts count party after answer steps (IsPosted.nothing is did after_is) = subst TellNothing (sym did) tt
posts count party after answer steps (IsPosted.syncs generation round members frame is says told after_is) =
    are_told party.plan party.sent.syncs frame (is_told count members) 15 steps told
posts count party after answer steps (IsPosted.answers to number what good frame posted is asker says did after_is) =
    subst TellNothing (sym did) (tt, tt)
posts count party after answer steps (IsPosted.nobody to number what good is asker did after_is) = subst TellNothing (sym did) tt

-- WHAT IS NOTED

caught_up : (caught : Caught) (records : ℕ) → TellNothing (tells_after_catching caught records)
caught_up caught.Done records = (tt, tt)
caught_up (caught.Refused row call) records = (tt, tt)
caught_up (caught.Elsewhere row call got) records = (tt, tt)

noted_if : (is : Bool) (note : Note) → IsUntelling (Notes note) → TellNothing (if is then Notes note ∷ [] else [])
noted_if true note untelling = (untelling, tt)
noted_if false note untelling = tt

loads : (count : ℕ) (acks : List ℕ) (n : ℕ) → TellNothing (loads_of count acks n)
unfolding loads_of
loads count acks zero = tt
loads count acks (suc n) = untold_both (loads_of count acks n) _ (loads count acks n) (noted_if (nat_lt n count) _ tt)

-- WHAT ITS COORDINATOR DOES

handed : {denies : Denials} → (event : CoreEvent) (core next : Core) (taken : SegsView) (more : List MailStep) (answer : Out)
    → IsHanded denies event core next taken more (Some answer) → TellNothing more
handed event core next taken more answer (IsHanded.handed denied may did next_is is) = subst TellNothing (sym did) (tt, tt)
handed event core next taken more answer (IsHanded.no_room did next_is is) = absurd (none-some answer (sym is))

mapped : (party after : Party) (steps : List MailStep) (answer : Out) → IsMapped party after steps (Some answer) → TellNothing steps
mapped party after steps answer (IsMapped.maps core next taken caught table own now more core_is did caught_up_is is_handed after_is) =
    subst TellNothing (sym did) (
      tt,
      untold_both (tells_after_catching caught (length taken.log)) _ (caught_up caught (length taken.log))
          (tt, (tt, handed _ core next taken more answer is_handed)),
    )
mapped party after steps answer (IsMapped.worn taken is_worn did after_is none) = absurd (none-some answer (sym none))

settled : (count : ℕ) (party after : Party) (answer : Out) (steps : List MailStep) → IsSettled count party after answer steps true
    → TellNothing steps
settled count party after answer steps (IsSettled.posts posted is) = posts count party after answer steps posted
settled count party after answer steps (IsSettled.stops must mapped is) = absurd (true≢false is)

carried : (count : ℕ) (mids : List Party) (party after : Party) (answer : Out) (steps : List MailStep)
    → IsCarried count mids party after answer steps true → TellNothing steps
carried count [] party after answer steps is = settled count party after answer steps is
carried count (mid ∷ mids) party after answer steps is =
    subst TellNothing (sym is.3)
    (untold_both is.1 is.2 (mapped party mid is.1 is.0 is.5) (carried count mids mid after is.0 is.2 is.6))

handled : {denies : Denials} → (count : ℕ) (event : CoreEvent) (party after : Party) (steps : List MailStep)
    → IsHandled denies count event party after steps true → TellNothing steps
handled count event party after steps (IsHandled.carries core next answer mids first more core_is hands is_carried did) =
    subst TellNothing (sym did)
    (untold_both first more
    (subst TellNothing (sym hands.begins) (tt, handed event core next hands.taken hands.more answer hands.is_handed))
    (carried count mids _ after answer more is_carried))
handled count event party after steps (IsHandled.stops core next core_is hands after_is is) = absurd (true≢false is)

polled : {denies : Denials} → (count now : ℕ) (party after : Party) (steps : List MailStep)
    → IsPolled denies count now party after steps true → TellNothing steps
polled count now party after steps is_polled =
    subst TellNothing (sym is_polled.are)
    (untold_both is_polled.looks is_polled.more
    (subst TellNothing (sym is_polled.looked_up.looked_up) (loads count is_polled.acks 16))
    (handled count _ party after is_polled.more is_polled.handled))

answered : {denies : Denials} → (count : ℕ) (party after : Party) (body : Body) (steps : List MailStep)
    → IsAnswered denies count party after body steps true → TellNothing steps
answered count party after body steps (IsAnswered.polls due now more reply due_is did is_polled) =
    subst TellNothing (sym did) (tt, polled count now party after more is_polled)
answered count party after body steps (IsAnswered.rests reply none did after_is goes_is) = subst TellNothing (sym did) tt
answered count party after body steps (IsAnswered.hears reply did after_is goes_is) = subst TellNothing (sym did) tt

obeyed : {denies : Denials} → (count : ℕ) (party after : Party) (frame : Frame) (steps : List MailStep)
    → IsFrameHandled denies count party after frame steps true → TellNothing steps
obeyed count party after frame steps (IsFrameHandled.drops says did after_is goes_is) = subst TellNothing (sym did) tt
obeyed count party after frame steps (IsFrameHandled.asks body event says ask is_handled) = handled count event party after steps is_handled
obeyed count party after frame steps (IsFrameHandled.others body says none is_answered) = answered count party after body steps is_answered

rested : {denies : Denials} → (count : ℕ) (party after : Party) (steps : List MailStep) (moved : Bool)
    → IsRested denies count party after steps (Some moved) → TellNothing steps
rested count party after steps moved (IsRested.rests now holds early did after_is is) = subst TellNothing (sym did) (tt, tt)
rested count party after steps moved (IsRested.polls now more true due did is_polled is) =
    subst TellNothing (sym did) (tt, polled count now party after more is_polled)
rested count party after steps moved (IsRested.polls now more false due did is_polled is) = absurd (none-some moved (sym is))

coordinates : {denies : Denials} → (count : ℕ) (party after : Party) (steps : List MailStep) (moved : Bool)
    → IsCoreServed denies count party after steps (Some moved) → TellNothing steps
coordinates count party after steps moved (IsCoreServed.rests more did is_rested) =
    subst TellNothing (sym did) (tt, rested count party after more moved is_rested)
coordinates count party after steps moved (IsCoreServed.heeds frame more true did is_obeyed is) =
    subst TellNothing (sym did) (tt, obeyed count party after frame more is_obeyed)
coordinates count party after steps moved (IsCoreServed.heeds frame more false did is_obeyed is) = absurd (none-some moved (sym is))

-- WHAT A SYNC MAKES OF IT

followed : (party after : Party) (taken : SegsView) (more : List MailStep) → IsFollowed party after taken more true → TellNothing more
followed party after taken more (IsFollowed.obeys member obeys is) =
    subst TellNothing (sym obeys.done)
    (untold_both (tells_after_catching obeys.caught (length taken.log)) _ (caught_up obeys.caught (length taken.log))
    (tt, (subst IsUntelling (sym obeys.replied.posts) tt, tt)))
followed party after taken more (IsFollowed.is_out out did after_is is) = subst TellNothing (sym did) (tt, tt)
followed party after taken more (IsFollowed.is_worn member worn did after_is is) = absurd (true≢false is)

told : (party after : Party) (body : Body) (steps : List MailStep) → IsTold party after body steps true → TellNothing steps
told party after body steps (IsTold.hears reply did after_is is) = subst TellNothing (sym did) tt
told party after body steps (IsTold.follows taken more sync did is_followed) =
    subst TellNothing (sym did) (tt, followed party after taken more is_followed)

heeded : (party after : Party) (frame : Frame) (steps : List MailStep) → IsDispatched party after frame steps true → TellNothing steps
heeded party after frame steps (IsDispatched.drops says did after_is is) = subst TellNothing (sym did) tt
heeded party after frame steps (IsDispatched.tells body says is_told) = told party after body steps is_told

follows : (party after : Party) (steps : List MailStep) (moved : Bool) → IsMemberServed party after steps (Some moved) → TellNothing steps
follows party after steps moved (IsMemberServed.rests did after_is is) = subst TellNothing (sym did) (tt, tt)
follows party after steps moved (IsMemberServed.heeds frame more true did is_heeded is) =
    subst TellNothing (sym did) (tt, heeded party after frame more is_heeded)
follows party after steps moved (IsMemberServed.heeds frame more false did is_heeded is) = absurd (none-some moved (sym is))

-- one serving that did not stop
pub served_untold : {denies : Denials} → (count : ℕ) (party after : Party) (steps : List MailStep) (moved : Bool)
    → IsServed denies count party after steps (Some moved) → TellNothing steps
served_untold count party after steps moved (IsServed.coordinates primary served) = coordinates count party after steps moved served
served_untold count party after steps moved (IsServed.follows other served) = follows party after steps moved served
