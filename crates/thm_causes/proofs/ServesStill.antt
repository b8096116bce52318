-- The clock stands while somebody serves: nobody ends a turn by that.
use Rattle.std.proofs.Common.{ℕ, zero, suc, Bool, true, false, true≢false, nat_lt, List, [], ◌∷◌, length, Some, if◌then◌else◌, sym, subst}
use Rattle.std.proofs.lemmas.Option.{none-some}
use Rattle.hp_base.specs.declared.caught.Caught.{Caught}
use Rattle.hp_base.specs.declared.caught.Caught.TheVariants as caught
use Rattle.hp_base.specs.declared.plan_entry.PlanEntry.{PlanEntry}
use Rattle.hp_core.specs.Core.{Core}
use Rattle.hp_core.specs.declared.event.CoreEvent.{CoreEvent}
use Rattle.hp_core.specs.declared.out.Out.{Out}
use Rattle.hp_frame.specs.declared.frame.Frame.{Frame}
use Rattle.hp_frame.specs.declared.message.Body.{Body}
use Rattle.hp_hall.specs.Mail.{MailStep, Notes}
use Rattle.hp_hall.specs.declared.note.Note.TheVariants.{Loaded}
use Rattle.hp_segs.specs.SegsView.{SegsView}
use Rattle.hp_serve.specs.Coordinating.{IsAnswered, IsCarried, IsCoreServed, IsHanded, IsHandled, IsMapped, IsFrameHandled, IsPolled, IsRested, IsServed, IsSettled, loads_of}
use Rattle.hp_serve.specs.Denials.{Denials}
use Rattle.hp_serve.specs.Party.{Party}
use Rattle.hp_serve.specs.Posting.{AreTold, IsPosted, IsToldOne, is_told, syncs_after}
use Rattle.hp_serve.specs.Serving.{IsFollowed, IsDispatched, IsMemberServed, IsTold, tells_after_catching}
use Rattle.thm_causes.proofs.StepsAlong.{AreStill, IsStill, still_both}

-- WHAT IS POSTED

told_one : (plan : List PlanEntry) (frame : Frame) (counts : List ℕ) (to : ℕ) (told : Bool) (steps : List MailStep)
    → IsToldOne plan frame counts to told steps → AreStill steps
told_one plan frame counts to told steps (IsToldOne.tells posted is did) = subst AreStill (sym did) (tt, tt)
told_one plan frame counts to told steps (IsToldOne.passes is did) = subst AreStill (sym did) tt

are_told : (plan : List PlanEntry) (counts : List ℕ) (frame : Frame) (told : ℕ → Bool) (n : ℕ) (steps : List MailStep)
    → AreTold plan counts frame told n steps → AreStill steps
unfolding AreTold
are_told plan counts frame told zero steps are = subst AreStill (sym are) tt
are_told plan counts frame told (suc n) steps are =
    subst AreStill (sym are.4)
    (still_both are.0 are.1 (are_told plan counts frame told n are.0 are.2)
    (told_one plan frame (syncs_after told counts n) (suc n) (told (suc n)) are.1 are.3))

is_posted : (count : ℕ) (party after : Party) (answer : Out) (steps : List MailStep) → IsPosted count party after answer steps
    → AreStill steps
is_posted count party after answer steps (IsPosted.nothing is did after_is) = subst AreStill (sym did) tt
is_posted count party after answer steps (IsPosted.syncs generation round members frame is says told after_is) =
    are_told party.plan party.sent.syncs frame (is_told count members) 15 steps told
is_posted count party after answer steps (IsPosted.answers to number what good frame posted is asker says did after_is) =
    subst AreStill (sym did) (tt, tt)
is_posted count party after answer steps (IsPosted.nobody to number what good is asker did after_is) = subst AreStill (sym did) tt

-- WHAT IS NOTED

tells_still : (ended : Caught) (records : ℕ) → AreStill (tells_after_catching ended records)
tells_still caught.Done records = (tt, tt)
tells_still (caught.Refused row call) records = (tt, tt)
tells_still (caught.Elsewhere row call got) records = (tt, tt)

load_still : (is : Bool) (member number : ℕ) → AreStill (if is then Notes (Loaded member number) ∷ [] else [])
load_still true member number = (tt, tt)
load_still false member number = tt

loads_still : (count : ℕ) (acks : List ℕ) (n : ℕ) → AreStill (loads_of count acks n)
unfolding loads_of
loads_still count acks zero = tt
loads_still count acks (suc n) = still_both (loads_of count acks n) _ (loads_still count acks n) (load_still (nat_lt n count) n _)

-- WHAT ITS COORDINATOR DOES

handed : {denies : Denials} → (event : CoreEvent) (core next : Core) (taken : SegsView) (more : List MailStep) (answer : Out)
    → IsHanded denies event core next taken more (Some answer) → AreStill more
handed event core next taken more answer (IsHanded.handed denied may did next_is is) = subst AreStill (sym did) (tt, tt)
handed event core next taken more answer (IsHanded.no_room did next_is is) = absurd (none-some answer (sym is))

mapped : (party after : Party) (steps : List MailStep) (answer : Out) → IsMapped party after steps (Some answer) → AreStill steps
mapped party after steps answer (IsMapped.maps core next taken ended table own now more there did caught_up is_handed after_is) =
    subst AreStill (sym did) (
      tt,
      still_both (tells_after_catching ended (length taken.log)) _ (tells_still ended (length taken.log))
          (tt, (tt, handed _ core next taken more answer is_handed)),
    )
mapped party after steps answer (IsMapped.worn taken is_worn did after_is none) = absurd (none-some answer (sym none))

module _ (count : ℕ) where
  settled : (party after : Party) (answer : Out) (steps : List MailStep) → IsSettled count party after answer steps true → AreStill steps
  settled party after answer steps (IsSettled.posts posted is) = is_posted count party after answer steps posted
  settled party after answer steps (IsSettled.stops must is_mapped is) = absurd (true≢false is)

  carried : (path : List Party) (party after : Party) (answer : Out) (steps : List MailStep)
      → IsCarried count path party after answer steps true → AreStill steps
  carried [] party after answer steps is = settled party after answer steps is
  carried (between ∷ path) party after answer steps is =
      subst AreStill (sym is.3)
      (still_both is.1 is.2 (mapped party between is.1 is.0 is.5) (carried path between after is.0 is.2 is.6))

  handled : {denies : Denials} → (event : CoreEvent) (party after : Party) (steps : List MailStep)
      → IsHandled denies count event party after steps true
      → AreStill steps
  handled event party after steps (IsHandled.carries core next answer path first more there hands is_carried did) =
      subst AreStill (sym did)
      (still_both first more
      (subst AreStill (sym hands.begins) (tt, handed event core next hands.taken hands.more answer hands.is_handed))
      (carried path _ after answer more is_carried))
  handled event party after steps (IsHandled.stops core next there hands after_is is) = absurd (true≢false is)

  polled : {denies : Denials} → (now : ℕ) (party after : Party) (steps : List MailStep) → IsPolled denies count now party after steps true
      → AreStill steps
  polled now party after steps is =
      subst AreStill (sym is.are)
      (still_both is.looks is.more (subst AreStill (sym is.looked_up.looked_up) (loads_still count is.acks 16))
      (handled _ party after is.more is.handled))

  answered : {denies : Denials} → (party after : Party) (body : Body) (steps : List MailStep)
      → IsAnswered denies count party after body steps true → AreStill steps
  answered party after body steps (IsAnswered.polls due now more reply due_is did is_polled) =
      subst AreStill (sym did) (tt, polled now party after more is_polled)
  answered party after body steps (IsAnswered.rests reply none did after_is is) = subst AreStill (sym did) tt
  answered party after body steps (IsAnswered.hears reply did after_is is) = subst AreStill (sym did) tt

  obeyed : {denies : Denials} → (party after : Party) (frame : Frame) (steps : List MailStep)
      → IsFrameHandled denies count party after frame steps true → AreStill steps
  obeyed party after frame steps (IsFrameHandled.drops says did after_is is) = subst AreStill (sym did) tt
  obeyed party after frame steps (IsFrameHandled.asks body event says ask is_handled) = handled event party after steps is_handled
  obeyed party after frame steps (IsFrameHandled.others body says none is_answered) = answered party after body steps is_answered

  rested : {denies : Denials} → (party after : Party) (steps : List MailStep) (moved : Bool)
      → IsRested denies count party after steps (Some moved) → AreStill steps
  rested party after steps moved (IsRested.rests now holds early did after_is is) = subst AreStill (sym did) (tt, tt)
  rested party after steps moved (IsRested.polls now more true due did is_polled is) =
      subst AreStill (sym did) (tt, polled now party after more is_polled)
  rested party after steps moved (IsRested.polls now more false due did is_polled is) = absurd (none-some moved (sym is))

  -- of one serving of participant 0 that did not stop
  pub core_still : {denies : Denials} → (party after : Party) (steps : List MailStep) (moved : Bool)
      → IsCoreServed denies count party after steps (Some moved)
      → AreStill steps
  core_still party after steps moved (IsCoreServed.rests more did is_rested) =
      subst AreStill (sym did) (tt, rested party after more moved is_rested)
  core_still party after steps moved (IsCoreServed.heeds frame more true did is_obeyed is) =
      subst AreStill (sym did) (tt, obeyed party after frame more is_obeyed)
  core_still party after steps moved (IsCoreServed.heeds frame more false did is_obeyed is) = absurd (none-some moved (sym is))

-- WHAT A SYNC MAKES OF IT

followed : (party after : Party) (taken : SegsView) (more : List MailStep) → IsFollowed party after taken more true → AreStill more
followed party after taken more (IsFollowed.obeys member obeys is) =
    subst AreStill (sym obeys.done)
    (still_both (tells_after_catching obeys.caught (length taken.log)) _ (tells_still obeys.caught (length taken.log))
    (tt, (subst IsStill (sym obeys.replied.posts) tt, tt)))
followed party after taken more (IsFollowed.is_out out did after_is is) = subst AreStill (sym did) (tt, tt)
followed party after taken more (IsFollowed.is_worn member worn did after_is is) = absurd (true≢false is)

told : (party after : Party) (body : Body) (steps : List MailStep) → IsTold party after body steps true → AreStill steps
told party after body steps (IsTold.hears reply did after_is is) = subst AreStill (sym did) tt
told party after body steps (IsTold.follows taken more sync did is_followed) =
    subst AreStill (sym did) (tt, followed party after taken more is_followed)

heeded : (party after : Party) (frame : Frame) (steps : List MailStep) → IsDispatched party after frame steps true → AreStill steps
heeded party after frame steps (IsDispatched.drops says did after_is is) = subst AreStill (sym did) tt
heeded party after frame steps (IsDispatched.tells body says is_told) = told party after body steps is_told

-- of one serving of another
pub member_still : (party after : Party) (steps : List MailStep) (moved : Bool) → IsMemberServed party after steps (Some moved)
    → AreStill steps
member_still party after steps moved (IsMemberServed.rests did after_is is) = subst AreStill (sym did) (tt, tt)
member_still party after steps moved (IsMemberServed.heeds frame more true did is_heeded is) =
    subst AreStill (sym did) (tt, heeded party after frame more is_heeded)
member_still party after steps moved (IsMemberServed.heeds frame more false did is_heeded is) = absurd (none-some moved (sym is))

-- of one serving, whoever serves
pub served_still : {denies : Denials} → (count : ℕ) (party after : Party) (steps : List MailStep) (moved : Bool)
    → IsServed denies count party after steps (Some moved)
    → AreStill steps
served_still count party after steps moved (IsServed.coordinates primary served) = core_still count party after steps moved served
served_still count party after steps moved (IsServed.follows other served) = member_still party after steps moved served
