-- Who serves gives no heap back, and stays attached.
use Rattle.std.proofs.Common.{◌≡◌, ◌∙◌, ℕ, zero, suc, Bool, true, false, true≢false, ◌||◌, nat_lt, List, [], ◌∷◌, ◌++◌, length, Some, if◌then◌else◌, refl, sym, ap, subst}
use Rattle.std.proofs.lemmas.Option.{none-some}
use Rattle.std.specs.Prelude.{slice_index}
use Rattle.hp_base.specs.Mapping.{is_done}
use Rattle.hp_base.specs.declared.caught.Caught.{Caught}
use Rattle.hp_base.specs.declared.caught.Caught.TheVariants as caught
use Rattle.hp_core.specs.Core.{Core}
use Rattle.hp_core.specs.declared.event.CoreEvent.{CoreEvent}
use Rattle.hp_core.specs.declared.out.Out.{Out}
use Rattle.hp_frame.specs.declared.frame.Frame.{Frame}
use Rattle.hp_frame.specs.declared.message.Body.{Body}
use Rattle.hp_base.specs.declared.plan_entry.PlanEntry.{PlanEntry}
use Rattle.hp_hall.specs.Mail.{MailStep, Notes}
use Rattle.hp_hall.specs.declared.note.Note.TheVariants.{Loaded}
use Rattle.hp_segs.specs.SegsView.{SegsView}
use Rattle.hp_serve.specs.Coordinating.{IsAnswered, IsCarried, IsCoreServed, IsHanded, IsHandled, IsMapped, IsFrameHandled, IsPolled, IsRested, IsServed, IsSettled, loads_of}
use Rattle.hp_serve.specs.Denials.{Denials}
use Rattle.hp_serve.specs.Party.{Party}
use Rattle.hp_serve.specs.Posting.{AreTold, IsPosted, IsToldOne, is_told, syncs_after}
use Rattle.hp_serve.specs.Serving.{IsFollowed, IsDispatched, IsMemberServed, IsTold, tells_after_catching}
use Rattle.hp_solo.specs.Served.{ServesOn}
use Rattle.thm_run.proofs.HeapGivers.{GiveNoHeap, IsNoGive}

-- steps one after the other
pub none_both : (first last : List MailStep) → GiveNoHeap first → GiveNoHeap last → GiveNoHeap (first ++ last)
none_both [] last here there = there
none_both (step ∷ first) last here there = (here.0, none_both first last here.1 there)

-- what it did gives no heap back, and where it was attached it is
pub record Leaves (party after : Party) (steps : List MailStep) : Type 0 where
  pub none : GiveNoHeap steps
  pub joined : party.joined ≡ true → after.joined ≡ true

-- it is the same participant, so far
leaves_by : (party after : Party) (steps did : List MailStep) → after.joined ≡ party.joined → steps ≡ did → GiveNoHeap did
    → Leaves party after steps
leaves_by party after steps did same is none =
    record { none = subst GiveNoHeap (sym is) none; joined = λ joined. same ∙ joined }

leaves_same : (party after : Party) (steps : List MailStep) → after ≡ party → steps ≡ [] → Leaves party after steps
leaves_same party after steps same did = leaves_by party after steps [] (ap (λ (party : Party). party.joined) same) did tt

leaves_both : (party mid after : Party) (first last steps : List MailStep) → steps ≡ first ++ last → Leaves party mid first
    → Leaves mid after last → Leaves party after steps
leaves_both party mid after first last steps did here there = record {
  none = subst GiveNoHeap (sym did) (none_both first last here.none there.none);
  joined = λ joined. there.joined (here.joined joined);
}

-- one step more before it
leaves_behind : (party after : Party) (step : MailStep) (more steps : List MailStep) → IsNoGive step → steps ≡ step ∷ more
    → Leaves party after more → Leaves party after steps
leaves_behind party after step more steps its did rest =
    record { none = subst GiveNoHeap (sym did) (its, rest.none); joined = rest.joined }

-- WHAT IS POSTED

told_one : (plan : List PlanEntry) (frame : Frame) (counts : List ℕ) (to : ℕ) (told : Bool) (steps : List MailStep)
    → IsToldOne plan frame counts to told steps → GiveNoHeap steps
told_one plan frame counts to told steps (IsToldOne.tells posted is did) = subst GiveNoHeap (sym did) (tt, tt)
told_one plan frame counts to told steps (IsToldOne.passes is did) = subst GiveNoHeap (sym did) tt

are_told : (plan : List PlanEntry) (counts : List ℕ) (frame : Frame) (told : ℕ → Bool) (n : ℕ) (steps : List MailStep)
    → AreTold plan counts frame told n steps → GiveNoHeap steps
unfolding AreTold
are_told plan counts frame told zero steps are = subst GiveNoHeap (sym are) tt
are_told plan counts frame told (suc n) steps are =
    subst GiveNoHeap (sym are.4)
    (none_both are.0 are.1 (are_told plan counts frame told n are.0 are.2)
    (told_one plan frame (syncs_after told counts n) (suc n) (told (suc n)) are.1 are.3))

is_posted : (count : ℕ) (party after : Party) (answer : Out) (steps : List MailStep) → IsPosted count party after answer steps
    → Leaves party after steps
is_posted count party after answer steps (IsPosted.nothing is did after_is) = leaves_same party after steps after_is did
is_posted count party after answer steps (IsPosted.syncs generation round members frame is says told after_is) =
    leaves_by party after steps steps (ap (λ (party : Party). party.joined) after_is) refl
    (are_told party.plan party.sent.syncs frame (is_told count members) 15 steps told)
is_posted count party after answer steps (IsPosted.answers to number what good frame posted is asker says did after_is) =
    leaves_by party after steps _ (ap (λ (party : Party). party.joined) after_is) did (tt, tt)
is_posted count party after answer steps (IsPosted.nobody to number what good is asker did after_is) =
    leaves_same party after steps after_is did

-- WHAT IS NOTED

tells_none : (caught : Caught) (records : ℕ) → GiveNoHeap (tells_after_catching caught records)
tells_none caught.Done records = (tt, tt)
tells_none (caught.Refused row call) records = (tt, tt)
tells_none (caught.Elsewhere row call got) records = (tt, tt)

loaded_if : (is : Bool) (member ack : ℕ) → GiveNoHeap (if is then Notes (Loaded member ack) ∷ [] else [])
loaded_if true member ack = (tt, tt)
loaded_if false member ack = tt

loads_none : (count : ℕ) (acks : List ℕ) (n : ℕ) → GiveNoHeap (loads_of count acks n)
unfolding loads_of
loads_none count acks zero = tt
loads_none count acks (suc n) = none_both (loads_of count acks n) _ (loads_none count acks n) (loaded_if (nat_lt n count) n (slice_index acks n))

-- WHAT ITS COORDINATOR DOES

handed : {denies : Denials} → (event : CoreEvent) (core next : Core) (taken : SegsView) (more : List MailStep) (answer : Out)
    → IsHanded denies event core next taken more (Some answer) → GiveNoHeap more
handed event core next taken more answer (IsHanded.handed denied may did next_is is) = subst GiveNoHeap (sym did) (tt, tt)
handed event core next taken more answer (IsHanded.no_room did next_is is) = absurd (none-some answer (sym is))

still_true : (was is : Bool) → was ≡ true → (was || is) ≡ true
still_true true is joined = refl
still_true false is joined = cc

mapped : (party after : Party) (steps : List MailStep) (answer : Out) → IsMapped party after steps (Some answer) → Leaves party after steps
mapped party after steps answer (IsMapped.maps core next taken caught table own now more core_is did caught_up is_handed after_is) =
    record {
      none = subst GiveNoHeap (sym did) (
        tt,
        none_both (tells_after_catching caught (length taken.log)) _ (tells_none caught (length taken.log))
            (tt, (tt, handed _ core next taken more answer is_handed)),
      );
      joined = λ joined. ap (λ (party : Party). party.joined) after_is ∙ still_true party.joined (is_done caught) joined;
    }
mapped party after steps answer (IsMapped.worn taken is_worn did after_is none) = absurd (none-some answer (sym none))

settled : (count : ℕ) (party after : Party) (answer : Out) (steps : List MailStep) → IsSettled count party after answer steps true
    → Leaves party after steps
settled count party after answer steps (IsSettled.posts posted is) = is_posted count party after answer steps posted
settled count party after answer steps (IsSettled.stops must mapped is) = absurd (true≢false is)

carried : (count : ℕ) (mids : List Party) (party after : Party) (answer : Out) (steps : List MailStep)
    → IsCarried count mids party after answer steps true → Leaves party after steps
carried count [] party after answer steps is = settled count party after answer steps is
carried count (mid ∷ mids) party after answer steps is =
    leaves_both party mid after is.1 is.2 steps is.3 (mapped party mid is.1 is.0 is.5) (carried count mids mid after is.0 is.2 is.6)

handled : {denies : Denials} → (count : ℕ) (event : CoreEvent) (party after : Party) (steps : List MailStep)
    → IsHandled denies count event party after steps true
    → Leaves party after steps
handled count event party after steps (IsHandled.carries core next answer mids first more core_is hands is_carried did) =
    let rest = carried count mids _ after answer more is_carried in
    record {
      none = subst GiveNoHeap (sym did)
          (none_both first more
          (subst GiveNoHeap (sym hands.begins) (tt, handed event core next hands.taken hands.more answer hands.is_handed)) rest.none);
      joined = rest.joined;
    }
handled count event party after steps (IsHandled.stops core next core_is hands after_is is) = absurd (true≢false is)

polled : {denies : Denials} → (count now : ℕ) (party after : Party) (steps : List MailStep)
    → IsPolled denies count now party after steps true
    → Leaves party after steps
polled count now party after steps is_polled =
    let rest = handled count _ party after is_polled.more is_polled.handled in
    record {
      none = subst GiveNoHeap (sym is_polled.are)
          (none_both is_polled.looks is_polled.more
          (subst GiveNoHeap (sym is_polled.looked_up.looked_up) (loads_none count is_polled.acks 16)) rest.none);
      joined = rest.joined;
    }

answered : {denies : Denials} → (count : ℕ) (party after : Party) (body : Body) (steps : List MailStep)
    → IsAnswered denies count party after body steps true
    → Leaves party after steps
answered count party after body steps (IsAnswered.polls due now more reply due_is did is_polled) =
    leaves_behind party after _ more steps tt did (polled count now party after more is_polled)
answered count party after body steps (IsAnswered.rests reply none did after_is goes_is) = leaves_same party after steps after_is did
answered count party after body steps (IsAnswered.hears reply did after_is goes_is) =
    leaves_by party after steps [] (ap (λ (party : Party). party.joined) after_is) did tt

obeyed : {denies : Denials} → (count : ℕ) (party after : Party) (frame : Frame) (steps : List MailStep)
    → IsFrameHandled denies count party after frame steps true
    → Leaves party after steps
obeyed count party after frame steps (IsFrameHandled.drops says did after_is goes_is) = leaves_same party after steps after_is did
obeyed count party after frame steps (IsFrameHandled.asks body event says ask is_handled) = handled count event party after steps is_handled
obeyed count party after frame steps (IsFrameHandled.others body says none is_answered) = answered count party after body steps is_answered

rested : {denies : Denials} → (count : ℕ) (party after : Party) (steps : List MailStep) (moved : Bool)
    → IsRested denies count party after steps (Some moved)
    → Leaves party after steps
rested count party after steps moved (IsRested.rests now holds early did after_is is) =
    leaves_by party after steps _ (ap (λ (party : Party). party.joined) after_is) did (tt, tt)
rested count party after steps moved (IsRested.polls now more true due did is_polled is) =
    leaves_behind party after _ more steps tt did (polled count now party after more is_polled)
rested count party after steps moved (IsRested.polls now more false due did is_polled is) = absurd (none-some moved (sym is))

coordinates : {denies : Denials} → (count : ℕ) (party after : Party) (steps : List MailStep) (moved : Bool)
    → IsCoreServed denies count party after steps (Some moved)
    → Leaves party after steps
coordinates count party after steps moved (IsCoreServed.rests more did is_rested) =
    leaves_behind party after _ more steps tt did (rested count party after more moved is_rested)
coordinates count party after steps moved (IsCoreServed.heeds frame more true did is_obeyed is) =
    leaves_behind party after _ more steps tt did (obeyed count party after frame more is_obeyed)
coordinates count party after steps moved (IsCoreServed.heeds frame more false did is_obeyed is) = absurd (none-some moved (sym is))

-- WHAT A SYNC MAKES OF IT

followed : (party after : Party) (taken : SegsView) (more : List MailStep) → IsFollowed party after taken more true
    → Leaves party after more
followed party after taken more (IsFollowed.obeys member obeys is) = record {
  none = subst GiveNoHeap (sym obeys.done)
      (none_both (tells_after_catching obeys.caught (length taken.log)) _ (tells_none obeys.caught (length taken.log))
      (tt, (subst IsNoGive (sym obeys.replied.posts) tt, tt)));
  joined = λ joined. ap (λ (party : Party). party.joined) obeys.after_is ∙ still_true party.joined (is_done obeys.caught) joined;
}
followed party after taken more (IsFollowed.is_out out did after_is is) =
    leaves_by party after more _ (ap (λ (party : Party). party.joined) after_is) did (tt, tt)
followed party after taken more (IsFollowed.is_worn member worn did after_is is) = absurd (true≢false is)

told : (party after : Party) (body : Body) (steps : List MailStep) → IsTold party after body steps true → Leaves party after steps
told party after body steps (IsTold.hears reply did after_is is) =
    leaves_by party after steps [] (ap (λ (party : Party). party.joined) after_is) did tt
told party after body steps (IsTold.follows taken more sync did is_followed) =
    leaves_behind party after _ more steps tt did (followed party after taken more is_followed)

heeded : (party after : Party) (frame : Frame) (steps : List MailStep) → IsDispatched party after frame steps true → Leaves party after steps
heeded party after frame steps (IsDispatched.drops says did after_is is) = leaves_same party after steps after_is did
heeded party after frame steps (IsDispatched.tells body says is_told) = told party after body steps is_told

follows : (party after : Party) (steps : List MailStep) (moved : Bool) → IsMemberServed party after steps (Some moved)
    → Leaves party after steps
follows party after steps moved (IsMemberServed.rests did after_is is) =
    leaves_by party after steps _ (ap (λ (party : Party). party.joined) after_is) did (tt, tt)
follows party after steps moved (IsMemberServed.heeds frame more true did is_heeded is) =
    leaves_behind party after _ more steps tt did (heeded party after frame more is_heeded)
follows party after steps moved (IsMemberServed.heeds frame more false did is_heeded is) = absurd (none-some moved (sym is))

-- one serving that did not stop
pub served_leaves : {denies : Denials} → (count : ℕ) (party after : Party) (steps : List MailStep) (moved : Bool)
    → IsServed denies count party after steps (Some moved) → Leaves party after steps
served_leaves count party after steps moved (IsServed.coordinates primary served) = coordinates count party after steps moved served
served_leaves count party after steps moved (IsServed.follows other served) = follows party after steps moved served

-- servings one after another
pub serves_leaves : {denies : Denials} → (count : ℕ) (party after : Party) (steps : List MailStep)
    → ServesOn denies count party after steps → Leaves party after steps
serves_leaves count _ _ _ (ServesOn.rests party) = leaves_same party party [] refl refl
serves_leaves count _ _ _ (ServesOn.serves party mid after first last moved before served) =
    leaves_both party mid after first last (first ++ last) refl (serves_leaves count party mid first before)
    (served_leaves count mid after last moved served)
serves_leaves count _ _ _ (ServesOn.pauses party after first before) =
    leaves_both party after after first _ _ refl (serves_leaves count party after first before)
    (leaves_by after after _ _ refl refl (tt, tt))
