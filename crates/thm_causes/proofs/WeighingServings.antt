-- Each serving that does something makes smaller what mailboxes and the coordinator weigh.
use Rattle.std.proofs.Common.{◌≡◌, ◌∙◌, ℕ, ◌+◌, ◌≤◌, Bool, true, List, [], ◌∷◌, Option, Some, None, refl, sym, ap, subst, arith}
use Rattle.hp_base.specs.Plans.{action_of}
use Rattle.hp_base.specs.declared.caught.Caught.{Caught}
use Rattle.hp_base.specs.declared.caught.Caught.TheVariants as caught
use Rattle.hp_base.specs.declared.plan_entry.MsgKind.TheVariants as message
use Rattle.hp_core.specs.Core.{Core}
use Rattle.hp_core.specs.Following.{reply_of}
use Rattle.hp_core.specs.declared.event.CoreEvent.{CoreEvent}
use Rattle.hp_core.specs.declared.event.CoreEvent.TheVariants.{Poll, SelfMapped}
use Rattle.hp_core.specs.declared.out.Out.{Out}
use Rattle.hp_frame.specs.declared.frame.Frame.{Frame}
use Rattle.hp_frame.specs.declared.message.Body.{Body}
use Rattle.hp_frame.specs.declared.message.Body.TheVariants.{Alloc, Answer, Free, Sync}
use Rattle.hp_plain.specs.Boxes.{box_of}
use Rattle.hp_hall.specs.Measures.{frame_measure, pending_at, pending_most_one}
use Rattle.hp_serve.specs.Coordinating.{stepping, with_core, with_room}
use Rattle.hp_serve.specs.Denials.{Denials}
use Rattle.hp_serve.specs.Falling.{Falls, IsDue, IsDueAt, UsesUp, brought, out_measure, used_up}
use Rattle.hp_serve.specs.Frames.{Says}
use Rattle.hp_serve.specs.Party.{Party, one_more}
use Rattle.hp_serve.specs.Posting.{is_told, result_body, times_sent}
use Rattle.hp_serve.specs.Serving.{is_sync}
use Rattle.hp_serve.proofs.MemberLemmas.{reply_weighs}
use Rattle.hp_serve.proofs.Scaled.{scaled, scaled_used}
use Rattle.hp_serve.proofs.StepFalls.{due_step_uses, step_falls}
use Rattle.hp_serve.proofs.Weighs.{ask_weighs, some_measure, sync_weighs}
use Rattle.thm_causes.specs.Servings.{CarriesOut, CoreServes, Handles, MapsItself, MemberServes, FollowsIn, PostsFor, Steps, caught_up, numbered, synced}
use Rattle.thm_causes.specs.Shared.{Shared, fetched_by, posted_to}
use Rattle.thm_causes.specs.Measuring.{CoreWeighsLess, MemberWeighsLess, measure_of}
use Rattle.thm_causes.proofs.WeighingBoxes.{fetched_lighter, posted_weighs, synced_weighs}

-- A MEMBER

-- the frame of a SYNC weighs 3
told_weighs : (frame : Frame) (body : Body) → Says frame body → is_sync body ≡ true → frame_measure frame ≡ 3
told_weighs frame (Alloc from number heap socket page size align bound flags) says is = cc
told_weighs frame (Free from number heap address len) says is = cc
told_weighs frame (Sync generation round) says is = sync_weighs frame generation round says
told_weighs frame (Answer from number what code) says is = cc

-- whatever a frame says, its fetch alone makes the measure smaller
dropped_lighter : (who : ℕ) (frame : Frame) (more : List Frame) (old new : Shared) (core after : Option Core)
    → box_of old.boxes who ≡ frame ∷ more → new ≡ fetched_by who old → after ≡ core → measure_of new after + 1 ≤ measure_of old core
dropped_lighter who frame more old new core after box shared same =
    let is : measure_of new after ≡ measure_of (fetched_by who old) core =
    ap (λ (at : Shared). measure_of at after) shared ∙ ap (λ (core : Option Core). measure_of (fetched_by who old) core) same in
    omega (arith, is, fetched_lighter who frame more old core box, some_measure frame)

-- what is acknowledged weighs nothing
numbered_weighs : (who : ℕ) (caught : Caught) (at : Shared) (core : Option Core)
    → measure_of (numbered who caught at) core ≡ measure_of at core
numbered_weighs who caught.Done at core = refl
numbered_weighs who (caught.Refused row call) at core = refl
numbered_weighs who (caught.Elsewhere row call got) at core = refl

-- a SYNC that is fetched pays for the reply to it
obeyed_lighter : (frame : Frame) (more : List Frame) (body : Body) (old new : Shared) (party after : Party) (core : Option Core)
    → box_of old.boxes party.me ≡ frame ∷ more → Says frame body → is_sync body ≡ true → FollowsIn (fetched_by party.me old) new party after
    → measure_of new core + 1 ≤ measure_of old core
obeyed_lighter frame more body old new party after core box says told obeys =
    let action = action_of party.plan message.Reply party.me (one_more party.sent.replies) in
    let fetched : Shared = fetched_by party.me old in
    let posted = posted_weighs 0 obeys.frame action (caught_up party.me obeys.caught fetched) core in
    omega (
      arith,
      ap (λ (at : Shared). measure_of at core) obeys.shared,
      posted,
      reply_weighs obeys.frame (reply_of party.me obeys.caught fetched.segs) refl obeys.says,
      numbered_weighs party.me obeys.caught fetched core,
      fetched_lighter party.me frame more old core box,
      told_weighs frame body says told,
    )

-- what a member makes of the measure
pub member_weighs_less : MemberWeighsLess
member_weighs_less old new party after moved core (MemberServes.rests box shared after_is) =
    omega (arith, ap (λ (at : Shared). measure_of at core) shared)
member_weighs_less old new party after moved core (MemberServes.drops frame more box says shared after_is) =
    dropped_lighter party.me frame more old new core core box shared refl
member_weighs_less old new party after moved core (MemberServes.hears frame more body box says other shared after_is) =
    dropped_lighter party.me frame more old new core core box shared refl
member_weighs_less old new party after moved core (MemberServes.is_out frame more body box says told out shared after_is) =
    dropped_lighter party.me frame more old new core core box shared refl
member_weighs_less old new party after moved core (MemberServes.obeys frame more body box says told member obeys) =
    obeyed_lighter frame more body old new party after core box says told obeys

-- PARTICIPANT 0

module _ {denies : Denials} (event : CoreEvent) (core : Core) (answer : Out) (next : Core) (old new : Shared)
    (steps : Steps denies event core answer next old new) where
  -- what an event brings pays for what the coordinator's answer brings
  step_weighs : measure_of new (Some next) + out_measure answer ≤ measure_of old (Some core) + brought event
  step_weighs =
      let falls : Falls event core next answer =
      subst (λ (left : Core). Falls event core left answer) (sym steps.core_is)
      (subst (λ (answer : Out). Falls event core (stepping steps.denied event core old.segs).core answer) (sym steps.answer_is)
      (step_falls (λ socket total. steps.denied) event core (with_room old.segs))) in
      omega (
        arith,
        ap (λ (at : Shared). measure_of at (Some next)) steps.shared,
        scaled 1 pending_at pending_most_one old.clock old.clock refl (brought event) (used_up event answer) core next answer falls,
      )

  -- a poll that is due uses up 1 besides
  step_due : IsDueAt core event → measure_of new (Some next) + out_measure answer + 1 ≤ measure_of old (Some core)
  step_due due =
      let uses : UsesUp 0 1 core next answer =
      subst (λ (left : Core). UsesUp 0 1 core left answer) (sym steps.core_is)
      (subst (λ (answer : Out). UsesUp 0 1 core (stepping steps.denied event core old.segs).core answer) (sym steps.answer_is)
      (due_step_uses (λ socket total. steps.denied) event core (with_room old.segs) due)) in
      omega (
        arith,
        ap (λ (at : Shared). measure_of at (Some next)) steps.shared,
        scaled_used 1 pending_at pending_most_one old.clock old.clock refl 0 1 core next answer uses,
      )

-- the same of both weighs the same
weighs_as : (old new : Shared) (before after : Option Core) → new ≡ old → after ≡ before → measure_of new after ≡ measure_of old before
weighs_as old new before after shared same = ap (λ (at : Shared). measure_of at after) shared ∙ ap (measure_of old) same

-- what is posted weighs no more than what the answer brings
posts_weigh : (count : ℕ) (old new : Shared) (party after : Party) (answer : Out) → PostsFor count old new party after answer
    → measure_of new after.core ≤ measure_of old party.core + out_measure answer
posts_weigh count old new party after answer (PostsFor.nothing shared after_is) =
    omega (arith, weighs_as old new party.core after.core shared (ap (λ (party : Party). party.core) after_is))
posts_weigh count old new party after answer (PostsFor.syncs generation round members frame says shared after_is) =
    let told : ℕ → Bool = is_told count members in
    omega (
      arith,
      weighs_as (synced told party frame 15 old) new party.core after.core shared (ap (λ (party : Party). party.core) after_is),
      synced_weighs told party frame generation round says 15 old party.core,
    )
posts_weigh count old new party after answer (PostsFor.answers to number what good frame asker says shared after_is) =
    let action = action_of party.plan message.Answer to (one_more (times_sent party.sent.answers to)) in
    omega (
      arith,
      weighs_as (posted_to to frame action old) new party.core after.core shared (ap (λ (party : Party). party.core) after_is),
      posted_weighs to frame action old party.core,
      reply_weighs frame (result_body number what good) refl says,
    )
posts_weigh count old new party after answer (PostsFor.nobody to number what good asker shared after_is) =
    omega (arith, weighs_as old new party.core after.core shared (ap (λ (party : Party). party.core) after_is))

-- a catching up brings nothing but what the next answer does
maps_weigh : (old mid : Shared) (party between : Party) (answer : Out) → MapsItself old mid party between answer
    → measure_of mid between.core + out_measure answer ≤ measure_of old party.core
maps_weigh old mid party between answer mapped =
    let start : Shared = numbered 0 mapped.caught old in
    omega (
      arith,
      ap (λ (party : Party). measure_of mid party.core) mapped.after_is,
      step_weighs (SelfMapped mapped.caught old.clock) mapped.core answer mapped.next start mid mapped.steps,
      numbered_weighs 0 mapped.caught old (Some mapped.core),
      ap (measure_of old) mapped.there,
    )

-- what is carried out weighs no more than what the answer brings
carries_weigh : (count : ℕ) (old new : Shared) (party after : Party) (answer : Out) → CarriesOut count old new party after answer
    → measure_of new after.core ≤ measure_of old party.core + out_measure answer
carries_weigh count old new party after answer (CarriesOut.posts _ _ _ _ _ posts) = posts_weigh count old new party after answer posts
carries_weigh count old new party after answer (CarriesOut.maps _ mid _ _ between _ _ next must mapped carried) =
    omega (arith, carries_weigh count mid new between after next carried, maps_weigh old mid party between next mapped)

module _ {denies : Denials} (count : ℕ) (event : CoreEvent) (old new : Shared) (party after : Party)
    (handles : Handles denies count event old new party after) where
  -- an event that is handled
  handles_weigh : measure_of new after.core ≤ measure_of old party.core + brought event
  handles_weigh =
      omega (
        arith,
        carries_weigh count handles.mid new (with_core handles.next party) after handles.answer handles.carries,
        step_weighs event handles.core handles.answer handles.next old handles.mid handles.steps,
        ap (measure_of old) handles.there,
      )

  -- one that is due
  handles_due : IsDue party.core event → measure_of new after.core + 1 ≤ measure_of old party.core
  handles_due due =
      let at : IsDueAt handles.core event = subst (λ (core : Option Core). IsDue core event) handles.there due in
      omega (
        arith,
        carries_weigh count handles.mid new (with_core handles.next party) after handles.answer handles.carries,
        step_due event handles.core handles.answer handles.next old handles.mid handles.steps at,
        ap (measure_of old) handles.there,
      )

-- what participant 0 makes of the measure
pub core_weighs_less : CoreWeighsLess
core_weighs_less denies count old new party after moved me (CoreServes.rests box holds to_come shared after_is) =
    omega (arith, weighs_as old new party.core after.core shared (ap (λ (party : Party). party.core) after_is))
core_weighs_less denies count old new party after moved me (CoreServes.polls box due polls) =
    handles_due count (Poll old.clock polls.acks) old new party after polls.handles (due_by polls.acks party.core due)
  where
    due_by : (acks : List ℕ) (core : Option Core) → IsDue core (Poll old.clock []) → IsDue core (Poll old.clock acks)
    due_by acks None due = due
    due_by acks (Some core) due = due
core_weighs_less denies count old new party after moved me (CoreServes.drops frame more box says shared after_is) =
    dropped_lighter party.me frame more old new party.core after.core box shared (ap (λ (party : Party). party.core) after_is)
core_weighs_less denies count old new party after moved me (CoreServes.asks frame more body event box says asked handles) =
    omega (
      arith,
      handles_weigh count event (fetched_by party.me old) new party after handles,
      fetched_lighter party.me frame more old party.core box,
      ask_weighs frame count body event says asked,
    )
core_weighs_less denies count old new party after moved me (CoreServes.replied frame more body due box says reply under_way polls) =
    omega (
      arith,
      handles_weigh count (Poll old.clock polls.acks) (fetched_by party.me old) new party after polls.handles,
      fetched_lighter party.me frame more old party.core box,
      some_measure frame,
    )
core_weighs_less denies count old new party after moved me (CoreServes.late_reply frame more body box says reply none shared after_is) =
    dropped_lighter party.me frame more old new party.core after.core box shared (ap (λ (party : Party). party.core) after_is)
core_weighs_less denies count old new party after moved me (CoreServes.hears frame more body box says is_no_ask other shared after_is) =
    dropped_lighter party.me frame more old new party.core after.core box shared (ap (λ (party : Party). party.core) after_is)
