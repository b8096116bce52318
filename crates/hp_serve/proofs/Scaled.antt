-- What a step of the coordinator makes fall, as a hall counts it: the rules "Messages" and "Coordinating" of docs/PARTICIPANTS.md. A hall
-- counts frames by its scale, and a deadline that is still to come by at most that.
use Rattle.std.proofs.Common.{◌≡◌, ◌∙◌, ap, sym, refl, subst, inl, inr, arith, ℕ, ◌+◌, ◌-◌, ◌*◌, ◌^◌, ◌≤◌, min, List, Option, Some, None, mul-le-mul_left}
use Rattle.hp_core.specs.Core.{Core, due_of}
use Rattle.hp_core.specs.declared.event.CoreEvent.{CoreEvent}
use Rattle.hp_core.specs.declared.event.CoreEvent.TheVariants.{SelfMapped}
use Rattle.hp_core.specs.declared.out.Out.{Out}
use Rattle.hp_core.specs.declared.out.Out.TheVariants as out
use Rattle.hp_core.specs.declared.phase.Phase.{Phase}
use Rattle.hp_core.specs.declared.phase.Phase.TheVariants.{Idle, Mapping, Waiting}
use Rattle.hp_frame.specs.declared.frame.Frame.{Frame}
use Rattle.hp_frame.specs.declared.message.Body.{Body}
use Rattle.hp_frame.specs.declared.message.Body.TheVariants.{Sync, Answer}
use Rattle.hp_hall.specs.Mail.{MailStep}
use Rattle.hp_hall.specs.Measures.{counted, frame_measure}
use Rattle.hp_segs.specs.SegsView.{SegsView}
use Rattle.hp_serve.specs.Coordinating.{IsAskIn, IsHanded, IsMapped, MustMap, handed, maps, no_room, stepping, with_room, worn}
use Rattle.hp_serve.specs.Denials.{Denials}
use Rattle.hp_serve.specs.Falling.{CoreFalls, Falls, FallsBy, IsDueAt, UsesUp, brought, held_sum, least_measure, maps_measure, most_measure, out_measure, own_measure}
use Rattle.hp_serve.specs.Frames.{Says}
use Rattle.hp_serve.specs.Party.{Party}
use Rattle.hp_serve.proofs.StepFalls.{due_step_uses, step_falls}
use Rattle.hp_serve.proofs.Weighs.{answer_weighs, ask_weighs, some_measure, sync_weighs}

-- THE OWN WEIGHT

module _ (scale : ℕ) (pending : ℕ → ℕ) where
  own_least : (core : Core) → scale * (least_measure core.phase + held_sum core.held) ≤ own_measure scale pending (Some core)
  own_least core = omega arith

  own_most : ((deadline : ℕ) → pending deadline ≤ scale) → (core : Core)
      → own_measure scale pending (Some core) ≤ scale * (most_measure core.phase + held_sum core.held)
  own_most most core = omega (arith, phase_most core.deadline core.phase)
    where
      phase_most : (deadline : ℕ) (phase : Phase)
          → scale * least_measure phase + counted pending (due_of deadline phase) ≤ scale * most_measure phase
      phase_most deadline Idle = omega arith
      phase_most deadline (Mapping round) = omega arith
      phase_most deadline (Waiting round since) = omega (arith, most (min (since + deadline) (2 ^ 64 - 1)))

-- where fewer deadlines are still to come it is no more
pub own_measure_lower : (scale : ℕ) (late early : ℕ → ℕ) → ((deadline : ℕ) → late deadline ≤ early deadline) → (core : Option Core)
    → own_measure scale late core ≤ own_measure scale early core
own_measure_lower scale late early fewer None = omega arith
own_measure_lower scale late early fewer (Some core) = omega (arith, fewer_due (due_of core.deadline core.phase))
  where
    fewer_due : (due : Option ℕ) → counted late due ≤ counted early due
    fewer_due None = omega arith
    fewer_due (Some deadline) = fewer deadline

-- while the clock stands it is the same
pub own_measure_still : (scale : ℕ) (pending : ℕ → ℕ → ℕ) (before behind : ℕ) (core : Option Core) → behind ≡ before
    → own_measure scale (pending behind) core ≡ own_measure scale (pending before) core
own_measure_still scale pending before behind core still = ap (λ at. own_measure scale (pending at) core) still

-- A STEP, WHILE THE CLOCK STANDS

module _ (scale : ℕ) (pending : ℕ → ℕ) (most : (deadline : ℕ) → pending deadline ≤ scale) (brings uses : ℕ) (old new : Core) (answer : Out) where
  used_at : UsesUp brings uses old new answer
      → own_measure scale pending (Some new) + scale * (out_measure answer + uses) ≤ own_measure scale pending (Some old) + scale * brings
  used_at used = omega (arith, own_most scale pending most new, own_least scale pending old, mul-le-mul_left scale used)

  same_counted : new.phase ≡ old.phase → new.deadline ≡ old.deadline
      → scale * least_measure new.phase + counted pending (due_of new.deadline new.phase)
      ≡ scale * least_measure old.phase + counted pending (due_of old.deadline old.phase)
  same_counted phase deadline =
      ap (λ phase. scale * least_measure phase + counted pending (due_of new.deadline phase)) phase
      ∙ ap (λ deadline. scale * least_measure old.phase + counted pending (due_of deadline old.phase)) deadline

  falls_at : FallsBy brings uses old new answer
      → own_measure scale pending (Some new) + scale * out_measure answer ≤ own_measure scale pending (Some old) + scale * brings
  falls_at (inl stays) = omega (arith, same_counted stays.0 stays.1, mul-le-mul_left scale stays.2)
  falls_at (inr used) = omega (arith, used_at used)

module _ (scale : ℕ) (pending : ℕ → ℕ → ℕ) (most : (at deadline : ℕ) → pending at deadline ≤ scale) (before behind : ℕ) (still : behind ≡ before)
    (brings uses : ℕ) where
  -- what is brought pays for what goes out and for what is used up
  pub scaled_used : (old new : Core) (answer : Out) → UsesUp brings uses old new answer
      → own_measure scale (pending behind) (Some new) + scale * (out_measure answer + uses)
      ≤ own_measure scale (pending before) (Some old) + scale * brings
  scaled_used old new answer used =
      omega (
        arith,
        own_measure_still scale pending before behind (Some new) still,
        used_at scale (pending before) (most before) brings uses old new answer used,
      )

  -- what is brought pays for what goes out
  pub scaled : (old new : Core) (answer : Out) → FallsBy brings uses old new answer
      → own_measure scale (pending behind) (Some new) + scale * out_measure answer
      ≤ own_measure scale (pending before) (Some old) + scale * brings
  scaled old new answer falls =
      omega (
        arith,
        own_measure_still scale pending before behind (Some new) still,
        falls_at scale (pending before) (most before) brings uses old new answer falls,
      )

  -- of a participant
  pub core_scaled : (old new : Option Core) (answer : Out) → CoreFalls brings uses old new answer
      → own_measure scale (pending behind) new + scale * out_measure answer ≤ own_measure scale (pending before) old + scale * brings
  core_scaled old new answer is =
      subst (λ old. own_measure scale (pending behind) new + scale * out_measure answer ≤ own_measure scale (pending before) old + scale * brings)
      (sym is.old_is)
      (subst (λ new. own_measure scale (pending behind) new + scale * out_measure answer
      ≤ own_measure scale (pending before) (Some is.before) + scale * brings) (sym is.new_is)
      (scaled is.before is.behind answer is.falls))

-- CATCHING UP AS OFTEN AS IS TOLD

least_most : (phase : Phase) → least_measure phase ≤ most_measure phase
least_most Idle = omega arith
least_most (Mapping round) = omega arith
least_most (Waiting round since) = omega arith

-- each catching up that is followed by another makes what is under way and held less
pub carried_less : (brings : ℕ) (old new : Core) (answer : Out) → FallsBy brings (maps_measure answer) old new answer
    → least_measure new.phase + held_sum new.held + maps_measure answer ≤ least_measure old.phase + held_sum old.held + brings
carried_less brings old new answer (inl stays) = omega (arith, ap least_measure stays.0, stays.2)
carried_less brings old new answer (inr used) = omega (arith, least_most new.phase, used)

-- an order to catch up brings nothing into mailboxes
pub map_brings : (answer : Out) → MustMap answer → (out_measure answer ≡ 0) × (maps_measure answer ≡ 1)
map_brings out.Nothing must = elim must [ ]
map_brings (out.MapSelf generation) must = (refl, refl)
map_brings (out.Sync generation round members) must = elim must [ ]
map_brings (out.Answer to number what good) must = elim must [ ]

-- WHAT IS HANDED TO THE COORDINATOR

-- an event that is handed over makes the number smaller
pub handed_falls : {denies : Denials} → (event : CoreEvent) (core after : Core) (taken : SegsView) (steps : List MailStep) (answer : Out)
    → IsHanded denies event core after taken steps (Some answer) → Falls event core after answer
handed_falls event core after taken steps answer (handed denied may did after_is answer_is) =
    subst (λ left. Falls event core left answer) (sym after_is)
    (subst (λ answer. Falls event core (stepping denied event core taken).core answer) (sym (its_answer answer_is))
    (step_falls (λ socket total. denied) event core (with_room taken)))
  where
    its_answer : Some answer ≡ Some (stepping denied event core taken).out → answer ≡ (stepping denied event core taken).out
    its_answer same = cc
handed_falls event core after taken steps answer (no_room did after_is answer_is) = absurd (none_is answer_is)
  where
    none_is : Some answer ≡ None → ⊥
    none_is same = cc

-- where it is due, it uses up 1
pub handed_due : {denies : Denials} → (event : CoreEvent) (core after : Core) (taken : SegsView) (steps : List MailStep) (answer : Out)
    → IsDueAt core event
    → IsHanded denies event core after taken steps (Some answer) → UsesUp 0 1 core after answer
handed_due event core after taken steps answer due (handed denied may did after_is answer_is) =
    subst (λ left. UsesUp 0 1 core left answer) (sym after_is)
    (subst (λ answer. UsesUp 0 1 core (stepping denied event core taken).core answer) (sym (its_answer answer_is))
    (due_step_uses (λ socket total. denied) event core (with_room taken) due))
  where
    its_answer : Some answer ≡ Some (stepping denied event core taken).out → answer ≡ (stepping denied event core taken).out
    its_answer same = cc
handed_due event core after taken steps answer due (no_room did after_is answer_is) = absurd (none_is answer_is)
  where
    none_is : Some answer ≡ None → ⊥
    none_is same = cc

some_none : {X : Type 0} (x : X) → None ≡ Some x → ⊥
some_none x same = cc

-- where there was no memory for its step, the coordinator is as it was
pub handed_still : {denies : Denials} → (event : CoreEvent) (core after : Core) (taken : SegsView) (steps : List MailStep)
    → IsHanded denies event core after taken steps None → after ≡ core
handed_still event core after taken steps (handed denied may did after_is answer_is) = absurd
    (some_none (stepping denied event core taken).out answer_is)
handed_still event core after taken steps (no_room did after_is answer_is) = after_is

-- so it is where participant 0 could not catch up
pub mapped_still : (party after : Party) (steps : List MailStep) → IsMapped party after steps None → after.core ≡ party.core
mapped_still party after steps (maps core next taken caught table own now more core_is did caught_up is after_is) =
    ap (λ (party : Party). party.core) after_is ∙ ap (λ (core : Core). Some core) (handed_still (SelfMapped caught now) core next taken more is)
    ∙ sym core_is
mapped_still party after steps (worn taken is_worn did after_is none) = ap (λ (party : Party). party.core) after_is

-- WHAT IS POSTED

-- a SYNC more is posted, of which each may come twice
pub told_step : (scale start before behind n : ℕ) (frame : Frame) (generation round : ℕ) → Says frame (Sync generation round)
    → before ≤ start + scale * (6 * n) → behind ≤ before + scale * (2 * frame_measure frame) → behind ≤ start + scale * (6 * (n + 1))
told_step scale start before behind n frame generation round says so_far posted =
    let six : scale * (2 * frame_measure frame) ≡ scale * 6 = ap (λ measure. scale * (2 * measure)) (sync_weighs frame generation round says) in
    omega (arith, six, so_far, posted)

-- one that is passed over is not
pub passed_step : (scale start before behind n : ℕ) → before ≤ start + scale * (6 * n) → behind ≤ before → behind ≤ start + scale * (6 * (n + 1))
passed_step scale start before behind n so_far same = omega (arith, so_far, same)

-- a RESULT is posted
pub result_posted : (scale before behind : ℕ) (frame : Frame) (from number what code : ℕ) → Says frame (Answer from number what code)
    → behind ≤ before + scale * (2 * frame_measure frame) → behind ≤ before + scale * 2
result_posted scale before behind frame from number what code says posted =
    let two : scale * (2 * frame_measure frame) ≡ scale * 2 = ap (λ measure. scale * (2 * measure)) (answer_weighs frame from number what code says) in
    omega (arith, two, posted)

-- A WHOLE SERVING. The own weights before and after are `own` and `own_behind`

-- an ask that is fetched pays for what it is handed over as, and 1 more
pub ask_served : (scale before between behind own own_behind count : ℕ) (frame : Frame) (body : Body) (event : CoreEvent) → Says frame body
    → IsAskIn count body event → between + scale * frame_measure frame ≤ before → behind + own_behind ≤ between + own + scale * brought event
    → behind + own_behind + scale * 1 ≤ before + own
ask_served scale before between behind own own_behind count frame body event says is_ask fetched handled =
    let paid : scale * (brought event + 1) ≡ scale * frame_measure frame = ap (λ measure. scale * measure) (ask_weighs frame count body event says is_ask) in
    omega (arith, paid, fetched, handled)

-- any other frame pays for a serving that brings nothing
pub frame_served : (scale before between behind own own_behind : ℕ) (frame : Frame) → between + scale * frame_measure frame ≤ before
    → behind + own_behind ≤ between + own → behind + own_behind + scale * 1 ≤ before + own
frame_served scale before between behind own own_behind frame fetched handled =
    omega (arith, mul-le-mul_left scale (some_measure frame), fetched, handled)

-- what a step answers is carried out
pub carried_out : (scale before between behind own own_between own_behind answers brings uses : ℕ)
    → between + own_between + scale * (answers + uses) ≤ before + own + scale * brings → behind + own_behind ≤ between + own_between + scale * answers
    → behind + own_behind + scale * uses ≤ before + own + scale * brings
carried_out scale before between behind own own_between own_behind answers brings uses stepped carried = omega (arith, stepped, carried)
