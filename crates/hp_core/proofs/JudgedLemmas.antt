-- Of what the judge is asked at a step, and what follows where it denies nothing.
use Rattle.std.proofs.Common.{◌≡◌, ◌∙◌, ℕ, Bool, true, false, List, Option, Some, None, Result, Ok, Err, IfSome, refl, ap, subst, sym}
use Rattle.std.specs.Prelude.{slice_index_or, if◌then◌else◌}
use Rattle.std.proofs.lemmas.Bool.{cond_both}
use Rattle.hp_base.specs.declared.row.Run.{Run}
use Rattle.hp_segs.specs.Plan.{plan_of}
use Rattle.hp_segs.specs.SegsView.{SegsView}
use Rattle.hp_segs.specs.Steps.{after_drop}
use Rattle.hp_segs.specs.declared.ask.Ask.{Ask}
use Rattle.hp_segs.specs.declared.plan_refusal.PlanRefusal.{PlanRefusal}
use Rattle.hp_core.specs.Asks.{is_armed, is_closed}
use Rattle.hp_core.specs.Core.{Core, IsStepped, Stepped, is_foreign, is_idle}
use Rattle.hp_core.specs.Judging.{IsSteppedBy, MayAnswer, ask_judged, fresh_judged, grow_judged, held_ask_judged, held_judged}
use Rattle.hp_core.specs.Judging.{judged_at, plan_judged, poll_judged, start_judged}
use Rattle.hp_core.specs.Laws.{IsJudgedAt, IsStarted, JudgedOfPlans, PlansAreJudged}
use Rattle.hp_core.specs.Outs.{IsAskOf, IsTaken, IsTaken.comes, IsTaken.is_served}
use Rattle.hp_core.specs.Starting.{total_with}
use Rattle.hp_core.specs.Stepping.{lowest_held, released}
use Rattle.hp_core.specs.declared.asked.Asked.{Asked}
use Rattle.hp_core.specs.declared.asked.Asked.TheVariants as want
use Rattle.hp_core.specs.declared.event.CoreEvent.{CoreEvent}
use Rattle.hp_core.specs.declared.event.CoreEvent.TheVariants.{Grow, Shrink, SelfMapped, Poll}
use Rattle.hp_core.specs.declared.out.Out.{Out}
use Rattle.hp_core.specs.declared.phase.Phase.{Phase}
use Rattle.hp_core.specs.declared.phase.Phase.TheVariants.{Idle, Mapping, Waiting}

nothing_denied : (judged : Option (ℕ × ℕ)) (answer : Option (List ℕ × ℕ)) → MayAnswer (λ socket total answer. answer ≡ None) judged answer
    → answer ≡ None
nothing_denied None answer given = given
nothing_denied (Some judged) answer given = given

-- where the judge denies nothing, a step is the one without a denial
pub undenied : (judged : Option (ℕ × ℕ)) (core : Core) (segs : SegsView) (out : Out) (after : (ℕ → ℕ → Option (List ℕ × ℕ)) → Stepped)
    → IsSteppedBy (λ socket total answer. answer ≡ None) judged core segs out after → IsStepped core segs out (after (λ socket total. None))
undenied judged core segs out after by =
    subst (λ answer. IsStepped core segs out (after (λ socket total. answer))) (nothing_denied judged by.0 by.1) by.2

module _ (event : CoreEvent) (core : Core) (segs : SegsView) where
  abbrev Judges : Option (ℕ × ℕ) → Type 0
  Judges judged = IfSome judged (IsJudgedAt event core segs)

  module _ (idle : is_idle core.phase ≡ true) (alone : is_foreign core.phase segs.growth ≡ false) where
    plan_judges : (ask : Ask) → IsTaken event core (want.Grow ask) → IsStarted ask segs → (plan : Result Run PlanRefusal)
        → plan_of ask (after_drop segs) ≡ plan → Judges (plan_judged ask (after_drop segs) plan)
    plan_judges ask taken started (Ok run) is =
        record { ask = ask; run = run; taken = taken; idle = idle; alone = alone; started = started; plan = is; judged_is = refl }
    plan_judges ask taken started (Err refusal) is = tt

    fresh_judges : (one : Asked) → IsTaken event core one → is_closed one segs ≡ false → Judges (fresh_judged segs one)
    fresh_judges (want.Grow ask) taken fresh =
        cond_both (is_armed ask segs) (grow_judged ask (after_drop segs)) None Judges
        (λ armed. plan_judges ask taken (record { fresh = fresh; armed = armed }) (plan_of ask (after_drop segs)) refl)
        (λ unarmed. tt)
    fresh_judges (want.Shrink from number) taken fresh = tt

    start_judges : (one : Asked) → IsTaken event core one → Judges (start_judged one segs)
    start_judges one taken =
        cond_both (is_closed one segs) None (fresh_judged segs one) Judges (λ closed. tt) (λ fresh. fresh_judges one taken fresh)

  ask_judges : (one : Asked) → IsTaken event core one → Judges (ask_judged one core segs)
  ask_judges one taken =
      cond_both (is_foreign core.phase segs.growth) None (if is_idle core.phase then start_judged one segs else None) Judges (λ foreign. tt)
      (λ alone. cond_both (is_idle core.phase) (start_judged one segs) None Judges
      (λ idle. start_judges idle alone one taken) (λ under_way. tt))

module _ (core : Core) (segs : SegsView) (now : ℕ) (acks : List ℕ) where
  held_judges : (place : Option ℕ) → lowest_held core.held ≡ place → is_idle core.phase ≡ true
      → Judges (Poll now acks) core segs (held_judged core segs place)
  held_judges None lowest idle = tt
  held_judges (Some place) lowest idle = held_ask_judges (slice_index_or core.held place None) refl
    where
      held_ask_judges : (found : Option Asked) → slice_index_or core.held place None ≡ found
          → Judges (Poll now acks) core segs (held_ask_judged (released core place) segs found)
      held_ask_judges None is = tt
      held_ask_judges (Some one) is = ask_judges (Poll now acks) core segs one
          (is_served (record { now = now; acks = acks; place = place; polled = refl; idle = idle; lowest = lowest; its_ask = is }))

  poll_judges : (phase : Phase) → core.phase ≡ phase → Judges (Poll now acks) core segs (poll_judged core segs phase)
  poll_judges Idle is = held_judges (lowest_held core.held) refl (ap is_idle is)
  poll_judges (Mapping round) is = tt
  poll_judges (Waiting round since) is = tt

-- the judge is asked of a run that is planned after the drops for the ask that is started
pub judged_of_plans : JudgedOfPlans
judged_of_plans (Grow ask) core segs = ask_judges (Grow ask) core segs (want.Grow ask) (comes refl)
judged_of_plans (Shrink from number) core segs = ask_judges (Shrink from number) core segs (want.Shrink from number) (comes refl)
judged_of_plans (SelfMapped caught now) core segs = tt
judged_of_plans (Poll now acks) core segs = poll_judges core segs now acks core.phase refl

module _ (core : Core) (segs : SegsView) (ask : Ask) (run : Run) (idle : is_idle core.phase ≡ true)
    (alone : is_foreign core.phase segs.growth ≡ false) (started : IsStarted ask segs) (plan : plan_of ask (after_drop segs) ≡ Ok run) where
  abbrev its_total : Option (ℕ × ℕ)
  its_total = Some (ask.socket, total_with ask run (after_drop segs))

  ask_is_judged : ask_judged (want.Grow ask) core segs ≡ its_total
  ask_is_judged =
      let one = want.Grow ask in
      ap (λ (foreign : Bool). if foreign then None else (if is_idle core.phase then start_judged one segs else None)) alone
      ∙ (ap (λ (idle : Bool). if idle then start_judged one segs else None) idle
      ∙ (ap (λ (closed : Bool). if closed then None else fresh_judged segs one) started.fresh
      ∙ (ap (λ (armed : Bool). if armed then grow_judged ask (after_drop segs) else None) started.armed
      ∙ ap (plan_judged ask (after_drop segs)) plan)))

  poll_is_held : (phase : Phase) → is_idle phase ≡ true → poll_judged core segs phase ≡ held_judged core segs (lowest_held core.held)
  poll_is_held Idle is = refl
  poll_is_held (Mapping round) is = cc
  poll_is_held (Waiting round since) is = cc

  served_is_judged : (place : ℕ) → lowest_held core.held ≡ Some place → slice_index_or core.held place None ≡ Some (want.Grow ask)
      → poll_judged core segs core.phase ≡ its_total
  served_is_judged place lowest its_ask =
      poll_is_held core.phase idle
      ∙ (ap (held_judged core segs) lowest ∙ (ap (held_ask_judged (released core place) segs) its_ask ∙ ask_is_judged))

  comes_judged : (event : CoreEvent) → IsAskOf event (want.Grow ask) → judged_at event core segs ≡ its_total
  comes_judged (Grow other) is = sym (ap (λ one. ask_judged one core segs) is) ∙ ask_is_judged
  comes_judged (Shrink from number) is = cc
  comes_judged (SelfMapped caught now) is = absurd is
  comes_judged (Poll now acks) is = absurd is

  taken_judged : (event : CoreEvent) → IsTaken event core (want.Grow ask) → judged_at event core segs ≡ its_total
  taken_judged event (comes is) = comes_judged event is
  taken_judged event (is_served at) =
      ap (λ event. judged_at event core segs) at.polled ∙ served_is_judged at.place at.lowest at.its_ask

-- and it is asked of each such run of an ask that the step starts
pub plans_are_judged : PlansAreJudged
plans_are_judged event core segs ask run taken idle alone started plan = taken_judged core segs ask run idle alone started plan event taken
