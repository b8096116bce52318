-- Each step of the coordinator makes its number smaller: a walk over the definition of a step. The bounds of specs/Falling are exact:
-- 186 is what an ask may begin, 94 a rollback.
use Rattle.std.proofs.Common.{◌≡◌, ◌∙◌, ap, sym, refl, subst, inl, inr, arith, ℕ, ◌+◌, ◌-◌, ◌^◌, ◌<◌, ◌≤◌, ◌⊎◌, min, Bool, true, false, ◌||◌, ◌==◌, nat_le, List, [], ◌∷◌, length, get_or, replicate, slice_set, slice_index_or, Option, Some, None, Result, Ok, Err, is_some, is_none}
use Rattle.std.specs.Prelude.{if◌then◌else◌}
use Rattle.std.specs.List.{list_any, position_from}
use Rattle.std.proofs.lemmas.Bool.{and_from, and_parts, cases_lt, cond_both, le-leb, or_parts}
use Rattle.std.proofs.lemmas.Iterator.Adapters.{position_from-zero}
use Rattle.std.proofs.lemmas.List.{set_past}
use Rattle.std.proofs.lemmas.List.Quantifiers.{position-Some}
use Rattle.std.proofs.lemmas.List.Sums.{sum_by-set}
use Rattle.hp_base.specs.declared.caught.Caught.{Caught}
use Rattle.hp_base.specs.declared.row.Run.{Run}
use Rattle.hp_segs.specs.LaterSteps.{after_stale, noted_failure}
use Rattle.hp_segs.specs.Plan.{plan_of}
use Rattle.hp_segs.specs.SegsView.{SegsView, outcome_of}
use Rattle.hp_segs.specs.Steps.{after_agree, after_close, after_drop, lowest_member_below}
use Rattle.hp_segs.specs.declared.ask.Ask.{Ask}
use Rattle.hp_segs.specs.declared.fault.NotAll.{NotAll}
use Rattle.hp_segs.specs.declared.outcome.Cause.{Cause}
use Rattle.hp_segs.specs.declared.outcome.Cause.TheVariants as cause
use Rattle.hp_segs.specs.declared.outcome.Outcome.{Outcome}
use Rattle.hp_segs.specs.declared.plan_refusal.PlanRefusal.{PlanRefusal}
use Rattle.hp_core.specs.Asks.{answer_by, asker, is_armed, is_closed, is_unarmed, number_of}
use Rattle.hp_core.specs.Core.{Core, Done, IsStepped, Stepped, due_of, going_on, idle, is_foreign, is_idle, is_open_for, unchanged}
use Rattle.hp_core.specs.Following.{after_catching, failure_of}
use Rattle.hp_core.specs.Mapped.{alone_by, alone_unless_failed, drop_alone, granted_alone, growth_alone, mapped, other_members, synced}
use Rattle.hp_core.specs.Rounds.{agreed, cancelled, drop_polled, ended, growth_polled, has_passed, polled, polled_by, rolled_back, unless_failed, waiting, what_in}
use Rattle.hp_core.specs.Starting.{cause_of, grown, judged, planned, refused, started, started_by, total_with}
use Rattle.hp_core.specs.Stepping.{came, caught_in, holding, lowest_held, polled_in, released, served, served_ask, stepped, taken}
use Rattle.hp_core.specs.declared.asked.Asked.{Asked}
use Rattle.hp_core.specs.declared.asked.Asked.TheVariants as asked
use Rattle.hp_core.specs.declared.event.CoreEvent.{CoreEvent}
use Rattle.hp_core.specs.declared.event.CoreEvent.TheVariants.{Grow, Shrink, SelfMapped, Poll}
use Rattle.hp_core.specs.declared.out.Out.{Out}
use Rattle.hp_core.specs.declared.out.Out.TheVariants.{Nothing}
use Rattle.hp_core.specs.declared.phase.Phase.{Phase}
use Rattle.hp_core.specs.declared.phase.Phase.TheVariants.{Idle, Mapping, Waiting}
use Rattle.hp_core.specs.declared.phase.Round.{Round}
use Rattle.hp_core.specs.declared.phase.RoundKind.{RoundKind}
use Rattle.hp_core.specs.declared.phase.RoundKind.TheVariants as kind
use Rattle.hp_serve.specs.Falling.{Falls, FallsBy, HasPassedAt, IsDueAt, UsesUp, held_sum, held_measure, late_measure, least_measure, mapping_measure, maps_measure, most_measure, out_measure}

true_is_false : true ≡ false → ⊥
true_is_false same = cc

-- HELD ASKS

-- one more held ask weighs 187 more at most
holding_weighs : (held : List (Option Asked)) (place : ℕ) (one : Asked) → held_sum (slice_set held place (Some one)) ≤ held_sum held + 187
holding_weighs held place one =
    elim (cases_lt place (length held)) [
      | inl inside ↦ omega (arith, sum_by-set held_measure held place (Some one) None inside)
      | inr past ↦ omega (arith, ap held_sum (set_past held place (Some one) past))
    ]

-- and one that is started 187 less
released_weighs : (held : List (Option Asked)) (place : ℕ) (one : Asked) → place < length held → slice_index_or held place None ≡ Some one
    → held_sum (slice_set held place None) + 187 ≡ held_sum held
released_weighs held place one inside is =
    let weighs : held_measure (get_or held place None) ≡ 187 = ap held_measure is in
    omega (arith, weighs, sum_by-set held_measure held place None None inside)

-- WHAT AN ASK MAY BEGIN

-- what a coordinator goes on with, and what it answers, weigh so much at most
abbrev Weighs : ℕ → Done → Type 0
Weighs bound done = most_measure done.next.phase + out_measure done.next.out ≤ bound

answer_measure : (from number what : ℕ) (outcome : Option Outcome) → out_measure (answer_by from number what outcome) ≤ 2
answer_measure from number what None = omega arith
answer_measure from number what (Some outcome) = omega arith

-- an answer is no order to catch up
answer_maps : (from number what : ℕ) (outcome : Option Outcome) → maps_measure (answer_by from number what outcome) ≡ 0
answer_maps from number what None = refl
answer_maps from number what (Some outcome) = refl

refused_measure : (ask : Ask) (why : Cause) (segs : SegsView) → Weighs 186 (refused ask why segs)
refused_measure ask why segs =
    omega (arith, answer_measure ask.from ask.number 2 (outcome_of (after_close ask why segs).asks ask.from ask.number))

judged_measure : (ask : Ask) (run : Run) (segs : SegsView) (denied : Option (List ℕ × ℕ)) → Weighs 186 (judged ask run segs denied)
judged_measure ask run segs None = omega arith
judged_measure ask run segs (Some denied) = refused_measure ask (cause.Denied denied.0 denied.1 (total_with ask run segs)) segs

planned_measure : (denial : ℕ → ℕ → Option (List ℕ × ℕ)) (ask : Ask) (segs : SegsView) (plan : Result Run PlanRefusal)
    → Weighs 186 (planned denial ask segs plan)
planned_measure denial ask segs (Ok run) = judged_measure ask run segs (denial ask.socket (total_with ask run segs))
planned_measure denial ask segs (Err refusal) = refused_measure ask (cause_of refusal) segs

fresh_measure : (denial : ℕ → ℕ → Option (List ℕ × ℕ)) (segs : SegsView) (one : Asked) → Weighs 186 (started_by denial segs one)
fresh_measure denial segs (asked.Grow ask) =
    cond_both (is_armed ask segs) (grown denial ask (after_drop segs)) (idle segs Nothing) (Weighs 186)
    (λ armed. planned_measure denial ask (after_drop segs) (plan_of ask (after_drop segs)))
    (λ not_armed. omega arith)
fresh_measure denial segs (asked.Shrink from number) = omega arith

started_measure : (denial : ℕ → ℕ → Option (List ℕ × ℕ)) (one : Asked) (segs : SegsView) → Weighs 186 (started denial one segs)
started_measure denial one segs =
    cond_both (is_closed one segs) (idle (after_stale (asker one) (number_of one) segs) Nothing) (started_by denial segs one) (Weighs 186)
    (λ closed. omega arith)
    (λ fresh. fresh_measure denial segs one)

-- AN ASK THAT COMES, AND A HELD ONE

-- an ask that begins so brings 187
begun_by : (core : Core) (done : Done) → Weighs 186 done → FallsBy 187 0 core (going_on core done).core (going_on core done).out
begun_by core done begun = inr (omega (arith, begun))

begins_by : (core : Core) (done : Done) → Weighs 186 done
    → most_measure (going_on core done).core.phase + held_sum (going_on core done).core.held + out_measure (going_on core done).out
    ≤ 186 + held_sum core.held
begins_by core done begun = omega (arith, begun)

module _ (denial : ℕ → ℕ → Option (List ℕ × ℕ)) (one : Asked) (core : Core) (segs : SegsView) where
  abbrev busy : Stepped
  busy = if is_unarmed one segs then unchanged core segs else unchanged (holding one core) segs

  abbrev Comes : Stepped → Type 0
  Comes after = FallsBy 187 0 core after.core after.out

  abbrev Begins : Stepped → Type 0
  Begins after = most_measure after.core.phase + held_sum after.core.held + out_measure after.out ≤ 186 + held_sum core.held

  -- an ask that comes brings 187
  came_falls : Comes (came denial one core segs)
  came_falls =
      cond_both (is_foreign core.phase segs.growth) (unchanged core segs) (taken denial one core segs) Comes
      (λ other. inl (refl, refl, omega arith))
      (λ own.
      cond_both (is_idle core.phase) (going_on core (started denial one segs)) busy Comes
      (λ idle_now. begun_by core (started denial one segs) (started_measure denial one segs))
      (λ busy_now.
      cond_both (is_unarmed one segs) (unchanged core segs) (unchanged (holding one core) segs) Comes
      (λ unarmed. inl (refl, refl, omega arith))
      (λ kept. inl (refl, refl, omega (arith, holding_weighs core.held (asker one) one)))))

  -- while nothing is under way it begins 186 at most
  begun_falls : is_idle core.phase ≡ true → Begins (came denial one core segs)
  begun_falls idle_now =
      cond_both (is_foreign core.phase segs.growth) (unchanged core segs) (taken denial one core segs) Begins
      (λ other. omega (arith, idle_weighs core.phase idle_now))
      (λ own.
      cond_both (is_idle core.phase) (going_on core (started denial one segs)) busy Begins
      (λ _. begins_by core (started denial one segs) (started_measure denial one segs))
      (λ busy_now. absurd (true_is_false (sym idle_now ∙ busy_now))))
    where
      idle_weighs : (phase : Phase) → is_idle phase ≡ true → most_measure phase ≡ 0
      idle_weighs Idle is = refl
      idle_weighs (Mapping round) is = cc
      idle_weighs (Waiting round since) is = cc

some_at : (found : Option Asked) → is_some found ≡ true → found ≡ None → ⊥
some_at None some none = cc
some_at (Some one) some none = cc

-- where an ask is held, one is the lowest
one_held : (all : List (Option Asked)) (place : ℕ) → position_from is_some place all ≡ None → list_any is_some all ≡ true → ⊥
one_held [] place none some = cc
one_held (None ∷ all) place none some = one_held all (place + 1) none some
one_held (Some one ∷ all) place none some = cc

module _ (denial : ℕ → ℕ → Option (List ℕ × ℕ)) (core : Core) (segs : SegsView) (idle_now : is_idle core.phase ≡ true) where
  -- a held ask that is started uses up 1 of its 187
  held_falls : (place : ℕ) (found : Option Asked) → lowest_held core.held ≡ Some place → slice_index_or core.held place None ≡ found
      → UsesUp 0 1 core (served_ask denial (released core place) segs found).core (served_ask denial (released core place) segs found).out
  held_falls place None lowest is =
      absurd (some_at (slice_index_or core.held place None) (position-Some is_some core.held place None lowest).1 is)
  held_falls place (Some one) lowest is =
      omega (
        arith,
        begun_falls denial one (released core place) segs idle_now,
        released_weighs core.held place one (position-Some is_some core.held place None lowest).0 is,
      )

  -- a poll while nothing is under way
  idle_falls : (found : Option ℕ) → lowest_held core.held ≡ found
      → FallsBy 0 1 core (served denial core segs found).core (served denial core segs found).out
  idle_falls None is = inl (refl, refl, omega arith)
  idle_falls (Some place) is = inr (held_falls place (slice_index_or core.held place None) is refl)

  idle_uses : (found : Option ℕ) → lowest_held core.held ≡ found → list_any is_some core.held ≡ true
      → UsesUp 0 1 core (served denial core segs found).core (served denial core segs found).out
  idle_uses None is some = absurd (one_held core.held 0 (sym (position_from-zero is_some core.held) ∙ is) some)
  idle_uses (Some place) is some = held_falls place (slice_index_or core.held place None) is refl

-- A POLL IN A ROUND

-- a round of that kind goes on as it is; or it falls, and uses up 1, whether its deadline has passed or not
abbrev Uses : RoundKind → Done → Type 0
Uses which done = most_measure done.next.phase + out_measure done.next.out + 1 ≤ late_measure which

abbrev GoesOnOr : Bool → Phase → RoundKind → Done → Type 0
GoesOnOr passed phase which done =
    ((passed ≡ false) × (done.next.phase ≡ phase) × (done.next.out ≡ Nothing)) ⊎ Uses which done

module _ (round : Round) (deadline since now : ℕ) (acks : List ℕ) (segs : SegsView) where
  abbrev passed : Bool
  passed = has_passed (record { deadline = deadline; since = since; present = now })

  abbrev Polls : RoundKind → Done → Type 0
  Polls which done = GoesOnOr passed (Waiting round since) which done

  ended_uses : (which : RoundKind) (after : SegsView) → Uses which (ended round after)
  ended_uses kind.Growth after = omega (arith, answer_measure round.from round.number (what_in round.kind) (outcome_of after.asks round.from round.number))
  ended_uses kind.Rollback after = omega (arith, answer_measure round.from round.number (what_in round.kind) (outcome_of after.asks round.from round.number))
  ended_uses kind.Drop after = omega (arith, answer_measure round.from round.number (what_in round.kind) (outcome_of after.asks round.from round.number))

  agreed_polls : (member : Option NotAll)
      → Polls kind.Growth (agreed round (record { deadline = deadline; since = since; present = now }) acks segs member)
  agreed_polls None = inr (ended_uses kind.Growth (after_agree acks segs))
  agreed_polls (Some member) =
      cond_both passed (cancelled round (cause.Late member.participant since now) segs) (waiting round since Nothing segs) (Polls kind.Growth)
      (λ late. inr (omega arith))
      (λ early. inl (early, refl, refl))

  unless_polls : (failure : Option Cause)
      → Polls kind.Growth (unless_failed round (record { deadline = deadline; since = since; present = now }) acks segs failure)
  unless_polls (Some why) = inr (omega arith)
  unless_polls None = agreed_polls (lowest_member_below segs.roster acks round.generation)

  growth_polls : Polls kind.Growth (growth_polled round (record { deadline = deadline; since = since; present = now }) acks segs)
  growth_polls =
      cond_both (is_open_for round segs.growth)
      (unless_failed round (record { deadline = deadline; since = since; present = now }) acks segs (noted_failure segs))
      (rolled_back round segs) (Polls kind.Growth)
      (λ open_now. unless_polls (noted_failure segs))
      (λ gone. inr (omega arith))

  drop_polls : (which : RoundKind) → Polls which (drop_polled round (record { deadline = deadline; since = since; present = now }) acks segs)
  drop_polls which =
      let lowest = lowest_member_below segs.roster acks round.generation in
      cond_both (is_none lowest || passed) (ended round segs) (waiting round since Nothing segs) (Polls which)
      (λ over. inr (ended_uses which segs))
      (λ on. inl ((or_parts (is_none lowest) passed on).1, refl, refl))

  round_polls : (which : RoundKind)
      → Polls which (polled_by round (record { deadline = deadline; since = since; present = now }) acks segs which)
  round_polls kind.Growth = growth_polls
  round_polls kind.Rollback = drop_polls kind.Rollback
  round_polls kind.Drop = drop_polls kind.Drop

uses_by : (core : Core) (round : Round) (since : ℕ) (done : Done) → core.phase ≡ Waiting round since → Uses round.kind done
    → UsesUp 0 1 core (going_on core done).core (going_on core done).out
uses_by core round since done is falls =
    let weighs : least_measure core.phase ≡ late_measure round.kind = ap least_measure is in omega (arith, weighs, falls)

-- PARTICIPANT 0 HAS CAUGHT UP

-- a round of that kind goes on with SYNCs or ends; where it is followed by another catching up it uses up 1
abbrev Maps : RoundKind → Done → Type 0
Maps which done = most_measure done.next.phase + out_measure done.next.out + maps_measure done.next.out ≤ mapping_measure which

module _ (round : Round) (caught : Caught) (now : ℕ) where
  synced_maps : (which : RoundKind) (members : ℕ) (segs : SegsView) → round.kind ≡ which → Maps which (synced round now members segs)
  synced_maps kind.Growth members segs is = let weighs : late_measure round.kind ≡ 95 = ap late_measure is in omega (arith, weighs)
  synced_maps kind.Rollback members segs is = let weighs : late_measure round.kind ≡ 3 = ap late_measure is in omega (arith, weighs)
  synced_maps kind.Drop members segs is = let weighs : late_measure round.kind ≡ 3 = ap late_measure is in omega (arith, weighs)

  ended_maps : (which : RoundKind) (segs : SegsView) → Maps which (ended round segs)
  ended_maps which segs =
      let outcome = outcome_of segs.asks round.from round.number in
      omega (
        arith,
        answer_measure round.from round.number (what_in round.kind) outcome,
        answer_maps round.from round.number (what_in round.kind) outcome,
        some_measure which,
      )
    where
      some_measure : (which : RoundKind) → 94 ≤ mapping_measure which
      some_measure kind.Growth = omega arith
      some_measure kind.Rollback = omega arith
      some_measure kind.Drop = omega arith

  granted_maps : (segs : SegsView) (failed : Bool) → round.kind ≡ kind.Growth → Maps kind.Growth (granted_alone round now segs failed)
  granted_maps segs true is = synced_maps kind.Growth 0 segs is
  granted_maps segs false is = ended_maps kind.Growth (after_agree (replicate 16 round.generation) segs)

  unless_maps : (segs : SegsView) (failure : Option Cause) → round.kind ≡ kind.Growth
      → Maps kind.Growth (alone_unless_failed round caught now segs failure)
  unless_maps segs (Some why) is = omega arith
  unless_maps segs None is = granted_maps segs (is_some (failure_of caught)) is

  growth_maps : (segs : SegsView) → round.kind ≡ kind.Growth → Maps kind.Growth (growth_alone round caught now segs)
  growth_maps segs is =
      cond_both (is_open_for round segs.growth) (alone_unless_failed round caught now segs (noted_failure segs)) (rolled_back round segs)
      (Maps kind.Growth)
      (λ open_now. unless_maps segs (noted_failure segs) is)
      (λ gone. omega arith)

  drop_maps : (which : RoundKind) (segs : SegsView) (outcome : Option Outcome) → round.kind ≡ which
      → Maps which (drop_alone round now segs outcome)
  drop_maps which segs None is = synced_maps which 0 segs is
  drop_maps which segs (Some outcome) is = ended_maps which segs

  alone_maps : (which : RoundKind) (segs : SegsView) → round.kind ≡ which → Maps which (alone_by round caught now segs which)
  alone_maps kind.Growth segs is = growth_maps segs is
  alone_maps kind.Rollback segs is = drop_maps kind.Rollback segs (outcome_of segs.asks round.from round.number) is
  alone_maps kind.Drop segs is = drop_maps kind.Drop segs (outcome_of segs.asks round.from round.number) is

  mapped_maps : (segs : SegsView) → Maps round.kind (mapped round caught now segs)
  mapped_maps segs =
      let after = after_catching 0 caught segs in
      cond_both (other_members after == 0) (alone_by round caught now after round.kind) (synced round now (other_members after) after)
      (Maps round.kind)
      (λ alone. alone_maps round.kind after refl)
      (λ others. synced_maps round.kind (other_members after) after refl)

maps_by : (core : Core) (round : Round) (done : Done) → core.phase ≡ Mapping round → Maps round.kind done
    → UsesUp 0 (maps_measure done.next.out) core (going_on core done).core (going_on core done).out
maps_by core round done is maps =
    let weighs : least_measure core.phase ≡ mapping_measure round.kind = ap least_measure is in omega (arith, weighs, maps)

-- EVERY STEP

not_none : (due : ℕ) → Some due ≡ None → ⊥
not_none due same = cc

same_some : (first second : ℕ) → Some first ≡ Some second → first ≡ second
same_some first second same = cc

has_passed_at : (deadline since now due : ℕ) → due ≡ min (since + deadline) (2 ^ 64 - 1) → due < 2 ^ 64 - 1 → due ≤ now
    → has_passed (record { deadline = deadline; since = since; present = now }) ≡ true
has_passed_at deadline since now due is early late =
    and_from (nat_le since now) (nat_le deadline (now - since)) (le-leb since now (omega arith)) (le-leb deadline (now - since) (omega arith))

module _ (denial : ℕ → ℕ → Option (List ℕ × ℕ)) (core : Core) (segs : SegsView) where
  caught_falls : (caught : Caught) (now : ℕ) (phase : Phase) → core.phase ≡ phase
      → Falls (SelfMapped caught now) core (caught_in core segs caught now phase).core (caught_in core segs caught now phase).out
  caught_falls caught now Idle is = inl (refl, refl, omega arith)
  caught_falls caught now (Mapping round) is = inr (maps_by core round (mapped round caught now segs) is (mapped_maps round caught now segs))
  caught_falls caught now (Waiting round since) is = inl (refl, refl, omega arith)

  -- a poll in a round
  waiting_falls : (round : Round) (since now : ℕ) (acks : List ℕ) (done : Done) → core.phase ≡ Waiting round since
      → GoesOnOr (has_passed (record { deadline = core.deadline; since = since; present = now })) (Waiting round since) round.kind done
      → FallsBy 0 1 core (going_on core done).core (going_on core done).out
  waiting_falls round since now acks done is (inl on) =
      let nothing : out_measure done.next.out ≡ 0 = ap out_measure on.2 in
      let stays : maps_measure done.next.out ≡ 0 = ap maps_measure on.2 in
      inl (on.1 ∙ sym is, refl, omega (arith, nothing, stays))
  waiting_falls round since now acks done is (inr falls) = inr (uses_by core round since done is falls)

  waiting_uses : (round : Round) (since now : ℕ) (acks : List ℕ) (done : Done) → core.phase ≡ Waiting round since
      → has_passed (record { deadline = core.deadline; since = since; present = now }) ≡ true
      → GoesOnOr (has_passed (record { deadline = core.deadline; since = since; present = now })) (Waiting round since) round.kind done
      → UsesUp 0 1 core (going_on core done).core (going_on core done).out
  waiting_uses round since now acks done is late (inl on) = absurd (true_is_false (sym late ∙ on.0))
  waiting_uses round since now acks done is late (inr falls) = uses_by core round since done is falls

  polled_falls : (now : ℕ) (acks : List ℕ) (phase : Phase) → core.phase ≡ phase
      → FallsBy 0 1 core (polled_in denial core segs now acks phase).core (polled_in denial core segs now acks phase).out
  polled_falls now acks Idle is = idle_falls denial core segs (ap is_idle is) (lowest_held core.held) refl
  polled_falls now acks (Mapping round) is = inl (refl, refl, omega arith)
  polled_falls now acks (Waiting round since) is =
      waiting_falls round since now acks (polled round (record { deadline = core.deadline; since = since; present = now }) acks segs) is
      (round_polls round core.deadline since now acks segs round.kind)

  due_polled : (now : ℕ) (acks : List ℕ) (phase : Phase) → core.phase ≡ phase → HasPassedAt core now
      → UsesUp 0 1 core (polled_in denial core segs now acks phase).core (polled_in denial core segs now acks phase).out
  due_polled now acks Idle is late = absurd (not_none late.due (sym late.its_due ∙ ap (due_of core.deadline) is))
  due_polled now acks (Mapping round) is late = absurd (not_none late.due (sym late.its_due ∙ ap (due_of core.deadline) is))
  due_polled now acks (Waiting round since) is late =
      waiting_uses round since now acks (polled round (record { deadline = core.deadline; since = since; present = now }) acks segs) is
      (has_passed_at core.deadline since now late.due
      (same_some late.due (min (since + core.deadline) (2 ^ 64 - 1)) (sym late.its_due ∙ ap (due_of core.deadline) is)) late.early late.passed)
      (round_polls round core.deadline since now acks segs round.kind)

  held_polled : (now : ℕ) (acks : List ℕ) (phase : Phase) → core.phase ≡ phase → is_idle phase ≡ true → list_any is_some core.held ≡ true
      → UsesUp 0 1 core (polled_in denial core segs now acks phase).core (polled_in denial core segs now acks phase).out
  held_polled now acks Idle is idle_now some = idle_uses denial core segs (ap is_idle is) (lowest_held core.held) refl some
  held_polled now acks (Mapping round) is idle_now some = absurd (true_is_false (sym idle_now))
  held_polled now acks (Waiting round since) is idle_now some = absurd (true_is_false (sym idle_now))

-- every step makes the number smaller
pub step_falls : (denial : ℕ → ℕ → Option (List ℕ × ℕ)) (event : CoreEvent) (core : Core) (segs : SegsView)
    → Falls event core (stepped denial event core segs).core (stepped denial event core segs).out
step_falls denial (Grow ask) core segs = came_falls denial (asked.Grow ask) core segs
step_falls denial (Shrink from number) core segs = came_falls denial (asked.Shrink from number) core segs
step_falls denial (SelfMapped caught now) core segs = caught_falls denial core segs caught now core.phase refl
step_falls denial (Poll now acks) core segs = polled_falls denial core segs now acks core.phase refl

-- a poll that is due uses up 1
pub due_step_uses : (denial : ℕ → ℕ → Option (List ℕ × ℕ)) (event : CoreEvent) (core : Core) (segs : SegsView) → IsDueAt core event
    → UsesUp 0 1 core (stepped denial event core segs).core (stepped denial event core segs).out
due_step_uses denial (Grow ask) core segs due = absurd due
due_step_uses denial (Shrink from number) core segs due = absurd due
due_step_uses denial (SelfMapped caught now) core segs due = absurd due
due_step_uses denial (Poll now acks) core segs (inl holds) =
    let both = and_parts (is_idle core.phase) (list_any is_some core.held) holds in
    held_polled denial core segs now acks core.phase refl both.0 both.1
due_step_uses denial (Poll now acks) core segs (inr late) = due_polled denial core segs now acks core.phase refl late

-- so does a step that leaves these
pub falls_as_stepped : (denial : ℕ → ℕ → Option (List ℕ × ℕ)) (event : CoreEvent) (core new : Core) (segs after : SegsView) (out : Out)
    → IsStepped new after out (stepped denial event core segs) → Falls event core new out
falls_as_stepped denial event core new segs after out is =
    subst (λ left. Falls event core left out) (sym is.core_is)
    (subst (λ answer. Falls event core (stepped denial event core segs).core answer) (sym is.out_is) (step_falls denial event core segs))

pub due_as_stepped : (denial : ℕ → ℕ → Option (List ℕ × ℕ)) (event : CoreEvent) (core new : Core) (segs after : SegsView) (out : Out)
    → IsDueAt core event → IsStepped new after out (stepped denial event core segs) → UsesUp 0 1 core new out
due_as_stepped denial event core new segs after out due is =
    subst (λ left. UsesUp 0 1 core left out) (sym is.core_is)
    (subst (λ answer. UsesUp 0 1 core (stepped denial event core segs).core answer) (sym is.out_is) (due_step_uses denial event core segs due))
