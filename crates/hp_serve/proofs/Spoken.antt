-- What the coordinator has to say is among the values of frames: a walk over the definition of a step.
use Rattle.std.proofs.Common.{ℕ, ◌≤◌, ◌==◌, Bool, true, false, ◌||◌, List, replicate, Option, Some, None, Result, Ok, Err, arith}
use Rattle.std.specs.Prelude.{is_some, is_none, slice_index_or, if◌then◌else◌}
use Rattle.std.proofs.lemmas.Bool.{cond_both}
use Rattle.hp_base.specs.declared.caught.Caught.{Caught}
use Rattle.hp_base.specs.declared.row.Run.{Run}
use Rattle.hp_segs.specs.LaterSteps.{after_stale, noted_failure}
use Rattle.hp_segs.specs.Plan.{plan_of}
use Rattle.hp_segs.specs.SegsView.{SegsView, outcome_of}
use Rattle.hp_segs.specs.Steps.{after_agree, after_close, after_drop, lowest_member_below}
use Rattle.hp_segs.specs.declared.ask.Ask.{Ask}
use Rattle.hp_segs.specs.declared.fault.NotAll.{NotAll}
use Rattle.hp_segs.specs.declared.outcome.Cause.{Cause}
use Rattle.hp_segs.specs.declared.outcome.Cause.TheVariants as cause
use Rattle.hp_segs.specs.declared.outcome.Outcome.{Outcome}
use Rattle.hp_segs.specs.declared.plan_refusal.PlanRefusal.{PlanRefusal}
use Rattle.hp_core.specs.Asks.{answer_by, asker, is_armed, is_closed, is_good, is_unarmed, number_of}
use Rattle.hp_core.specs.Core.{Core, Done, going_on, idle, is_foreign, is_idle, is_open_for, unchanged}
use Rattle.hp_core.specs.Following.{after_catching, failure_of}
use Rattle.hp_core.specs.Mapped.{alone_by, alone_unless_failed, drop_alone, granted_alone, mapped, other_members, sync_number, synced}
use Rattle.hp_core.specs.Rounds.{agreed, cancelled, drop_polled, ended, growth_polled, has_passed, polled_by, rolled_back, unless_failed, waiting, what_in}
use Rattle.hp_core.specs.Starting.{cause_of, grown, judged, planned, refused, started, started_by, total_with}
use Rattle.hp_core.specs.Stepping.{came, caught_in, holding, lowest_held, polled_in, released, served, served_ask, stepped, taken}
use Rattle.hp_core.specs.declared.asked.Asked.{Asked}
use Rattle.hp_core.specs.declared.asked.Asked.TheVariants as asked
use Rattle.hp_core.specs.declared.event.CoreEvent.{CoreEvent}
use Rattle.hp_core.specs.declared.event.CoreEvent.TheVariants.{Grow, Shrink, SelfMapped, Poll}
use Rattle.hp_core.specs.declared.out.Out.TheVariants.{Nothing}
use Rattle.hp_core.specs.declared.phase.Phase.{Phase}
use Rattle.hp_core.specs.declared.phase.Phase.TheVariants.{Idle, Mapping, Waiting}
use Rattle.hp_core.specs.declared.phase.Round.{Round}
use Rattle.hp_core.specs.declared.phase.RoundKind.{RoundKind}
use Rattle.hp_core.specs.declared.phase.RoundKind.TheVariants as kind
use Rattle.hp_frame.specs.Spelling.{HasFieldValues}
use Rattle.hp_serve.specs.Posting.{IsSpoken, result_body}

-- that a coordinator going on so says what can be said
abbrev Speaks : Core → Done → Type 0
Speaks now done = IsSpoken (going_on now done).out

said : (number what : ℕ) (good : Bool) → 1 ≤ what → what ≤ 3 → HasFieldValues (result_body number what good)
said number what true some few = (omega arith, some, few, omega arith)
said number what false some few = (omega arith, some, few, omega arith)

answered_by : (from number what : ℕ) (outcome : Option Outcome) → 1 ≤ what → what ≤ 3 → IsSpoken (answer_by from number what outcome)
answered_by from number what None some few = tt
answered_by from number what (Some outcome) some few = said number what (is_good outcome) some few

what_some : (which : RoundKind) → 1 ≤ what_in which
what_some kind.Growth = omega arith
what_some kind.Rollback = omega arith
what_some kind.Drop = omega arith

what_few : (which : RoundKind) → what_in which ≤ 3
what_few kind.Growth = omega arith
what_few kind.Rollback = omega arith
what_few kind.Drop = omega arith

sync_some : (which : RoundKind) → 1 ≤ sync_number which
sync_some kind.Growth = omega arith
sync_some kind.Rollback = omega arith
sync_some kind.Drop = omega arith

sync_few : (which : RoundKind) → sync_number which ≤ 2
sync_few kind.Growth = omega arith
sync_few kind.Rollback = omega arith
sync_few kind.Drop = omega arith

module _ (denial : ℕ → ℕ → Option (List ℕ × ℕ)) (core : Core) where
  ends : (round : Round) (after : SegsView) → Speaks core (ended round after)
  ends round after =
      answered_by round.from round.number (what_in round.kind) (outcome_of after.asks round.from round.number) (what_some round.kind) (what_few round.kind)

  refuses : (ask : Ask) (cause : Cause) (behind : SegsView) → Speaks core (refused ask cause behind)
  refuses ask cause behind =
      answered_by ask.from ask.number 2 (outcome_of (after_close ask cause behind).asks ask.from ask.number) (omega arith) (omega arith)

  judges : (ask : Ask) (run : Run) (behind : SegsView) (denied : Option (List ℕ × ℕ)) → Speaks core (judged ask run behind denied)
  judges ask run behind None = tt
  judges ask run behind (Some denied) = refuses ask (cause.Denied denied.0 denied.1 (total_with ask run behind)) behind

  plans : (ask : Ask) (behind : SegsView) (plan : Result Run PlanRefusal) → Speaks core (planned denial ask behind plan)
  plans ask behind (Ok run) = judges ask run behind (denial ask.socket (total_with ask run behind))
  plans ask behind (Err refusal) = refuses ask (cause_of refusal) behind

  starts_by : (segs : SegsView) (one : Asked) → Speaks core (started_by denial segs one)
  starts_by segs (asked.Grow ask) =
      cond_both (is_armed ask segs) (grown denial ask (after_drop segs)) (idle segs Nothing) (Speaks core)
      (λ armed. plans ask (after_drop segs) (plan_of ask (after_drop segs)))
      (λ not_armed. tt)
  starts_by segs (asked.Shrink from number) = tt

  starts : (one : Asked) (segs : SegsView) → Speaks core (started denial one segs)
  starts one segs =
      cond_both (is_closed one segs) (idle (after_stale (asker one) (number_of one) segs) Nothing) (started_by denial segs one) (Speaks core)
      (λ done. tt)
      (λ fresh. starts_by segs one)

  busy : (one : Asked) (segs : SegsView)
      → IsSpoken (if is_unarmed one segs then unchanged core segs else unchanged (holding one core) segs).out
  busy one segs =
      cond_both (is_unarmed one segs) (unchanged core segs) (unchanged (holding one core) segs) (λ stepped. IsSpoken stepped.out) (λ other. tt) (λ kept. tt)

  takes : (one : Asked) (segs : SegsView) → IsSpoken (taken denial one core segs).out
  takes one segs =
      cond_both (is_idle core.phase) (going_on core (started denial one segs))
      (if is_unarmed one segs then unchanged core segs else unchanged (holding one core) segs) (λ stepped. IsSpoken stepped.out)
      (λ idle_now. starts one segs)
      (λ busy_now. busy one segs)

  comes : (one : Asked) (segs : SegsView) → IsSpoken (came denial one core segs).out
  comes one segs =
      cond_both (is_foreign core.phase segs.growth) (unchanged core segs) (taken denial one core segs) (λ stepped. IsSpoken stepped.out)
      (λ other. tt)
      (λ own. takes one segs)

  module _ (round : Round) (since at : ℕ) (acks : List ℕ) (segs : SegsView) where
    agrees : (member : Option NotAll)
        → Speaks core (agreed round (record { deadline = core.deadline; since = since; present = at }) acks segs member)
    agrees None = ends round (after_agree acks segs)
    agrees (Some member) =
        cond_both (has_passed (record { deadline = core.deadline; since = since; present = at }))
        (cancelled round (cause.Late member.participant since at) segs) (waiting round since Nothing segs) (Speaks core)
        (λ passed. tt)
        (λ early. tt)

    unless : (failure : Option Cause)
        → Speaks core (unless_failed round (record { deadline = core.deadline; since = since; present = at }) acks segs failure)
    unless (Some cause) = tt
    unless None = agrees (lowest_member_below segs.roster acks round.generation)

    polls_growth : Speaks core (growth_polled round (record { deadline = core.deadline; since = since; present = at }) acks segs)
    polls_growth =
        cond_both (is_open_for round segs.growth)
        (unless_failed round (record { deadline = core.deadline; since = since; present = at }) acks segs (noted_failure segs))
        (rolled_back round segs) (Speaks core)
        (λ is_open. unless (noted_failure segs))
        (λ gone. tt)

    polls_drop : Speaks core (drop_polled round (record { deadline = core.deadline; since = since; present = at }) acks segs)
    polls_drop =
        cond_both (is_none (lowest_member_below segs.roster acks round.generation)
        || has_passed (record { deadline = core.deadline; since = since; present = at }))
        (ended round segs) (waiting round since Nothing segs) (Speaks core)
        (λ over. ends round segs)
        (λ on. tt)

    polls_by : (which : RoundKind) → Speaks core (polled_by round (record { deadline = core.deadline; since = since; present = at }) acks segs which)
    polls_by kind.Growth = polls_growth
    polls_by kind.Rollback = polls_drop
    polls_by kind.Drop = polls_drop

  module _ (round : Round) (caught : Caught) (at : ℕ) where
    syncs : (members : ℕ) (after : SegsView) → Speaks core (synced round at members after)
    syncs members after = (sync_some round.kind, sync_few round.kind)

    grants_alone : (after : SegsView) (failed : Bool) → Speaks core (granted_alone round at after failed)
    grants_alone after true = syncs 0 after
    grants_alone after false = ends round (after_agree (replicate 16 round.generation) after)

    alone_unless : (after : SegsView) (failure : Option Cause) → Speaks core (alone_unless_failed round caught at after failure)
    alone_unless after (Some cause) = tt
    alone_unless after None = grants_alone after (is_some (failure_of caught))

    drops_alone : (after : SegsView) (outcome : Option Outcome) → Speaks core (drop_alone round at after outcome)
    drops_alone after None = syncs 0 after
    drops_alone after (Some outcome) = ends round after

    alone : (after : SegsView) (which : RoundKind) → Speaks core (alone_by round caught at after which)
    alone after kind.Growth =
        cond_both (is_open_for round after.growth) (alone_unless_failed round caught at after (noted_failure after)) (rolled_back round after) (Speaks core)
        (λ is_open. alone_unless after (noted_failure after))
        (λ gone. tt)
    alone after kind.Rollback = drops_alone after (outcome_of after.asks round.from round.number)
    alone after kind.Drop = drops_alone after (outcome_of after.asks round.from round.number)

    maps : (segs : SegsView) → Speaks core (mapped round caught at segs)
    maps segs =
        let after = after_catching 0 caught segs in
        cond_both (other_members after == 0) (alone_by round caught at after round.kind) (synced round at (other_members after) after) (Speaks core)
        (λ none. alone after round.kind)
        (λ others. syncs (other_members after) after)

module _ (denial : ℕ → ℕ → Option (List ℕ × ℕ)) (core : Core) (segs : SegsView) where
  catches : (caught : Caught) (at : ℕ) (phase : Phase) → IsSpoken (caught_in core segs caught at phase).out
  catches caught at Idle = tt
  catches caught at (Mapping round) = maps denial core round caught at segs
  catches caught at (Waiting round since) = tt

  serves_ask : (now : Core) (found : Option Asked) → IsSpoken (served_ask denial now segs found).out
  serves_ask now None = tt
  serves_ask now (Some one) = comes denial now one segs

  serves : (place : Option ℕ) → IsSpoken (served denial core segs place).out
  serves None = tt
  serves (Some place) = serves_ask (released core place) (slice_index_or core.held place None)

  polls : (at : ℕ) (acks : List ℕ) (phase : Phase) → IsSpoken (polled_in denial core segs at acks phase).out
  polls at acks Idle = serves (lowest_held core.held)
  polls at acks (Mapping round) = tt
  polls at acks (Waiting round since) = polls_by denial core round since at acks segs round.kind

-- what a step answers is among the values of frames
pub step_spoken : (denial : ℕ → ℕ → Option (List ℕ × ℕ)) (event : CoreEvent) (core : Core) (segs : SegsView)
    → IsSpoken (stepped denial event core segs).out
step_spoken denial (Grow ask) core segs = comes denial core (asked.Grow ask) segs
step_spoken denial (Shrink from number) core segs = comes denial core (asked.Shrink from number) segs
step_spoken denial (SelfMapped caught at) core segs = catches denial core segs caught at core.phase
step_spoken denial (Poll at acks) core segs = polls denial core segs at acks core.phase
