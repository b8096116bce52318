-- A walk over the definition of a step: what holds of a value, and after each thing that a step may do with it, holds after the step.
use Rattle.std.proofs.Common.{◌≡◌, ℕ, ◌<◌, ◌==◌, Bool, true, false, ◌||◌, List, replicate, Option, Some, None, Result, Ok, Err, refl, ap, arith, if◌then◌else◌}
use Rattle.std.specs.Prelude.{is_none, is_some, nat_le, slice_index_or}
use Rattle.std.proofs.lemmas.Bool.{cond_both, eqb-true}
use Rattle.std.proofs.lemmas.Bool.Decides.{nat_tests}
use Rattle.hp_base.specs.declared.caught.Caught.{Caught}
use Rattle.hp_base.specs.declared.row.Run.{Run}
use Rattle.hp_segs.specs.LaterSteps.{after_stale, armed_ask, noted_failure}
use Rattle.hp_segs.specs.Plan.{plan_of}
use Rattle.hp_segs.specs.SegsView.{SegsView, closed_number, outcome_of}
use Rattle.hp_segs.specs.Steps.{after_agree, after_cancel, after_close, after_drop, after_freed, after_open, lowest_member_below}
use Rattle.hp_segs.specs.declared.ask.Ask.{Ask}
use Rattle.hp_segs.specs.declared.fault.NotAll.{NotAll}
use Rattle.hp_segs.specs.declared.growth.Growth.{Growth}
use Rattle.hp_segs.specs.declared.outcome.Cause.{Cause}
use Rattle.hp_segs.specs.declared.outcome.Cause.TheVariants as cause
use Rattle.hp_segs.specs.declared.outcome.Outcome.{Outcome}
use Rattle.hp_segs.specs.declared.plan_refusal.PlanRefusal.{PlanRefusal}
use Rattle.hp_core.specs.Asks.{asker, is_armed, is_armed_by, is_closed, is_unarmed, number_of}
use Rattle.hp_core.specs.Core.{Core, Done, Stepped, going_on, idle, is_foreign, is_idle, is_open_for, unchanged}
use Rattle.hp_core.specs.Following.{after_catching, failure_of}
use Rattle.hp_core.specs.Mapped.{alone_by, alone_unless_failed, drop_alone, granted_alone, other_members, synced}
use Rattle.hp_core.specs.Rounds.{agreed, cancelled, ended, has_passed, polled_by, rolled_back, unless_failed, waiting}
use Rattle.hp_core.specs.Starting.{cause_of, grown, judged, planned, started, started_by, total_with}
use Rattle.hp_core.specs.Stepping.{came, caught_in, holding, lowest_held, polled_in, released, served, served_ask, taken}
use Rattle.hp_core.specs.declared.asked.Asked.{Asked}
use Rattle.hp_core.specs.declared.asked.Asked.TheVariants as want
use Rattle.hp_core.specs.declared.out.Out.TheVariants.{Nothing}
use Rattle.hp_core.specs.declared.phase.Phase.{Phase}
use Rattle.hp_core.specs.declared.phase.Phase.TheVariants.{Idle, Mapping, Waiting}
use Rattle.hp_core.specs.declared.phase.Round.{Round}
use Rattle.hp_core.specs.declared.phase.RoundKind.{RoundKind}
use Rattle.hp_core.specs.declared.phase.RoundKind.TheVariants as kind
use Rattle.hp_core.specs.declared.times.Times.{Times}
use Rattle.hp_core.proofs.SameAsk.{same_ask}

-- it holds after each thing that may be done with an ask that is started
pub record HoldsStarted (P : SegsView → Type 0) (segs : SegsView) : Type 0 where
  pub stale : (from number : ℕ) → P (after_stale from number segs)
  pub refused : (ask : Ask) (cause : Cause) → armed_ask segs ask.from ≡ Some ask → P (after_close ask cause (after_drop segs))
  pub opened : (ask : Ask) (run : Run) → armed_ask segs ask.from ≡ Some ask → closed_number segs.asks ask.from < ask.number
      → P (after_open ask run (after_drop segs))
  pub freed : (from number : ℕ) → P (after_freed from number (after_drop segs))

-- a growth is cancelled for the failure that is noted, or for a late member
pub data IsRoundCause (segs : SegsView) (why : Cause) : Type 0 where
  was_noted : noted_failure segs ≡ Some why → IsRoundCause segs why
  was_late : (participant from to : ℕ) → why ≡ cause.Late participant from to → IsRoundCause segs why

-- it holds where a growth is cancelled, and where it is granted by those numbers
pub record HoldsInRound (P : SegsView → Type 0) (acks : List ℕ) (segs : SegsView) : Type 0 where
  pub cancelled : (cause : Cause) → IsRoundCause segs cause → P (after_cancel cause segs)
  pub agreed : P (after_agree acks segs)

-- and where participant 0 is alone, and no mapping of its failed
pub record HoldsAlone (P : SegsView → Type 0) (caught : Caught) (segs : SegsView) : Type 0 where
  pub cancelled : (cause : Cause) → IsRoundCause segs cause → P (after_cancel cause segs)
  pub agreed : (generation : ℕ) → other_members segs ≡ 0 → failure_of caught ≡ None → P (after_agree (replicate 16 generation) segs)

armed_by : (ask : Ask) (armed : Option Ask) → is_armed_by ask armed ≡ true → armed ≡ Some ask
armed_by ask None is = cc
armed_by ask (Some armed) is = ap Some (same_ask armed ask is)

above : (number done : ℕ) → nat_le number done ≡ false → done < number
above number done is = grind (arith, nat_tests)

-- while nothing is under way, a growth that is open is another's
idle_alone : (phase : Phase) (growth : Option Growth) → is_foreign phase growth ≡ false → is_idle phase ≡ true → growth ≡ None
idle_alone Idle None own is = refl
idle_alone Idle (Some growth) own is = cc
idle_alone (Mapping round) growth own is = cc
idle_alone (Waiting round since) growth own is = cc

unfailed : {X : Type 0} (failure : Option X) → is_some failure ≡ false → failure ≡ None
unfailed None is = refl
unfailed (Some one) is = cc

module _ (P : SegsView → Type 0) where
  abbrev Holds : Done → Type 0
  Holds done = P done.segs

  abbrev HoldsAfter : Stepped → Type 0
  HoldsAfter after = P after.segs

  module _ (denial : ℕ → ℕ → Option (List ℕ × ℕ)) (segs : SegsView) (same : P segs) where
    module _ (starts : HoldsStarted P segs) where
      module _ (ask : Ask) (armed : armed_ask segs ask.from ≡ Some ask) (fresh : closed_number segs.asks ask.from < ask.number) where
        judged_holds : (run : Run) (denied : Option (List ℕ × ℕ)) → Holds (judged ask run (after_drop segs) denied)
        judged_holds run None = starts.opened ask run armed fresh
        judged_holds run (Some denied) = starts.refused ask (cause.Denied denied.0 denied.1 (total_with ask run (after_drop segs))) armed

        planned_holds : (plan : Result Run PlanRefusal) → Holds (planned denial ask (after_drop segs) plan)
        planned_holds (Ok run) = judged_holds run (denial ask.socket (total_with ask run (after_drop segs)))
        planned_holds (Err refusal) = starts.refused ask (cause_of refusal) armed

      fresh_holds : (one : Asked) → is_closed one segs ≡ false → Holds (started_by denial segs one)
      fresh_holds (want.Grow ask) fresh =
          cond_both (is_armed ask segs) (grown denial ask (after_drop segs)) (idle segs Nothing) Holds
          (λ armed.
          planned_holds ask (armed_by ask (armed_ask segs ask.from) armed) (above ask.number (closed_number segs.asks ask.from) fresh)
          (plan_of ask (after_drop segs)))
          (λ other. same)
      fresh_holds (want.Shrink from number) fresh = starts.freed from number

      started_holds : (one : Asked) → Holds (started denial one segs)
      started_holds one =
          cond_both (is_closed one segs) (idle (after_stale (asker one) (number_of one) segs) Nothing) (started_by denial segs one) Holds
          (λ done. starts.stale (asker one) (number_of one))
          (λ fresh. fresh_holds one fresh)

    module _ (starts : segs.growth ≡ None → HoldsStarted P segs) where
      -- an ask that comes
      pub came_holds : (one : Asked) (core : Core) → HoldsAfter (came denial one core segs)
      came_holds one core =
          cond_both (is_foreign core.phase segs.growth) (unchanged core segs) (taken denial one core segs) HoldsAfter
          (λ other. same)
          (λ own.
          cond_both (is_idle core.phase) (going_on core (started denial one segs))
          (if is_unarmed one segs then unchanged core segs else unchanged (holding one core) segs) HoldsAfter
          (λ idle_now. started_holds (starts (idle_alone core.phase segs.growth own idle_now)) one)
          (λ busy.
          cond_both (is_unarmed one segs) (unchanged core segs) (unchanged (holding one core) segs) HoldsAfter (λ other. same) (λ held. same)))

      served_holds : (core : Core) (found : Option Asked) → HoldsAfter (served_ask denial core segs found)
      served_holds core None = same
      served_holds core (Some one) = came_holds one core

      serve_holds : (core : Core) (found : Option ℕ) → HoldsAfter (served denial core segs found)
      serve_holds core None = same
      serve_holds core (Some place) = served_holds (released core place) (slice_index_or core.held place None)

  module _ (round : Round) (segs : SegsView) (same : P segs) where
    module _ (times : Times) (acks : List ℕ) (rounds : HoldsInRound P acks segs) where
      agreed_holds : (below : Option NotAll) → Holds (agreed round times acks segs below)
      agreed_holds None = rounds.agreed
      agreed_holds (Some member) =
          cond_both (has_passed times) (cancelled round (cause.Late member.participant times.since times.present) segs)
          (waiting round times.since Nothing segs) Holds
          (λ passed.
          rounds.cancelled (cause.Late member.participant times.since times.present)
          (was_late member.participant times.since times.present refl))
          (λ early. same)

      unless_holds : (failure : Option Cause) → noted_failure segs ≡ failure → Holds (unless_failed round times acks segs failure)
      unless_holds (Some cause) is = rounds.cancelled cause (was_noted is)
      unless_holds None is = agreed_holds (lowest_member_below segs.roster acks round.generation)

      over_holds : Holds
          (if is_none (lowest_member_below segs.roster acks round.generation) || has_passed times then ended round segs
          else waiting round times.since Nothing segs)
      over_holds =
          cond_both (is_none (lowest_member_below segs.roster acks round.generation) || has_passed times) (ended round segs)
          (waiting round times.since Nothing segs) Holds (λ over. same) (λ on. same)

      pub polled_holds : (which : RoundKind) → Holds (polled_by round times acks segs which)
      polled_holds kind.Growth =
          cond_both (is_open_for round segs.growth) (unless_failed round times acks segs (noted_failure segs)) (rolled_back round segs) Holds
          (λ opened. unless_holds (noted_failure segs) refl)
          (λ gone. same)
      polled_holds kind.Rollback = over_holds
      polled_holds kind.Drop = over_holds

    module _ (caught : Caught) (now : ℕ) (alone : HoldsAlone P caught segs) where
      granted_holds : (failed : Bool) → other_members segs ≡ 0 → is_some (failure_of caught) ≡ failed → Holds (granted_alone round now segs failed)
      granted_holds true none is = same
      granted_holds false none is = alone.agreed round.generation none (unfailed (failure_of caught) is)

      alone_unless_holds : (failure : Option Cause) → noted_failure segs ≡ failure → other_members segs ≡ 0
          → Holds (alone_unless_failed round caught now segs failure)
      alone_unless_holds (Some cause) is none = alone.cancelled cause (was_noted is)
      alone_unless_holds None is none = granted_holds (is_some (failure_of caught)) none refl

      drop_alone_holds : (outcome : Option Outcome) → Holds (drop_alone round now segs outcome)
      drop_alone_holds None = same
      drop_alone_holds (Some outcome) = same

      alone_holds : (which : RoundKind) → other_members segs ≡ 0 → Holds (alone_by round caught now segs which)
      alone_holds kind.Growth none =
          cond_both (is_open_for round segs.growth) (alone_unless_failed round caught now segs (noted_failure segs)) (rolled_back round segs)
          Holds
          (λ opened. alone_unless_holds (noted_failure segs) refl none)
          (λ gone. same)
      alone_holds kind.Rollback none = drop_alone_holds (outcome_of segs.asks round.from round.number)
      alone_holds kind.Drop none = drop_alone_holds (outcome_of segs.asks round.from round.number)

      told_holds : Holds
          (if other_members segs == 0 then alone_by round caught now segs round.kind else synced round now (other_members segs) segs)
      told_holds =
          cond_both (other_members segs == 0) (alone_by round caught now segs round.kind) (synced round now (other_members segs) segs) Holds
          (λ none. alone_holds round.kind (eqb-true (other_members segs) 0 none))
          (λ others. same)

  -- participant 0 has caught up, or failed to
  pub caught_holds : (core : Core) (segs : SegsView) (caught : Caught) (now : ℕ) (phase : Phase) → P segs → P (after_catching 0 caught segs)
      → HoldsAlone P caught (after_catching 0 caught segs) → HoldsAfter (caught_in core segs caught now phase)
  caught_holds core segs caught now Idle same noted alone = same
  caught_holds core segs caught now (Mapping round) same noted alone = told_holds round (after_catching 0 caught segs) noted caught now alone
  caught_holds core segs caught now (Waiting round since) same noted alone = same

  -- a poll
  pub poll_holds : (denial : ℕ → ℕ → Option (List ℕ × ℕ)) (core : Core) (segs : SegsView) (now : ℕ) (acks : List ℕ) (phase : Phase) → P segs
      → (segs.growth ≡ None → HoldsStarted P segs) → HoldsInRound P acks segs → HoldsAfter (polled_in denial core segs now acks phase)
  poll_holds denial core segs now acks Idle same starts rounds = serve_holds denial segs same starts core (lowest_held core.held)
  poll_holds denial core segs now acks (Mapping round) same starts rounds = same
  poll_holds denial core segs now acks (Waiting round since) same starts rounds =
      polled_holds round segs same (record { deadline = core.deadline; since = since; present = now }) acks rounds round.kind
