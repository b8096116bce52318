-- A walk over a step of the coordinator that carries which ask the step took, one that came or one that was held: hp_core's walk forgets
-- it. What is held after a step was held before it, or came.
use Rattle.std.proofs.Common.{◌≡◌, ℕ, zero, suc, ◌<◌, true, false, ◌||◌, List, [], ◌∷◌, Option, Some, None, IfSome, Result, Ok, Err, refl, ap, arith, if◌then◌else◌}
use Rattle.std.specs.Prelude.{is_none, nat_le, slice_index_or}
use Rattle.std.specs.List.{All}
use Rattle.std.proofs.lemmas.Bool.{cond_both}
use Rattle.std.proofs.lemmas.Bool.Decides.{nat_tests}
use Rattle.std.proofs.lemmas.List.Elements.{All-head, All-set, All-tail}
use Rattle.hp_base.specs.declared.row.Run.{Run}
use Rattle.hp_core.specs.Asks.{asker, is_armed, is_armed_by, is_closed, is_unarmed, number_of}
use Rattle.hp_core.specs.Core.{Core, Done, Stepped, going_on, idle, is_foreign, is_idle, is_open_for, unchanged}
use Rattle.hp_core.specs.Moves.{times_at}
use Rattle.hp_core.specs.Rounds.{agreed, cancelled, ended, has_passed, polled_by, rolled_back, unless_failed, waiting}
use Rattle.hp_core.specs.Starting.{cause_of, grown, judged, planned, started, started_by, total_with}
use Rattle.hp_core.specs.Stepping.{came, holding, lowest_held, polled_in, released, served, served_ask, taken}
use Rattle.hp_core.specs.declared.asked.Asked.{Asked}
use Rattle.hp_core.specs.declared.asked.Asked.TheVariants as want
use Rattle.hp_core.specs.declared.out.Out.TheVariants.{Nothing}
use Rattle.hp_core.specs.declared.phase.Phase.{Phase}
use Rattle.hp_core.specs.declared.phase.Phase.TheVariants.{Idle, Mapping, Waiting}
use Rattle.hp_core.specs.declared.phase.Round.{Round}
use Rattle.hp_core.specs.declared.phase.RoundKind.{RoundKind}
use Rattle.hp_core.specs.declared.phase.RoundKind.TheVariants as kind
use Rattle.hp_core.proofs.SameAsk.{same_ask}
use Rattle.hp_core.proofs.StepWalk.{HoldsInRound, IsRoundCause.was_late, IsRoundCause.was_noted}
use Rattle.hp_segs.specs.LaterSteps.{after_stale, armed_ask, noted_failure}
use Rattle.hp_segs.specs.Plan.{plan_of}
use Rattle.hp_segs.specs.SegsView.{SegsView, closed_number}
use Rattle.hp_segs.specs.Steps.{after_drop, lowest_member_below}
use Rattle.hp_segs.specs.declared.ask.Ask.{Ask}
use Rattle.hp_segs.specs.declared.fault.NotAll.{NotAll}
use Rattle.hp_segs.specs.declared.outcome.Cause.{Cause}
use Rattle.hp_segs.specs.declared.outcome.Cause.TheVariants as cause
use Rattle.hp_segs.specs.declared.plan_refusal.PlanRefusal.{PlanRefusal}
use Rattle.thm_run.proofs.SeatFacts.CoreLogs.{StartsWith}

armed_by : (ask : Ask) (armed : Option Ask) → is_armed_by ask armed ≡ true → armed ≡ Some ask
armed_by ask None is = cc
armed_by ask (Some armed) is = ap Some (same_ask armed ask is)

above : (number done : ℕ) → nat_le number done ≡ false → done < number
above number done is = grind (arith, nat_tests)

-- each ask that is held is such a one
abbrev pub AreHeld : (Asked → Type 0) → List (Option Asked) → Type 0
AreHeld Q held = All (λ one. IfSome one Q) held

held_at : (Q : Asked → Type 0) (held : List (Option Asked)) (place : ℕ) → AreHeld Q held → IfSome (slice_index_or held place None) Q
held_at Q [] place are = tt
held_at Q (one ∷ held) zero are = All-head (λ one. IfSome one Q) one held are
held_at Q (one ∷ held) (suc place) are = held_at Q held place (All-tail (λ one. IfSome one Q) one held are)

module _ (P : SegsView → Type 0) where
  -- it holds of what is done, and of what a step leaves
  abbrev Holds : Done → Type 0
  Holds done = P done.segs

  abbrev HoldsAfter : Stepped → Type 0
  HoldsAfter after = P after.segs

  module _ (denial : ℕ → ℕ → Option (List ℕ × ℕ)) (segs : SegsView) (same : P segs) where
    module _ (one : Asked) (starts : StartsWith P one segs) where
      module _ (ask : Ask) (armed : armed_ask segs ask.from ≡ Some ask) (fresh : closed_number segs.asks ask.from < ask.number) where
        judged_holds : (run : Run) (denied : Option (List ℕ × ℕ)) → Holds (judged ask run (after_drop segs) denied)
        judged_holds run None = starts.opened ask run
        judged_holds run (Some denied) =
            starts.refused ask (cause.Denied denied.0 denied.1 (total_with ask run (after_drop segs))) armed fresh

        planned_holds : (plan : Result Run PlanRefusal) → Holds (planned denial ask (after_drop segs) plan)
        planned_holds (Ok run) = judged_holds run (denial ask.socket (total_with ask run (after_drop segs)))
        planned_holds (Err refusal) = starts.refused ask (cause_of refusal) armed fresh

      fresh_holds : (which : Asked) → one ≡ which → is_closed which segs ≡ false → Holds (started_by denial segs which)
      fresh_holds (want.Grow ask) is fresh =
          cond_both (is_armed ask segs) (grown denial ask (after_drop segs)) (idle segs Nothing) Holds
          (λ armed.
          planned_holds ask (armed_by ask (armed_ask segs ask.from) armed) (above ask.number (closed_number segs.asks ask.from) fresh)
          (plan_of ask (after_drop segs)))
          (λ other. same)
      fresh_holds (want.Shrink from number) is fresh = starts.freed from number is (above number (closed_number segs.asks from) fresh)

      started_holds : Holds (started denial one segs)
      started_holds =
          cond_both (is_closed one segs) (idle (after_stale (asker one) (number_of one) segs) Nothing) (started_by denial segs one) Holds
          (λ done. starts.stale)
          (λ fresh. fresh_holds one refl fresh)

    -- an ask that comes
    pub takes_holds : (one : Asked) (core : Core) → StartsWith P one segs → HoldsAfter (came denial one core segs)
    takes_holds one core starts =
        cond_both (is_foreign core.phase segs.growth) (unchanged core segs) (taken denial one core segs) HoldsAfter
        (λ other. same)
        (λ own.
        cond_both (is_idle core.phase) (going_on core (started denial one segs))
        (if is_unarmed one segs then unchanged core segs else unchanged (holding one core) segs) HoldsAfter
        (λ idle_now. started_holds one starts)
        (λ busy.
        cond_both (is_unarmed one segs) (unchanged core segs) (unchanged (holding one core) segs) HoldsAfter (λ other. same)
        (λ held. same)))

    module _ (Q : Asked → Type 0) (starts : (one : Asked) → Q one → StartsWith P one segs) where
      serve_holds : (core : Core) (found : Option Asked) → IfSome found Q → HoldsAfter (served_ask denial core segs found)
      serve_holds core None its = same
      serve_holds core (Some one) its = takes_holds one core (starts one its)

      served_holds : (core : Core) (found : Option ℕ) → AreHeld Q core.held → HoldsAfter (served denial core segs found)
      served_holds core None held = same
      served_holds core (Some place) held =
          serve_holds (released core place) (slice_index_or core.held place None) (held_at Q core.held place held)

  module _ (round : Round) (segs : SegsView) (same : P segs) (deadline since now : ℕ) (acks : List ℕ)
      (rounds : HoldsInRound P acks segs) where
    agreed_holds : (below : Option NotAll) → Holds (agreed round (times_at deadline (Waiting round since) now) acks segs below)
    agreed_holds None = rounds.agreed
    agreed_holds (Some member) =
        cond_both (has_passed (times_at deadline (Waiting round since) now))
        (cancelled round (cause.Late member.participant since now) segs)
        (waiting round since Nothing segs) Holds
        (λ passed.
        rounds.cancelled (cause.Late member.participant since now) (was_late member.participant since now refl))
        (λ early. same)

    unless_holds : (failure : Option Cause) → noted_failure segs ≡ failure
        → Holds (unless_failed round (times_at deadline (Waiting round since) now) acks segs failure)
    unless_holds (Some cause) is = rounds.cancelled cause (was_noted is)
    unless_holds None is = agreed_holds (lowest_member_below segs.roster acks round.generation)

    over_holds : Holds
        (if is_none (lowest_member_below segs.roster acks round.generation)
        || has_passed (times_at deadline (Waiting round since) now) then ended round segs
        else waiting round since Nothing segs)
    over_holds =
        cond_both
        (is_none (lowest_member_below segs.roster acks round.generation) || has_passed (times_at deadline (Waiting round since) now))
        (ended round segs)
        (waiting round since Nothing segs) Holds (λ over. same) (λ on. same)

    round_holds : (which : RoundKind) → Holds (polled_by round (times_at deadline (Waiting round since) now) acks segs which)
    round_holds kind.Growth =
        cond_both (is_open_for round segs.growth)
        (unless_failed round (times_at deadline (Waiting round since) now) acks segs (noted_failure segs))
        (rolled_back round segs) Holds
        (λ opened. unless_holds (noted_failure segs) refl)
        (λ gone. same)
    round_holds kind.Rollback = over_holds
    round_holds kind.Drop = over_holds

  -- a poll
  pub polls_hold : (denial : ℕ → ℕ → Option (List ℕ × ℕ)) (Q : Asked → Type 0) (core : Core) (segs : SegsView) (now : ℕ) (acks : List ℕ)
      (phase : Phase) → AreHeld Q core.held → P segs → ((one : Asked) → Q one → StartsWith P one segs) → HoldsInRound P acks segs
      → HoldsAfter (polled_in denial core segs now acks phase)
  polls_hold denial Q core segs now acks Idle held same starts rounds =
      served_holds denial segs same Q starts core (lowest_held core.held) held
  polls_hold denial Q core segs now acks (Mapping round) held same starts rounds = same
  polls_hold denial Q core segs now acks (Waiting round since) held same starts rounds =
      round_holds round segs same core.deadline since now acks rounds round.kind

-- what is held after a step is what was held before it, and the ask that came
module _ (Q : Asked → Type 0) (denial : ℕ → ℕ → Option (List ℕ × ℕ)) (segs : SegsView) where
  -- a step leaves such asks alone
  abbrev Keeps : Stepped → Type 0
  Keeps after = AreHeld Q after.core.held

  pub takes_keeps : (one : Asked) (core : Core) → Q one → AreHeld Q core.held → Keeps (came denial one core segs)
  takes_keeps one core its held =
      cond_both (is_foreign core.phase segs.growth) (unchanged core segs) (taken denial one core segs) Keeps
      (λ other. held)
      (λ own.
      cond_both (is_idle core.phase) (going_on core (started denial one segs))
      (if is_unarmed one segs then unchanged core segs else unchanged (holding one core) segs) Keeps
      (λ idle_now. held)
      (λ busy.
      cond_both (is_unarmed one segs) (unchanged core segs) (unchanged (holding one core) segs) Keeps (λ other. held)
      (λ kept. All-set (λ one. IfSome one Q) core.held (asker one) (Some one) its held)))

  serve_keeps : (core : Core) (found : Option Asked) → IfSome found Q → AreHeld Q core.held → Keeps (served_ask denial core segs found)
  serve_keeps core None its held = held
  serve_keeps core (Some one) its held = takes_keeps one core its held

  served_keeps : (core : Core) (found : Option ℕ) → AreHeld Q core.held → Keeps (served denial core segs found)
  served_keeps core None held = held
  served_keeps core (Some place) held =
      serve_keeps (released core place) (slice_index_or core.held place None) (held_at Q core.held place held)
      (All-set (λ one. IfSome one Q) core.held place None tt held)

  pub polls_keep : (core : Core) (now : ℕ) (acks : List ℕ) (phase : Phase) → AreHeld Q core.held
      → Keeps (polled_in denial core segs now acks phase)
  polls_keep core now acks Idle held = served_keeps core (lowest_held core.held) held
  polls_keep core now acks (Mapping round) held = held
  polls_keep core now acks (Waiting round since) held = held
