-- What a step answers, with what stands after it: a walk over the definition of a step.
use Rattle.std.proofs.Common.{◌≡◌, ℕ, ◌+◌, ◌<◌, ◌==◌, Bool, true, false, not, ◌&&◌, ◌||◌, List, [], ◌∷◌, length, replicate, Option, Some, None, Result, Ok, Err, refl, ap, ◌∙◌, sym, subst}
use Rattle.std.specs.Prelude.{is_some, is_none, slice_index_or, if◌then◌else◌}
use Rattle.std.proofs.lemmas.Bool.{and_left, and_right, cond_both, or_parts, eqb-true}
use Rattle.std.proofs.lemmas.Iterator.Adapters.{position_from-zero}
use Rattle.std.proofs.lemmas.List.Quantifiers.{position-Some}
use Rattle.std.specs.List.{list_any, position_from}
use Rattle.hp_base.specs.declared.caught.Caught.{Caught}
use Rattle.hp_base.specs.declared.row.Run.{Run}
use Rattle.hp_segs.specs.LaterSteps.{after_stale, noted_failure}
use Rattle.hp_segs.specs.Plan.{plan_of}
use Rattle.hp_segs.specs.SegsView.{SegsView, outcome_of}
use Rattle.hp_segs.specs.Steps.{after_agree, after_cancel, after_drop, lowest_member_below}
use Rattle.hp_segs.specs.declared.ask.Ask.{Ask}
use Rattle.hp_segs.specs.declared.fault.NotAll.{NotAll}
use Rattle.hp_segs.specs.declared.outcome.AskLog.{AskLog}
use Rattle.hp_segs.specs.declared.outcome.Cause.{Cause}
use Rattle.hp_segs.specs.declared.outcome.Cause.TheVariants as cause
use Rattle.hp_segs.specs.declared.outcome.Outcome.{Outcome}
use Rattle.hp_segs.specs.declared.outcome.Outcome.TheVariants.{Refused}
use Rattle.hp_segs.specs.declared.plan_refusal.PlanRefusal.{PlanRefusal}
use Rattle.hp_core.specs.Asks.{answer_by, asker, is_armed, is_closed, is_unarmed, number_of}
use Rattle.hp_core.specs.Core.{Core, Done, IsStepped, due_of, going_on, idle, is_foreign, is_idle, is_open_for, unchanged}
use Rattle.hp_core.specs.Following.{after_catching, failure_of}
use Rattle.hp_core.specs.Mapped.{alone_by, alone_unless_failed, drop_alone, granted_alone, mapped, other_members, synced}
use Rattle.hp_core.specs.Outs.{IsAskOf, IsOut, IsPolledIn, IsServed, IsTaken, IsUnderWay, answers, appends, closed, comes, finds, foreign, gone, held, is_served, maps_self, no_round, nothing, starts, syncs, unarmed, untold, waits}
use Rattle.hp_core.specs.Rounds.{agreed, cancelled, drop_polled, ended, growth_polled, has_passed, polled_by, rolled_back, unless_failed, waiting, what_in}
use Rattle.hp_core.specs.Starting.{cause_of, grown, judged, planned, refused, started, started_by, total_with}
use Rattle.hp_core.specs.Stepping.{came, caught_in, holding, lowest_held, polled_in, released, served, served_ask, stepped, taken}
use Rattle.hp_core.specs.declared.asked.Asked.{Asked}
use Rattle.hp_core.specs.declared.asked.Asked.TheVariants as asked
use Rattle.hp_core.specs.declared.event.CoreEvent.{CoreEvent}
use Rattle.hp_core.specs.declared.event.CoreEvent.TheVariants.{Grow, Shrink, SelfMapped, Poll}
use Rattle.hp_core.specs.declared.out.Out.{Out}
use Rattle.hp_core.specs.declared.out.Out.TheVariants.{Nothing}
use Rattle.hp_core.specs.declared.phase.Phase.{Phase}
use Rattle.hp_core.specs.declared.phase.Phase.TheVariants.{Idle, Mapping, Waiting}
use Rattle.hp_core.specs.declared.phase.Round.{Round}
use Rattle.hp_core.specs.declared.phase.RoundKind.{RoundKind}
use Rattle.hp_core.specs.declared.phase.RoundKind.TheVariants as kind
use Rattle.hp_core.specs.declared.times.Times.{Times}
use Rattle.hp_core.proofs.RoundLemmas.{cancel_appends, grant_has_outcome, has_outcome, is_its_outcome, kept_noted, none_below, none_open}

unarmed_by : (done armed : Bool) → (not done && not armed) ≡ true → armed ≡ false
unarmed_by true armed other = cc
unarmed_by false true other = cc
unarmed_by false false other = refl

module _ (event : CoreEvent) (core : Core) (segs : SegsView) where
  -- that a coordinator going on so answers rightly
  abbrev GoesOn : Core → Done → Type 0
  GoesOn now done = IsOut event core segs (going_on now done)

  -- the round's ask has an outcome at its end
  ends : (now : Core) (round : Round) (after : SegsView) (outcome : Outcome) → outcome_of after.asks round.from round.number ≡ Some outcome
      → GoesOn now (ended round after)
  ends now round after outcome found =
      answers round.from round.number (what_in round.kind) outcome (ap (answer_by round.from round.number (what_in round.kind)) found) found

  refuses_out : (now : Core) (ask : Ask) (cause : Cause) (behind : SegsView) → GoesOn now (refused ask cause behind)
  refuses_out now ask cause behind =
      let entry : AskLog = record { from = ask.from; number = ask.number; outcome = Refused cause; at = length behind.log; ask = Some ask } in
      let found = has_outcome behind.asks entry ask.from ask.number (is_its_outcome entry ask.from ask.number refl refl refl) in
      answers ask.from ask.number 2 found.0 (ap (answer_by ask.from ask.number 2) found.1) found.1

  judged_out : (now : Core) (ask : Ask) (run : Run) (behind : SegsView) (denied : Option (List ℕ × ℕ)) → IsTaken event core (asked.Grow ask)
      → is_closed (asked.Grow ask) segs ≡ false → GoesOn now (judged ask run behind denied)
  judged_out now ask run behind None is_taken fresh = maps_self refl (starts (asked.Grow ask) is_taken fresh)
  judged_out now ask run behind (Some denied) is_taken fresh =
      refuses_out now ask (cause.Denied denied.0 denied.1 (total_with ask run behind)) behind

  planned_out : (denial : ℕ → ℕ → Option (List ℕ × ℕ)) (now : Core) (ask : Ask) (behind : SegsView) (plan : Result Run PlanRefusal)
      → IsTaken event core (asked.Grow ask) → is_closed (asked.Grow ask) segs ≡ false → GoesOn now (planned denial ask behind plan)
  planned_out denial now ask behind (Ok run) is_taken fresh =
      judged_out now ask run behind (denial ask.socket (total_with ask run behind)) is_taken fresh
  planned_out denial now ask behind (Err refusal) is_taken fresh = refuses_out now ask (cause_of refusal) behind

  starts_out : (denial : ℕ → ℕ → Option (List ℕ × ℕ)) (now : Core) (one : Asked) → IsTaken event core one → is_closed one segs ≡ false
      → GoesOn now (started_by denial segs one)
  starts_out denial now (asked.Grow ask) is_taken fresh =
      cond_both (is_armed ask segs) (grown denial ask (after_drop segs)) (idle segs Nothing) (GoesOn now)
      (λ armed. planned_out denial now ask (after_drop segs) (plan_of ask (after_drop segs)) is_taken fresh)
      (λ not_armed. nothing refl (unarmed ask is_taken not_armed))
  starts_out denial now (asked.Shrink from number) is_taken fresh = maps_self refl (starts (asked.Shrink from number) is_taken fresh)

  -- an ask that is started
  started_out : (denial : ℕ → ℕ → Option (List ℕ × ℕ)) (now : Core) (one : Asked) → IsTaken event core one → GoesOn now (started denial one segs)
  started_out denial now one is_taken =
      cond_both (is_closed one segs) (idle (after_stale (asker one) (number_of one) segs) Nothing) (started_by denial segs one) (GoesOn now)
      (λ done. nothing refl (closed one is_taken done))
      (λ fresh. starts_out denial now one is_taken fresh)

  -- a growth that was withdrawn or is cancelled
  withdrawn_out : (now : Core) (round : Round) (after : SegsView) → IsUnderWay core.phase round → round.kind ≡ kind.Growth
      → is_open_for round segs.growth ≡ false → GoesOn now (rolled_back round after)
  withdrawn_out now round after under grows gone_now = maps_self refl (finds round under grows gone_now)

  cancels_out : (now : Core) (round : Round) (cause : Cause) (before : SegsView) → before.log ≡ segs.log
      → is_open_for round before.growth ≡ true → GoesOn now (cancelled round cause before)
  cancels_out now round cause before same is_open =
      maps_self refl (appends (subst (λ log. length log < length (after_cancel cause before).log) same (cancel_appends round cause before is_open)))

  agreed_out : (round : Round) (since at : ℕ) (acks : List ℕ) (member : Option NotAll) → IsPolledIn event core round since at acks
      → is_open_for round segs.growth ≡ true → noted_failure segs ≡ None → lowest_member_below segs.roster acks round.generation ≡ member
      → GoesOn core (agreed round (record { deadline = core.deadline; since = since; present = at }) acks segs member)
  agreed_out round since at acks None is_polled is_open unnoted lowest =
      let found = grant_has_outcome round acks segs is_open lowest in ends core round (after_agree acks segs) found.0 found.1
  agreed_out round since at acks (Some member) is_polled is_open unnoted lowest =
      let times : Times = record { deadline = core.deadline; since = since; present = at } in
      cond_both (has_passed times) (cancelled round (cause.Late member.participant times.since times.present) segs) (waiting round since Nothing segs) (GoesOn core)
      (λ passed. cancels_out core round (cause.Late member.participant times.since times.present) segs refl is_open)
      (λ early. nothing refl (waits round since at acks member is_polled lowest (λ _. unnoted) early))

  unless_out : (round : Round) (since at : ℕ) (acks : List ℕ) (failure : Option Cause) → IsPolledIn event core round since at acks
      → is_open_for round segs.growth ≡ true → noted_failure segs ≡ failure
      → GoesOn core (unless_failed round (record { deadline = core.deadline; since = since; present = at }) acks segs failure)
  unless_out round since at acks (Some cause) is_polled is_open is = cancels_out core round cause segs refl is_open
  unless_out round since at acks None is_polled is_open is =
      agreed_out round since at acks (lowest_member_below segs.roster acks round.generation) is_polled is_open is refl

  under_in : (round : Round) (since at : ℕ) (acks : List ℕ) → IsPolledIn event core round since at acks → IsUnderWay core.phase round
  under_in round since at acks is_polled = subst (λ phase. IsUnderWay phase round) (sym is_polled.phase) refl

  growth_out : (round : Round) (since at : ℕ) (acks : List ℕ) → IsPolledIn event core round since at acks → round.kind ≡ kind.Growth
      → GoesOn core (growth_polled round (record { deadline = core.deadline; since = since; present = at }) acks segs)
  growth_out round since at acks is_polled grows =
      let times : Times = record { deadline = core.deadline; since = since; present = at } in
      cond_both (is_open_for round segs.growth) (unless_failed round times acks segs (noted_failure segs)) (rolled_back round segs) (GoesOn core)
      (λ is_open. unless_out round since at acks (noted_failure segs) is_polled is_open refl)
      (λ gone_now. withdrawn_out core round segs (under_in round since at acks is_polled) grows gone_now)

  ended_out : (round : Round) (since at : ℕ) (acks : List ℕ) (outcome : Option Outcome) → IsPolledIn event core round since at acks
      → is_open_for round segs.growth ≡ false → outcome_of segs.asks round.from round.number ≡ outcome → GoesOn core (ended round segs)
  ended_out round since at acks (Some outcome) is_polled not_open is = ends core round segs outcome is
  ended_out round since at acks None is_polled not_open is =
      nothing (ap (answer_by round.from round.number (what_in round.kind)) is) (gone round since at acks is_polled not_open is refl)

  some_of : (member : Option NotAll) → is_none member ≡ false → (one : NotAll) × (member ≡ Some one)
  some_of None is = cc
  some_of (Some one) is = (one, refl)

  drop_out : (round : Round) (since at : ℕ) (acks : List ℕ) → IsPolledIn event core round since at acks → is_open_for round segs.growth ≡ false
      → GoesOn core (drop_polled round (record { deadline = core.deadline; since = since; present = at }) acks segs)
  drop_out round since at acks is_polled not_open =
      let times : Times = record { deadline = core.deadline; since = since; present = at } in
      let lowest = lowest_member_below segs.roster acks round.generation in
      cond_both (is_none lowest || has_passed times) (ended round segs) (waiting round since Nothing segs) (GoesOn core)
      (λ over. ended_out round since at acks (outcome_of segs.asks round.from round.number) is_polled not_open refl)
      (λ on.
      let parts = or_parts (is_none lowest) (has_passed times) on in
      let member = some_of lowest parts.0 in
      nothing refl (waits round since at acks member.0 is_polled member.1 (λ is_open. absurd (true_is_false (sym is_open ∙ not_open))) parts.1))
    where
      true_is_false : true ≡ false → ⊥
      true_is_false is = cc

  polled_out : (round : Round) (since at : ℕ) (acks : List ℕ) (which : RoundKind) → round.kind ≡ which → IsPolledIn event core round since at acks
      → GoesOn core (polled_by round (record { deadline = core.deadline; since = since; present = at }) acks segs which)
  polled_out round since at acks kind.Growth is is_polled = growth_out round since at acks is_polled is
  polled_out round since at acks kind.Rollback is is_polled = drop_out round since at acks is_polled (none_open round segs.growth (rw is refl))
  polled_out round since at acks kind.Drop is is_polled = drop_out round since at acks is_polled (none_open round segs.growth (rw is refl))

  -- participant 0 has caught up for a round
  module _ (caught : Caught) (at : ℕ) (round : Round) (told_now : event ≡ SelfMapped caught at) (mapping : core.phase ≡ Mapping round) where
    synced_out : (members : ℕ) (after : SegsView) → members ≡ other_members after → GoesOn core (synced round at members after)
    synced_out members after are = syncs caught at round told_now mapping (rw are refl)

    granted_out : (after : SegsView) (failed : Bool) → is_open_for round after.growth ≡ true → 0 ≡ other_members after
        → GoesOn core (granted_alone round at after failed)
    granted_out after true is_open none = synced_out 0 after none
    granted_out after false is_open none =
        let found = grant_has_outcome round (replicate 16 round.generation) after is_open (none_below after.roster round.generation) in
        ends core round (after_agree (replicate 16 round.generation) after) found.0 found.1

    unless_alone : (after : SegsView) (failure : Option Cause) → after.log ≡ segs.log → is_open_for round after.growth ≡ true
        → 0 ≡ other_members after → GoesOn core (alone_unless_failed round caught at after failure)
    unless_alone after (Some cause) same is_open none = cancels_out core round cause after same is_open
    unless_alone after None same is_open none = granted_out after (is_some (failure_of caught)) is_open none

    drop_alone_out : (after : SegsView) (outcome : Option Outcome) → 0 ≡ other_members after
        → outcome_of after.asks round.from round.number ≡ outcome → GoesOn core (drop_alone round at after outcome)
    drop_alone_out after None none is = synced_out 0 after none
    drop_alone_out after (Some outcome) none is = ends core round after outcome is

    alone_out : (after : SegsView) (which : RoundKind) → round.kind ≡ which → after.log ≡ segs.log
        → is_open_for round after.growth ≡ is_open_for round segs.growth → 0 ≡ other_members after
        → GoesOn core (alone_by round caught at after which)
    alone_out after kind.Growth is same opens_same none =
        cond_both (is_open_for round after.growth) (alone_unless_failed round caught at after (noted_failure after)) (rolled_back round after) (GoesOn core)
        (λ is_open. unless_alone after (noted_failure after) same is_open none)
        (λ gone_now. withdrawn_out core round after (subst (λ phase. IsUnderWay phase round) (sym mapping) refl) is (sym opens_same ∙ gone_now))
    alone_out after kind.Rollback is same opens_same none = drop_alone_out after (outcome_of after.asks round.from round.number) none refl
    alone_out after kind.Drop is same opens_same none = drop_alone_out after (outcome_of after.asks round.from round.number) none refl

    mapped_out : GoesOn core (mapped round caught at segs)
    mapped_out =
        let after = after_catching 0 caught segs in
        let kept = kept_noted round 0 segs (failure_of caught) in
        cond_both (other_members after == 0) (alone_by round caught at after round.kind) (synced round at (other_members after) after) (GoesOn core)
        (λ alone. alone_out after round.kind refl kept.log kept.is_open (sym (eqb-true (other_members after) 0 alone)))
        (λ others. synced_out (other_members after) after refl)

  -- an ask comes that is no held one
  came_out : (denial : ℕ → ℕ → Option (List ℕ × ℕ)) (one : Asked) → IsAskOf event one → IsOut event core segs (came denial one core segs)
  came_out denial one is_ask =
      cond_both (is_foreign core.phase segs.growth) (unchanged core segs) (taken denial one core segs) (IsOut event core segs)
      (λ other. nothing refl (foreign one (comes is_ask) other))
      (λ own. taken_out)
    where
      busy_out : is_idle core.phase ≡ false
          → IsOut event core segs (if is_unarmed one segs then unchanged core segs else unchanged (holding one core) segs)
      busy_out busy =
          cond_both (is_unarmed one segs) (unchanged core segs) (unchanged (holding one core) segs) (IsOut event core segs)
          (λ other. unarmed_out one is_ask other)
          (λ kept. nothing refl (held one is_ask busy refl))
        where
          unarmed_out : (one : Asked) → IsAskOf event one → is_unarmed one segs ≡ true → IsOut event core segs (unchanged core segs)
          unarmed_out (asked.Grow ask) is_ask other = nothing refl (unarmed ask (comes is_ask) (unarmed_by (is_closed (asked.Grow ask) segs) (is_armed ask segs) other))
          unarmed_out (asked.Shrink from number) is_ask other = cc

      taken_out : IsOut event core segs (taken denial one core segs)
      taken_out =
          cond_both (is_idle core.phase) (going_on core (started denial one segs))
          (if is_unarmed one segs then unchanged core segs else unchanged (holding one core) segs) (IsOut event core segs)
          (λ idle_now. started_out denial core one (comes is_ask))
          busy_out

  -- the held ask that is started
  served_out : (denial : ℕ → ℕ → Option (List ℕ × ℕ)) (now : Core) (one : Asked) → IsServed event core one → now.phase ≡ core.phase
      → IsOut event core segs (came denial one now segs)
  served_out denial now one is same =
      cond_both (is_foreign now.phase segs.growth) (unchanged now segs) (taken denial one now segs) (IsOut event core segs)
      (λ other. nothing refl (foreign one (is_served is) (sym (ap (λ phase. is_foreign phase segs.growth) same) ∙ other)))
      (λ own.
      cond_both (is_idle now.phase) (going_on now (started denial one segs))
      (if is_unarmed one segs then unchanged now segs else unchanged (holding one now) segs) (IsOut event core segs)
      (λ idle_now. started_out denial now one (is_served is))
      (λ busy. absurd (idle_is_busy (sym (ap is_idle same ∙ is.idle) ∙ busy))))
    where
      idle_is_busy : true ≡ false → ⊥
      idle_is_busy is = cc

-- where no participant has a held ask, none is held
none_held : (all : List (Option Asked)) (place : ℕ) → position_from is_some place all ≡ None → list_any is_some all ≡ false
none_held [] place none = refl
none_held (None ∷ all) place none = none_held all (place + 1) none
none_held (Some one ∷ all) place none = cc

some_at : (found : Option Asked) → is_some found ≡ true → found ≡ None → ⊥
some_at None some none = cc
some_at (Some one) some none = cc

module _ (denial : ℕ → ℕ → Option (List ℕ × ℕ)) (core : Core) (segs : SegsView) where
  caught_out : (caught : Caught) (at : ℕ) (phase : Phase) → core.phase ≡ phase
      → IsOut (SelfMapped caught at) core segs (caught_in core segs caught at phase)
  caught_out caught at Idle is = nothing refl (untold caught at refl (λ round mapping. not_mapping round (sym is ∙ mapping)))
    where
      not_mapping : (round : Round) → Idle ≡ Mapping round → ⊥
      not_mapping round same = cc
  caught_out caught at (Mapping round) is = mapped_out (SelfMapped caught at) core segs caught at round refl is
  caught_out caught at (Waiting round since) is = nothing refl (untold caught at refl (λ other mapping. not_mapping other (sym is ∙ mapping)))
    where
      not_mapping : (other : Round) → Waiting round since ≡ Mapping other → ⊥
      not_mapping other same = cc

  held_out : (at : ℕ) (acks : List ℕ) (place : ℕ) (found : Option Asked) → is_idle core.phase ≡ true → lowest_held core.held ≡ Some place
      → slice_index_or core.held place None ≡ found
      → IsOut (Poll at acks) core segs (served_ask denial (released core place) segs found)
  held_out at acks place None idle_now lowest is =
      absurd (some_at (slice_index_or core.held place None) (position-Some is_some core.held place None lowest).1 is)
  held_out at acks place (Some one) idle_now lowest is =
      served_out (Poll at acks) core segs denial (released core place) one
      (record { now = at; acks = acks; place = place; polled = refl; idle = idle_now; lowest = lowest; its_ask = is }) refl

  served_place : (at : ℕ) (acks : List ℕ) (found : Option ℕ) → core.phase ≡ Idle → lowest_held core.held ≡ found
      → IsOut (Poll at acks) core segs (served denial core segs found)
  served_place at acks None idle_now is =
      nothing refl (no_round at acks refl (ap (due_of core.deadline) idle_now)
      (and_right (is_idle core.phase) (list_any is_some core.held) (none_held core.held 0 (sym (position_from-zero is_some core.held) ∙ is))))
  served_place at acks (Some place) idle_now is =
      held_out at acks place (slice_index_or core.held place None) (ap is_idle idle_now) is refl

  polls_out : (at : ℕ) (acks : List ℕ) (phase : Phase) → core.phase ≡ phase
      → IsOut (Poll at acks) core segs (polled_in denial core segs at acks phase)
  polls_out at acks Idle is = served_place at acks (lowest_held core.held) is refl
  polls_out at acks (Mapping round) is =
      nothing refl (no_round at acks refl (ap (due_of core.deadline) is) (and_left (is_idle core.phase) (list_any is_some core.held) (ap is_idle is)))
  polls_out at acks (Waiting round since) is =
      polled_out (Poll at acks) core segs round since at acks round.kind refl (record { polled = refl; phase = is })

-- what a step answers has what stands after it
pub step_out : (denial : ℕ → ℕ → Option (List ℕ × ℕ)) (event : CoreEvent) (core : Core) (segs : SegsView)
    → IsOut event core segs (stepped denial event core segs)
step_out denial (Grow ask) core segs = came_out (Grow ask) core segs denial (asked.Grow ask) refl
step_out denial (Shrink from number) core segs = came_out (Shrink from number) core segs denial (asked.Shrink from number) refl
step_out denial (SelfMapped caught at) core segs = caught_out denial core segs caught at core.phase refl
step_out denial (Poll at acks) core segs = polls_out denial core segs at acks core.phase refl

-- so is what a step answers that leaves these
pub out_right : (denial : ℕ → ℕ → Option (List ℕ × ℕ)) (event : CoreEvent) (core new : Core) (segs after : SegsView) (out : Out)
    → IsStepped new after out (stepped denial event core segs) → IsOut event core segs (record { core = new; segs = after; out = out })
out_right denial event core new segs after out is =
    let right = step_out denial event core segs in
    subst (λ core_now. IsOut event core segs (record { core = core_now; segs = after; out = out })) (sym is.core_is)
    (subst (λ segs_now. IsOut event core segs (record { core = (stepped denial event core segs).core; segs = segs_now; out = out })) (sym is.segs_is)
    (subst (λ out_now. IsOut event core segs (record { core = (stepped denial event core segs).core; segs = (stepped denial event core segs).segs; out = out_now }))
    (sym is.out_is) right))
