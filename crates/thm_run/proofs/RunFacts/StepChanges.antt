-- A step of the coordinator, by an answer that its judge may give, is changes by its own deadline, and that deadline stays. It walks over
-- a step by itself, since a change carries why its outcome is logged: the plan's refusal, the judge's denial, the noted failure, or who was
-- late and for how long.
use Rattle.std.proofs.Common.{◌≡◌, ℕ, ◌+◌, ◌-◌, ◌<◌, ◌≤◌, ◌==◌, Bool, true, false, ◌&&◌, ◌||◌, List, length, replicate, Option, Some, None, Result, Ok, Err, refl, ◌∙◌, subst, arith, if◌then◌else◌}
use Rattle.std.specs.Prelude.{⊤, is_none, is_some, nat_le, nat_lt, slice_index_or}
use Rattle.std.proofs.lemmas.Bool.{and_parts, cond-false, cond-true, cond_both, ltb-false}
use Rattle.std.proofs.lemmas.Bool.Decides.{nat_tests}
use Rattle.hp_base.specs.Mapping.{FailingCall}
use Rattle.hp_base.specs.declared.caught.Caught.{Caught}
use Rattle.hp_base.specs.declared.row.Run.{Run}
use Rattle.hp_core.specs.Asks.{asker, is_armed, is_closed, is_unarmed, number_of}
use Rattle.hp_core.specs.Core.{Core, Done, Stepped, going_on, idle, is_foreign, is_idle, is_open_for, unchanged}
use Rattle.hp_core.specs.Following.{after_catching, failure_of}
use Rattle.hp_core.specs.Judging.{MayAnswer, fresh_judged, grow_judged, held_ask_judged, held_judged, judged_at, plan_judged, poll_judged, start_judged, ask_judged}
use Rattle.hp_core.specs.Mapped.{alone_by, alone_unless_failed, drop_alone, granted_alone, mapped, other_members, synced}
use Rattle.hp_core.specs.Rounds.{agreed, cancelled, ended, polled_by, rolled_back, unless_failed, waiting}
use Rattle.hp_core.specs.Starting.{grown, judged, planned, started, started_by, total_with}
use Rattle.hp_core.specs.Stepping.{came, caught_in, holding, lowest_held, polled_in, released, served, served_ask, stepped, taken}
use Rattle.hp_core.specs.declared.asked.Asked.{Asked}
use Rattle.hp_core.specs.declared.asked.Asked.TheVariants as want
use Rattle.hp_core.specs.declared.event.CoreEvent.{CoreEvent}
use Rattle.hp_core.specs.declared.event.CoreEvent.TheVariants.{Grow, Shrink, SelfMapped, Poll}
use Rattle.hp_core.specs.declared.out.Out.TheVariants.{Nothing}
use Rattle.hp_core.specs.declared.phase.Phase.{Phase}
use Rattle.hp_core.specs.declared.phase.Phase.TheVariants.{Idle, Mapping, Waiting}
use Rattle.hp_core.specs.declared.phase.Round.{Round}
use Rattle.hp_core.specs.declared.phase.RoundKind.{RoundKind}
use Rattle.hp_core.specs.declared.phase.RoundKind.TheVariants as kind
use Rattle.hp_core.proofs.GivingLemmas.{catches_note}
use Rattle.hp_core.proofs.RoundLemmas.{found_member}
use Rattle.hp_segs.specs.LaterSteps.{after_stale, noted_failure}
use Rattle.hp_segs.specs.Moved.{DropRetiring, is_log_call}
use Rattle.hp_segs.specs.Plan.{plan_of}
use Rattle.hp_segs.specs.SegsView.{SegsView, outcome_of}
use Rattle.hp_segs.specs.Sound.{IsSound}
use Rattle.hp_segs.specs.Steps.{after_drop, after_freed, after_open, lowest_member_below}
use Rattle.hp_segs.specs.declared.ask.Ask.{Ask}
use Rattle.hp_segs.specs.declared.fault.NotAll.{NotAll}
use Rattle.hp_segs.specs.declared.growth.Growth.{Growth}
use Rattle.hp_segs.specs.declared.outcome.Cause.{Cause}
use Rattle.hp_segs.specs.declared.outcome.Cause.TheVariants.{Late}
use Rattle.hp_segs.specs.declared.outcome.Outcome.{Outcome}
use Rattle.hp_segs.specs.declared.plan_refusal.PlanRefusal.{PlanRefusal}
use Rattle.hp_segs.proofs.Moves.{calls_keep, moves_keep}
use Rattle.hp_maps.specs.Catching.{HasReason}
use Rattle.hp_serve.specs.Coordinating.{MayDeny, stepping, with_room}
use Rattle.hp_serve.specs.Denials.{Denials}
use Rattle.thm_run.proofs.RunFacts.Changes.{Changes, by_failure, by_lateness, goes_on, stays}
use Rattle.thm_run.proofs.RunFacts.CallChanges.{agrees, cancels, catches, denied_by, drops, finds_stale, frees, opens, refuses, reserves}
use Rattle.thm_run.proofs.JudgedGrowths.OpenedBytes.{opened_bytes}
use Rattle.thm_run.proofs.Leaving.{room_sound}

-- while nothing is under way, a growth that is open is another's
none_open : (phase : Phase) (growth : Option Growth) → is_foreign phase growth ≡ false → is_idle phase ≡ true → growth ≡ None
none_open Idle None own is = refl
none_open Idle (Some growth) own is = cc
none_open (Mapping round) growth own is = cc
none_open (Waiting round since) growth own is = cc

passed_by : (since deadline now : ℕ) → nat_le since now ≡ true → nat_le deadline (now - since) ≡ true → since + deadline ≤ now
passed_by since deadline now here there = grind (arith, nat_tests)

module _ (count deadline : ℕ) (may_fail : ℕ → Option (List FailingCall)) (denies : Denials) (segs : SegsView) where
  abbrev Leaves : Done → Type 0
  Leaves done = Changes count deadline may_fail denies segs done.segs

  abbrev LeavesAfter : Stepped → Type 0
  LeavesAfter after = Changes count deadline may_fail denies segs after.segs

  -- what comes after the drops
  behind_drops : (last : SegsView) → Changes count deadline may_fail denies (after_drop segs) last
      → Changes count deadline may_fail denies segs last
  behind_drops last more = goes_on segs (after_drop segs) last (drops count deadline may_fail denies segs) more

module _ (count deadline : ℕ) (may_fail : ℕ → Option (List FailingCall)) (denies : Denials) (denied : Option (List ℕ × ℕ))
    (segs : SegsView) (sound : IsSound segs) (room : length segs.retiring ≤ segs.spare) where
  -- the judge is asked of that, and may answer so
  abbrev May : Option (ℕ × ℕ) → Type 0
  May asked = MayAnswer denies asked denied

  judged_changes : segs.growth ≡ None → (ask : Ask) (run : Run) → plan_of ask (after_drop segs) ≡ Ok run → (answer : Option (List ℕ × ℕ))
      → denies ask.socket (total_with ask run (after_drop segs)) answer
      → Leaves count deadline may_fail denies segs (judged ask run (after_drop segs) answer)
  judged_changes alone ask run plan None may =
      behind_drops count deadline may_fail denies segs (after_open ask run (after_drop segs))
      (opens count deadline may_fail denies (after_drop segs) ask run alone
      (subst (λ (total : ℕ). denies ask.socket total None)
      (opened_bytes (after_drop segs) ask run (calls_keep DropRetiring segs sound (record { alone = alone; spare = room })) alone refl plan) may))
  judged_changes alone ask run plan (Some denial) may =
      behind_drops count deadline may_fail denies segs _
      (denied_by count deadline may_fail denies (after_drop segs) ask denial (total_with ask run (after_drop segs)) may)

  planned_changes : segs.growth ≡ None → (ask : Ask) (plan : Result Run PlanRefusal) → plan_of ask (after_drop segs) ≡ plan
      → May (plan_judged ask (after_drop segs) plan)
      → Leaves count deadline may_fail denies segs (planned (λ socket total. denied) ask (after_drop segs) plan)
  planned_changes alone ask (Ok run) is may = judged_changes alone ask run is denied may
  planned_changes alone ask (Err refusal) is may =
      behind_drops count deadline may_fail denies segs _
      (refuses count deadline may_fail denies (after_drop segs) ask refusal)

  started_by_changes : segs.growth ≡ None → (one : Asked) → May (fresh_judged segs one)
      → Leaves count deadline may_fail denies segs (started_by (λ socket total. denied) segs one)
  started_by_changes alone (want.Grow ask) may =
      cond_both (is_armed ask segs) (grown (λ socket total. denied) ask (after_drop segs)) (idle segs Nothing)
      (Leaves count deadline may_fail denies segs)
      (λ armed.
      planned_changes alone ask (plan_of ask (after_drop segs)) refl
      (subst May (cond-true (is_armed ask segs) (grow_judged ask (after_drop segs)) None armed) may))
      (λ other. stays segs)
  started_by_changes alone (want.Shrink from number) may =
      behind_drops count deadline may_fail denies segs (after_freed from number (after_drop segs))
      (frees count deadline may_fail denies (after_drop segs) from number)

  started_changes : segs.growth ≡ None → (one : Asked) → May (start_judged one segs)
      → Leaves count deadline may_fail denies segs (started (λ socket total. denied) one segs)
  started_changes alone one may =
      cond_both (is_closed one segs) (idle (after_stale (asker one) (number_of one) segs) Nothing)
      (started_by (λ socket total. denied) segs one) (Leaves count deadline may_fail denies segs)
      (λ done. finds_stale count deadline may_fail denies segs (asker one) (number_of one))
      (λ fresh. started_by_changes alone one (subst May (cond-false (is_closed one segs) None (fresh_judged segs one) fresh) may))

  -- an ask that comes
  came_changes : (one : Asked) (core : Core) → May (ask_judged one core segs)
      → LeavesAfter count deadline may_fail denies segs (came (λ socket total. denied) one core segs)
  came_changes one core may =
      cond_both (is_foreign core.phase segs.growth) (unchanged core segs) (taken (λ socket total. denied) one core segs)
      (LeavesAfter count deadline may_fail denies segs)
      (λ other. stays segs)
      (λ own.
      cond_both (is_idle core.phase) (going_on core (started (λ socket total. denied) one segs))
      (if is_unarmed one segs then unchanged core segs else unchanged (holding one core) segs)
      (LeavesAfter count deadline may_fail denies segs)
      (λ idle_now.
      started_changes (none_open core.phase segs.growth own idle_now) one
      (subst May
      (cond-false (is_foreign core.phase segs.growth) None (if is_idle core.phase then start_judged one segs else None) own
      ∙ cond-true (is_idle core.phase) (start_judged one segs) None idle_now) may))
      (λ busy.
      cond_both (is_unarmed one segs) (unchanged core segs) (unchanged (holding one core) segs)
      (LeavesAfter count deadline may_fail denies segs) (λ other. stays segs)
      (λ held. stays segs)))

  served_ask_changes : (core : Core) (found : Option Asked) → May (held_ask_judged core segs found)
      → LeavesAfter count deadline may_fail denies segs (served_ask (λ socket total. denied) core segs found)
  served_ask_changes core None may = stays segs
  served_ask_changes core (Some one) may = came_changes one core may

  served_changes : (core : Core) (found : Option ℕ) → May (held_judged core segs found)
      → LeavesAfter count deadline may_fail denies segs (served (λ socket total. denied) core segs found)
  served_changes core None may = stays segs
  served_changes core (Some place) may =
      served_ask_changes (released core place) (slice_index_or core.held place None) may

-- a poll in a round
module _ (count deadline since now : ℕ) (may_fail : ℕ → Option (List FailingCall)) (denies : Denials) (round : Round) (acks : List ℕ)
    (segs : SegsView)
    (sound : IsSound segs) where
  agreed_changes : (below : Option NotAll) → lowest_member_below segs.roster acks round.generation ≡ below
      → Leaves count deadline may_fail denies segs
      (agreed round (record { deadline = deadline; since = since; present = now }) acks segs below)
  agreed_changes None is = agrees count deadline may_fail denies segs sound acks
  agreed_changes (Some member) is =
      cond_both (nat_le since now && nat_le deadline (now - since)) (cancelled round (Late member.participant since now) segs)
      (waiting round since Nothing segs) (Leaves count deadline may_fail denies segs)
      (λ passed.
      let both = and_parts (nat_le since now) (nat_le deadline (now - since)) passed in
      cancels count deadline may_fail denies segs sound (Late member.participant since now)
      (λ kept. by_lateness member.participant since now (found_member segs.roster acks round.generation member is)
      (passed_by since deadline now both.0 both.1)))
      (λ early. stays segs)

  unless_changes : (failure : Option Cause) → noted_failure segs ≡ failure
      → Leaves count deadline may_fail denies segs (unless_failed round
      (record { deadline = deadline; since = since; present = now }) acks segs failure)
  unless_changes (Some cause) is = cancels count deadline may_fail denies segs sound cause (λ kept. by_failure cause is)
  unless_changes None is = agreed_changes (lowest_member_below segs.roster acks round.generation) refl

  over_changes : (over : Bool) → Leaves count deadline may_fail denies segs
      (if over then ended round segs else waiting round since Nothing segs)
  over_changes true = stays segs
  over_changes false = stays segs

  polled_changes : (which : RoundKind)
      → Leaves count deadline may_fail denies segs
      (polled_by round (record { deadline = deadline; since = since; present = now }) acks segs which)
  polled_changes kind.Growth =
      cond_both (is_open_for round segs.growth)
      (unless_failed round (record { deadline = deadline; since = since; present = now }) acks segs (noted_failure segs))
      (rolled_back round segs) (Leaves count deadline may_fail denies segs)
      (λ opened. unless_changes (noted_failure segs) refl)
      (λ gone. stays segs)
  polled_changes kind.Rollback =
      over_changes (is_none (lowest_member_below segs.roster acks round.generation) || (nat_le since now && nat_le deadline (now - since)))
  polled_changes kind.Drop =
      over_changes (is_none (lowest_member_below segs.roster acks round.generation) || (nat_le since now && nat_le deadline (now - since)))

-- participant 0 has caught up, or failed to
module _ (count deadline : ℕ) (may_fail : ℕ → Option (List FailingCall)) (denies : Denials) (round : Round) (caught : Caught) (now : ℕ)
    (segs : SegsView)
    (sound : IsSound segs) where
  granted_changes : (failed : Bool) → Leaves count deadline may_fail denies segs (granted_alone round now segs failed)
  granted_changes true = stays segs
  granted_changes false = agrees count deadline may_fail denies segs sound (replicate 16 round.generation)

  alone_unless_changes : (failure : Option Cause) → noted_failure segs ≡ failure
      → Leaves count deadline may_fail denies segs (alone_unless_failed round caught now segs failure)
  alone_unless_changes (Some cause) is = cancels count deadline may_fail denies segs sound cause (λ kept. by_failure cause is)
  alone_unless_changes None is = granted_changes (is_some (failure_of caught))

  drop_alone_changes : (outcome : Option Outcome) → Leaves count deadline may_fail denies segs (drop_alone round now segs outcome)
  drop_alone_changes None = stays segs
  drop_alone_changes (Some outcome) = stays segs

  alone_changes : (which : RoundKind) → Leaves count deadline may_fail denies segs (alone_by round caught now segs which)
  alone_changes kind.Growth =
      cond_both (is_open_for round segs.growth) (alone_unless_failed round caught now segs (noted_failure segs)) (rolled_back round segs)
      (Leaves count deadline may_fail denies segs)
      (λ opened. alone_unless_changes (noted_failure segs) refl)
      (λ gone. stays segs)
  alone_changes kind.Rollback = drop_alone_changes (outcome_of segs.asks round.from round.number)
  alone_changes kind.Drop = drop_alone_changes (outcome_of segs.asks round.from round.number)

  told_changes : Leaves count deadline may_fail denies segs
      (if other_members segs == 0 then alone_by round caught now segs round.kind else synced round now (other_members segs) segs)
  told_changes =
      cond_both (other_members segs == 0) (alone_by round caught now segs round.kind) (synced round now (other_members segs) segs)
      (Leaves count deadline may_fail denies segs) (λ none. alone_changes round.kind) (λ others. stays segs)

caught_changes : (count : ℕ) (may_fail : ℕ → Option (List FailingCall)) (denies : Denials) (core : Core) (segs : SegsView)
    (caught : Caught) (now : ℕ)
    (phase : Phase) → IsSound segs → 0 < count → HasReason (may_fail 0) caught
    → LeavesAfter count core.deadline may_fail denies segs (caught_in core segs caught now phase)
caught_changes count may_fail denies core segs caught now Idle sound some reason = stays segs
caught_changes count may_fail denies core segs caught now (Mapping round) sound some reason =
    let mid = after_catching 0 caught segs in
    let behind = moves_keep is_log_call 0 segs mid sound (catches_note 0 caught segs sound.places.primary).moved in
    goes_on segs mid (mapped round caught now segs).segs (catches count core.deadline may_fail denies segs 0 some caught reason)
    (told_changes count core.deadline may_fail denies round caught now mid behind)
caught_changes count may_fail denies core segs caught now (Waiting round since) sound some reason = stays segs

poll_changes : (count : ℕ) (may_fail : ℕ → Option (List FailingCall)) (denies : Denials) (denied : Option (List ℕ × ℕ)) (core : Core)
    (segs : SegsView)
    (now : ℕ) (acks : List ℕ) (phase : Phase) → IsSound segs → length segs.retiring ≤ segs.spare
    → MayAnswer denies (poll_judged core segs phase) denied
    → LeavesAfter count core.deadline may_fail denies segs (polled_in (λ socket total. denied) core segs now acks phase)
poll_changes count may_fail denies denied core segs now acks Idle sound room may =
    served_changes count core.deadline may_fail denies denied segs sound room core (lowest_held core.held) may
poll_changes count may_fail denies denied core segs now acks (Mapping round) sound room may = stays segs
poll_changes count may_fail denies denied core segs now acks (Waiting round since) sound room may =
    polled_changes count core.deadline since now may_fail denies round acks segs sound round.kind

-- what an event tells of a failed mapping of participant 0 has a reason
abbrev pub TellsReason : ℕ → (ℕ → Option (List FailingCall)) → CoreEvent → Type 0
TellsReason count may_fail (SelfMapped caught now) = (0 < count) × HasReason (may_fail 0) caught
TellsReason count may_fail _ = ⊤

-- a step is changes
pub step_changes : (count : ℕ) (may_fail : ℕ → Option (List FailingCall)) (denies : Denials) (denied : Option (List ℕ × ℕ))
    (event : CoreEvent) (core : Core)
    (segs : SegsView) → IsSound segs → length segs.retiring ≤ segs.spare → TellsReason count may_fail event
    → MayAnswer denies (judged_at event core segs) denied
    → Changes count core.deadline may_fail denies segs (stepped (λ socket total. denied) event core segs).segs
step_changes count may_fail denies denied (Grow ask) core segs sound room reason may =
    came_changes count core.deadline may_fail denies denied segs sound room (want.Grow ask) core may
step_changes count may_fail denies denied (Shrink from number) core segs sound room reason may =
    came_changes count core.deadline may_fail denies denied segs sound room (want.Shrink from number) core may
step_changes count may_fail denies denied (SelfMapped caught now) core segs sound room reason may =
    caught_changes count may_fail denies core segs caught now core.phase sound reason.0 reason.1
step_changes count may_fail denies denied (Poll now acks) core segs sound room reason may =
    poll_changes count may_fail denies denied core segs now acks core.phase sound room may

-- there is a place for each Drop
room_there : (segs : SegsView) → length (with_room segs).retiring ≤ (with_room segs).spare
room_there segs = by_spare (nat_lt segs.spare (length segs.retiring + 3)) refl
  where
    by_spare : (less : Bool) → nat_lt segs.spare (length segs.retiring + 3) ≡ less
        → length segs.retiring ≤ (if less then length segs.retiring + 3 else segs.spare)
    by_spare true is = omega arith
    by_spare false is = omega (arith, ltb-false segs.spare (length segs.retiring + 3) is)

-- and so it is with the places for it
pub stepping_changes : (count : ℕ) (may_fail : ℕ → Option (List FailingCall)) (denies : Denials) (denied : Option (List ℕ × ℕ))
    (event : CoreEvent)
    (core : Core) (segs : SegsView) → IsSound segs → TellsReason count may_fail event → MayDeny denies event core segs denied
    → Changes count core.deadline may_fail denies segs (stepping denied event core segs).segs
stepping_changes count may_fail denies denied event core segs sound reason may =
    goes_on segs (with_room segs) (stepping denied event core segs).segs
    (reserves count core.deadline may_fail denies segs (length segs.retiring + 3))
    (step_changes count may_fail denies denied event core (with_room segs) (room_sound segs sound) (room_there segs) reason may)

-- the coordinator's deadline stays
module _ (denied : Option (List ℕ × ℕ)) (segs : SegsView) (deadline : ℕ) where
  abbrev Waits : Stepped → Type 0
  Waits after = after.core.deadline ≡ deadline

  came_waits : (one : Asked) (core : Core) → core.deadline ≡ deadline → Waits (came (λ socket total. denied) one core segs)
  came_waits one core is =
      cond_both (is_foreign core.phase segs.growth) (unchanged core segs) (taken (λ socket total. denied) one core segs) Waits
      (λ other. is)
      (λ own.
      cond_both (is_idle core.phase) (going_on core (started (λ socket total. denied) one segs))
      (if is_unarmed one segs then unchanged core segs else unchanged (holding one core) segs) Waits
      (λ idle_now. is)
      (λ busy.
      cond_both (is_unarmed one segs) (unchanged core segs) (unchanged (holding one core) segs) Waits (λ other. is) (λ held. is)))

  served_ask_waits : (core : Core) (found : Option Asked) → core.deadline ≡ deadline
      → Waits (served_ask (λ socket total. denied) core segs found)
  served_ask_waits core None is = is
  served_ask_waits core (Some one) is = came_waits one core is

  served_waits : (core : Core) (found : Option ℕ) → core.deadline ≡ deadline → Waits (served (λ socket total. denied) core segs found)
  served_waits core None is = is
  served_waits core (Some place) is = served_ask_waits (released core place) (slice_index_or core.held place None) is

  caught_waits : (core : Core) (caught : Caught) (now : ℕ) (phase : Phase) → core.deadline ≡ deadline
      → Waits (caught_in core segs caught now phase)
  caught_waits core caught now Idle is = is
  caught_waits core caught now (Mapping round) is = is
  caught_waits core caught now (Waiting round since) is = is

  poll_waits : (core : Core) (now : ℕ) (acks : List ℕ) (phase : Phase) → core.deadline ≡ deadline
      → Waits (polled_in (λ socket total. denied) core segs now acks phase)
  poll_waits core now acks Idle is = served_waits core (lowest_held core.held) is
  poll_waits core now acks (Mapping round) is = is
  poll_waits core now acks (Waiting round since) is = is

pub step_waits : (denied : Option (List ℕ × ℕ)) (event : CoreEvent) (core : Core) (segs : SegsView)
    → (stepping denied event core segs).core.deadline ≡ core.deadline
step_waits denied (Grow ask) core segs = came_waits denied (with_room segs) core.deadline (want.Grow ask) core refl
step_waits denied (Shrink from number) core segs = came_waits denied (with_room segs) core.deadline (want.Shrink from number) core refl
step_waits denied (SelfMapped caught now) core segs = caught_waits denied (with_room segs) core.deadline core caught now core.phase refl
step_waits denied (Poll now acks) core segs = poll_waits denied (with_room segs) core.deadline core now acks core.phase refl
