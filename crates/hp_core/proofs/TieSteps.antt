-- Each step of the coordinator leaves it tied to the segment value: a walk over the definition of a step.
use Rattle.std.proofs.Common.{◌≡◌, ℕ, ◌+◌, ◌==◌, Bool, true, false, ◌||◌, List, [], ◌∷◌, ◌++◌, length, Option, Some, None, Result, Ok, Err, refl, ap, ◌∙◌, sym, subst, arith, length-append, eq-eqb, if◌then◌else◌}
use Rattle.std.specs.Prelude.{is_none, is_some, slice_index_or}
use Rattle.std.proofs.lemmas.Bool.{and_from, cond_both}
use Rattle.hp_base.specs.declared.caught.Caught.{Caught}
use Rattle.hp_base.specs.declared.row.Run.{Run}
use Rattle.hp_log.specs.declared.log_record.LogRecord.TheVariants.{Add}
use Rattle.hp_segs.specs.LaterSteps.{after_stale, noted_failure}
use Rattle.hp_segs.specs.Plan.{plan_of}
use Rattle.hp_segs.specs.SegsView.{SegsView, outcome_of}
use Rattle.hp_segs.specs.Steps.{after_cancel, after_drop, after_open, cancelled_growth, lowest_member_below}
use Rattle.hp_segs.specs.declared.ask.Ask.{Ask}
use Rattle.hp_segs.specs.declared.fault.NotAll.{NotAll}
use Rattle.hp_segs.specs.declared.outcome.AskLog.{AskLog}
use Rattle.hp_segs.specs.declared.outcome.Cause.{Cause}
use Rattle.hp_segs.specs.declared.outcome.Cause.TheVariants as cause
use Rattle.hp_segs.specs.declared.outcome.Outcome.{Outcome}
use Rattle.hp_segs.specs.declared.outcome.Outcome.TheVariants.{Freed, Refused}
use Rattle.hp_segs.specs.declared.plan_refusal.PlanRefusal.{PlanRefusal}
use Rattle.hp_core.specs.Asks.{asker, is_armed, is_closed, is_unarmed, number_of}
use Rattle.hp_core.specs.Core.{Core, Done, Stepped, going_on, idle, is_foreign, is_idle, is_open_for, unchanged}
use Rattle.hp_core.specs.Following.{after_catching, failure_of}
use Rattle.hp_core.specs.Mapped.{alone_by, alone_unless_failed, drop_alone, granted_alone, mapped, other_members, synced}
use Rattle.hp_core.specs.Rounds.{agreed, cancelled, ended, has_passed, polled_by, rolled_back, unless_failed, waiting}
use Rattle.hp_core.specs.Starting.{grown, judged, planned, started, started_by, total_with}
use Rattle.hp_core.specs.Stepping.{came, caught_in, holding, lowest_held, polled_in, released, served, served_ask, taken}
use Rattle.hp_core.specs.Tied.{IsAccounted, IsTied, IsTiedIn, StepsTie, has_ended, is_open}
use Rattle.hp_core.specs.declared.asked.Asked.{Asked}
use Rattle.hp_core.specs.declared.asked.Asked.TheVariants as want
use Rattle.hp_core.specs.declared.event.CoreEvent.TheVariants.{Grow, Shrink, SelfMapped, Poll}
use Rattle.hp_core.specs.declared.out.Out.TheVariants.{Nothing}
use Rattle.hp_core.specs.declared.phase.Phase.{Phase}
use Rattle.hp_core.specs.declared.phase.Phase.TheVariants.{Idle, Mapping, Waiting}
use Rattle.hp_core.specs.declared.phase.Round.{Round}
use Rattle.hp_core.specs.declared.phase.RoundKind.{RoundKind}
use Rattle.hp_core.specs.declared.phase.RoundKind.TheVariants as kind
use Rattle.hp_core.specs.declared.times.Times.{Times}
use Rattle.hp_core.proofs.RoundLemmas.{IsGrowthOf, growth_of, has_outcome, is_its_outcome, kept_noted}

-- what is done leaves the coordinator tied
abbrev Ties : Done → Type 0
Ties done = IsTiedIn done.next.phase done.segs.growth done.segs.asks

-- the growth that is opened for an ask is that of its round
opened_for : (ask : Ask) (run : Run) (segs : SegsView)
    → is_open_for (record { kind = kind.Growth; generation = length (after_open ask run segs).log; from = ask.from; number = ask.number })
    (after_open ask run segs).growth ≡ true
opened_for ask run segs =
    and_from (length segs.log + 1 == length (segs.log ++ Add run ask.heap ∷ [])) _
    (eq-eqb (length segs.log + 1) (length (segs.log ++ Add run ask.heap ∷ [])) (omega (arith, length-append segs.log (Add run ask.heap ∷ []))))
    (and_from (ask.from == ask.from) (ask.number == ask.number) (eq-eqb ask.from ask.from refl) (eq-eqb ask.number ask.number refl))

judged_ties : (ask : Ask) (run : Run) (segs : SegsView) (denied : Option (List ℕ × ℕ)) → Ties (judged ask run segs denied)
judged_ties ask run segs None = is_open (opened_for ask run segs)
judged_ties ask run segs (Some denied) = tt

planned_ties : (denial : ℕ → ℕ → Option (List ℕ × ℕ)) (ask : Ask) (segs : SegsView) (plan : Result Run PlanRefusal) → Ties (planned denial ask segs plan)
planned_ties denial ask segs (Ok run) = judged_ties ask run segs (denial ask.socket (total_with ask run segs))
planned_ties denial ask segs (Err refusal) = tt

starts_tie : (denial : ℕ → ℕ → Option (List ℕ × ℕ)) (segs : SegsView) (one : Asked) → Ties (started_by denial segs one)
starts_tie denial segs (want.Grow ask) =
    cond_both (is_armed ask segs) (grown denial ask (after_drop segs)) (idle segs Nothing) Ties
    (λ armed. planned_ties denial ask (after_drop segs) (plan_of ask (after_drop segs)))
    (λ other. tt)
starts_tie denial segs (want.Shrink from number) =
    let behind = after_drop segs in
    let entry : AskLog = record { from = from; number = number; outcome = Freed (length behind.log); at = length behind.log; ask = None } in
    let found = has_outcome behind.asks entry from number (is_its_outcome entry from number refl refl refl) in
    has_ended found.0 found.1

-- an ask that is started
started_ties : (denial : ℕ → ℕ → Option (List ℕ × ℕ)) (one : Asked) (segs : SegsView) → Ties (started denial one segs)
started_ties denial one segs =
    cond_both (is_closed one segs) (idle (after_stale (asker one) (number_of one) segs) Nothing) (started_by denial segs one) Ties
    (λ done. tt)
    (λ fresh. starts_tie denial segs one)

rolls_back : (round : Round) (segs : SegsView) → is_open_for round segs.growth ≡ false → IsAccounted round segs.growth segs.asks
    → Ties (rolled_back round segs)
rolls_back round segs gone (is_open opened) = absurd (true_false (sym opened ∙ gone))
  where
    true_false : true ≡ false → ⊥
    true_false same = cc
rolls_back round segs gone (has_ended outcome found) = has_ended outcome found

cancelled_by : (round : Round) (cause : Cause) (segs : SegsView) (of : IsGrowthOf round segs.growth)
    → (outcome : Outcome) × (outcome_of (after_cancel cause segs).asks round.from round.number ≡ Some outcome)
cancelled_by round cause segs of =
    let growth = of.growth in
    let entry : AskLog = record { from = growth.ask.from; number = growth.ask.number; outcome = Refused cause; at = length segs.log; ask = Some growth.ask } in
    let found = has_outcome segs.asks entry round.from round.number (is_its_outcome entry round.from round.number of.from of.number refl) in
    (found.0, ap (λ open_now. outcome_of (cancelled_growth cause segs open_now).asks round.from round.number) of.its_growth ∙ found.1)

cancelled_ties : (round : Round) (cause : Cause) (segs : SegsView) → is_open_for round segs.growth ≡ true → Ties (cancelled round cause segs)
cancelled_ties round cause segs opened =
    let found = cancelled_by round cause segs (growth_of round segs.growth opened) in has_ended found.0 found.1

agreed_ties : (round : Round) (times : Times) (acks : List ℕ) (segs : SegsView) (member : Option NotAll) → is_open_for round segs.growth ≡ true
    → Ties (agreed round times acks segs member)
agreed_ties round times acks segs None opened = tt
agreed_ties round times acks segs (Some member) opened =
    cond_both (has_passed times) (cancelled round (cause.Late member.participant times.since times.present) segs) (waiting round times.since Nothing segs)
    Ties
    (λ passed. cancelled_ties round (cause.Late member.participant times.since times.present) segs opened)
    (λ early. is_open opened)

unless_ties : (round : Round) (times : Times) (acks : List ℕ) (segs : SegsView) (failure : Option Cause) → is_open_for round segs.growth ≡ true
    → Ties (unless_failed round times acks segs failure)
unless_ties round times acks segs (Some cause) opened = cancelled_ties round cause segs opened
unless_ties round times acks segs None opened = agreed_ties round times acks segs (lowest_member_below segs.roster acks round.generation) opened

polled_ties : (round : Round) (times : Times) (acks : List ℕ) (segs : SegsView) (which : RoundKind) → IsAccounted round segs.growth segs.asks
    → Ties (polled_by round times acks segs which)
polled_ties round times acks segs kind.Growth tied =
    cond_both (is_open_for round segs.growth) (unless_failed round times acks segs (noted_failure segs)) (rolled_back round segs) Ties
    (λ opened. unless_ties round times acks segs (noted_failure segs) opened)
    (λ gone. rolls_back round segs gone tied)
polled_ties round times acks segs kind.Rollback tied =
    cond_both (is_none (lowest_member_below segs.roster acks round.generation) || has_passed times) (ended round segs)
    (waiting round times.since Nothing segs) Ties (λ over. tt) (λ on. tied)
polled_ties round times acks segs kind.Drop tied =
    cond_both (is_none (lowest_member_below segs.roster acks round.generation) || has_passed times) (ended round segs)
    (waiting round times.since Nothing segs) Ties (λ over. tt) (λ on. tied)

granted_alone_ties : (round : Round) (now : ℕ) (segs : SegsView) (failed : Bool) → IsAccounted round segs.growth segs.asks
    → Ties (granted_alone round now segs failed)
granted_alone_ties round now segs true tied = tied
granted_alone_ties round now segs false tied = tt

alone_unless_ties : (round : Round) (caught : Caught) (now : ℕ) (segs : SegsView) (failure : Option Cause) → is_open_for round segs.growth ≡ true
    → Ties (alone_unless_failed round caught now segs failure)
alone_unless_ties round caught now segs (Some cause) opened = cancelled_ties round cause segs opened
alone_unless_ties round caught now segs None opened = granted_alone_ties round now segs (is_some (failure_of caught)) (is_open opened)

drop_alone_ties : (round : Round) (now : ℕ) (segs : SegsView) (outcome : Option Outcome) → IsAccounted round segs.growth segs.asks
    → Ties (drop_alone round now segs outcome)
drop_alone_ties round now segs None tied = tied
drop_alone_ties round now segs (Some outcome) tied = tt

alone_ties : (round : Round) (caught : Caught) (now : ℕ) (segs : SegsView) (which : RoundKind) → IsAccounted round segs.growth segs.asks
    → Ties (alone_by round caught now segs which)
alone_ties round caught now segs kind.Growth tied =
    cond_both (is_open_for round segs.growth) (alone_unless_failed round caught now segs (noted_failure segs)) (rolled_back round segs) Ties
    (λ opened. alone_unless_ties round caught now segs (noted_failure segs) opened)
    (λ gone. rolls_back round segs gone tied)
alone_ties round caught now segs kind.Rollback tied = drop_alone_ties round now segs (outcome_of segs.asks round.from round.number) tied
alone_ties round caught now segs kind.Drop tied = drop_alone_ties round now segs (outcome_of segs.asks round.from round.number) tied

-- a noted failure keeps the account of a round
noted_account : (round : Round) (caught : Caught) (segs : SegsView) → IsAccounted round segs.growth segs.asks
    → IsAccounted round (after_catching 0 caught segs).growth (after_catching 0 caught segs).asks
noted_account round caught segs (is_open opened) = is_open ((kept_noted round 0 segs (failure_of caught)).is_open ∙ opened)
noted_account round caught segs (has_ended outcome found) =
    has_ended outcome (ap (λ asks. outcome_of asks round.from round.number) (kept_noted round 0 segs (failure_of caught)).asks ∙ found)

mapped_ties : (round : Round) (caught : Caught) (now : ℕ) (segs : SegsView) → IsAccounted round segs.growth segs.asks
    → Ties (mapped round caught now segs)
mapped_ties round caught now segs tied =
    let after = after_catching 0 caught segs in
    let kept = noted_account round caught segs tied in
    cond_both (other_members after == 0) (alone_by round caught now after round.kind) (synced round now (other_members after) after) Ties
    (λ alone. alone_ties round caught now after round.kind kept)
    (λ others. kept)

-- a step leaves the coordinator tied
abbrev StepTies : Stepped → Type 0
StepTies after = IsTied after.core after.segs

came_ties : (denial : ℕ → ℕ → Option (List ℕ × ℕ)) (one : Asked) (core : Core) (segs : SegsView) → IsTied core segs
    → StepTies (came denial one core segs)
came_ties denial one core segs tied =
    cond_both (is_foreign core.phase segs.growth) (unchanged core segs) (taken denial one core segs) StepTies
    (λ other. tied)
    (λ own.
    cond_both (is_idle core.phase) (going_on core (started denial one segs))
    (if is_unarmed one segs then unchanged core segs else unchanged (holding one core) segs) StepTies
    (λ idle_now. started_ties denial one segs)
    (λ busy. cond_both (is_unarmed one segs) (unchanged core segs) (unchanged (holding one core) segs) StepTies (λ other. tied) (λ held. tied)))

module _ (denial : ℕ → ℕ → Option (List ℕ × ℕ)) (core : Core) (segs : SegsView) (tied : IsTied core segs) where
  caught_ties : (caught : Caught) (now : ℕ) (phase : Phase) → core.phase ≡ phase → StepTies (caught_in core segs caught now phase)
  caught_ties caught now Idle is = tied
  caught_ties caught now (Mapping round) is =
      mapped_ties round caught now segs (subst (λ phase. IsTiedIn phase segs.growth segs.asks) is tied)
  caught_ties caught now (Waiting round since) is = tied

  served_ties : (place : ℕ) (found : Option Asked) → StepTies (served_ask denial (released core place) segs found)
  served_ties place None = tied
  served_ties place (Some one) = came_ties denial one (released core place) segs tied

  serve_ties : (found : Option ℕ) → StepTies (served denial core segs found)
  serve_ties None = tied
  serve_ties (Some place) = served_ties place (slice_index_or core.held place None)

  polls_tie : (now : ℕ) (acks : List ℕ) (phase : Phase) → core.phase ≡ phase → StepTies (polled_in denial core segs now acks phase)
  polls_tie now acks Idle is = serve_ties (lowest_held core.held)
  polls_tie now acks (Mapping round) is = tied
  polls_tie now acks (Waiting round since) is =
      polled_ties round (record { deadline = core.deadline; since = since; present = now }) acks segs round.kind
      (subst (λ phase. IsTiedIn phase segs.growth segs.asks) is tied)

-- each step leaves the coordinator tied
pub steps_tie : StepsTie
steps_tie denial (Grow ask) core segs tied = came_ties denial (want.Grow ask) core segs tied
steps_tie denial (Shrink from number) core segs tied = came_ties denial (want.Shrink from number) core segs tied
steps_tie denial (SelfMapped caught now) core segs tied = caught_ties denial core segs tied caught now core.phase refl
steps_tie denial (Poll now acks) core segs tied = polls_tie denial core segs tied now acks core.phase refl
