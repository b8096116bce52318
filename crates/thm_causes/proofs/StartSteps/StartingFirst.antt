-- The first step of the coordinator for an ask that is to do.
use Rattle.std.proofs.Common.{◌≡◌, ◌⊎◌, ℕ, ◌<◌, ◌≤◌, Bool, true, false, List, [], ◌∷◌, length, Option, Some, None, Result, Ok, Err, inl, inr, refl, sym, ap, subst, ◌∙◌, arith, if◌then◌else◌}
use Rattle.std.proofs.lemmas.Bool.{cases_lt, cond-false}
use Rattle.std.proofs.lemmas.List.{get_or_past}
use Rattle.std.proofs.lemmas.Option.{same_Some}
use Rattle.std.specs.Prelude.{slice_get, slice_index_or}
use Rattle.hp_base.specs.declared.row.Run.{Run}
use Rattle.hp_core.specs.Asks.{asker, is_armed, is_closed, is_unarmed, number_of}
use Rattle.hp_core.specs.Core.{Core, Done, going_on, idle, is_foreign, is_idle, unchanged}
use Rattle.hp_core.specs.Starting.{cause_of, grown, judged, opened_round, planned, refused, started, started_by, total_with}
use Rattle.hp_core.specs.Stepping.{came, holding, taken}
use Rattle.hp_core.specs.declared.asked.Asked.{Asked}
use Rattle.hp_core.specs.declared.asked.Asked.TheVariants as want
use Rattle.hp_core.specs.declared.out.Out.{Out}
use Rattle.hp_core.specs.declared.out.Out.TheVariants.{Nothing}
use Rattle.hp_core.specs.declared.phase.Phase.{Phase}
use Rattle.hp_core.specs.declared.phase.Phase.TheVariants.{Idle}
use Rattle.hp_core.specs.declared.phase.RoundKind.TheVariants as kind
use Rattle.hp_segs.specs.Standing.{IsArmed}
use Rattle.hp_segs.specs.LaterSteps.{after_stale, noted_failure}
use Rattle.hp_segs.specs.Plan.{plan_of}
use Rattle.hp_segs.specs.SegsView.{SegsView}
use Rattle.hp_segs.specs.Sound.{IsSound}
use Rattle.hp_segs.specs.Steps.{after_drop, after_open}
use Rattle.hp_segs.specs.declared.ask.Ask.{Ask}
use Rattle.hp_segs.specs.declared.outcome.Cause.{Cause}
use Rattle.hp_segs.specs.declared.outcome.Cause.TheVariants.{Denied}
use Rattle.hp_segs.specs.declared.plan_refusal.PlanRefusal.{PlanRefusal}
use Rattle.hp_segs.proofs.QueryLemmas.{get_within}
use Rattle.hp_serve.specs.Coordinating.{with_core, with_room}
use Rattle.hp_serve.specs.Party.{Party}
use Rattle.thm_causes.specs.RoundTrip.{HasCoordinator, IsBase, IsNotedCall, Setting, RunState, number_of_party}
use Rattle.thm_causes.specs.Shared.{Shared, with_segs}
use Rattle.thm_causes.specs.Stages.{world_with}
use Rattle.thm_causes.proofs.Said.{set_found}
use Rattle.thm_causes.proofs.StartSteps.StartingBase.{Follows, GoesOn, LogsOne, was_there}
use Rattle.thm_causes.proofs.StartSteps.StartingOutcomes.{IsRefusedAtOnce, by_judge, by_plan}

-- WHAT THE COORDINATOR MAKES OF IT

-- whatever the judge answers
module _ (denied : Option (List ℕ × ℕ)) (core : Core) (segs : SegsView) (call : Asked) (rests : core.phase ≡ Idle)
    (alone : segs.growth ≡ None)
    (fresh : is_closed call segs ≡ false) where
  -- it is started
  pub came_starts : came (λ socket total. denied) call core (with_room segs) ≡ going_on core
      (started_by (λ socket total. denied) (with_room segs) call)
  came_starts =
      let own : is_foreign core.phase segs.growth ≡ false = ap (is_foreign core.phase) alone in
      cond-false (is_foreign core.phase segs.growth) (unchanged core (with_room segs))
      (taken (λ socket total. denied) call core (with_room segs)) own
      ∙ (ap
      (λ (phase : Phase).
      if is_idle phase then going_on core (started (λ socket total. denied) call (with_room segs))
      else (if is_unarmed call (with_room segs) then unchanged core (with_room segs) else unchanged (holding call core) (with_room segs))) rests
      ∙ ap (λ (closed : Bool). going_on core
      (if closed then idle (after_stale (asker call) (number_of call) (with_room segs)) Nothing
      else started_by (λ socket total. denied) (with_room segs) call)) fresh)

-- the value after the drops
abbrev pub dropped : SegsView → SegsView
dropped segs = after_drop (with_room segs)

-- an ask for memory is refused, as there is no plan or its run is denied, or a growth is opened for it
pub data Begins (ask : Ask) (segs : SegsView) (done : Done) : Type 0 where
  refuses : (cause : Cause) → IsRefusedAtOnce cause → done ≡ refused ask cause (dropped segs) → Begins ask segs done
  opens : (run : Run) → done ≡ opened_round kind.Growth ask.from ask.number (after_open ask run (dropped segs)) → Begins ask segs done

module _ (denied : Option (List ℕ × ℕ)) (ask : Ask) (segs : SegsView) where
  judged_begins : (run : Run) (answer : Option (List ℕ × ℕ)) → Begins ask segs (judged ask run (dropped segs) answer)
  judged_begins run None = opens run refl
  judged_begins run (Some denial) =
      let total : ℕ = total_with ask run (dropped segs) in
      refuses (Denied denial.0 denial.1 total) (by_judge denial.0 denial.1 total) refl

  plan_begins : (plan : Result Run PlanRefusal) → Begins ask segs (planned (λ socket total. denied) ask (dropped segs) plan)
  plan_begins (Ok run) = judged_begins run denied
  plan_begins (Err refusal) = refuses (cause_of refusal) (by_plan refusal) refl

  pub ask_begins : is_armed ask segs ≡ true → Begins ask segs (started_by (λ socket total. denied) (with_room segs) (want.Grow ask))
  ask_begins armed =
      subst (Begins ask segs)
      (sym (ap
      (λ (armed : Bool). if armed then grown (λ socket total. denied) ask (dropped segs) else idle (with_room segs) Nothing) armed))
      (plan_begins (plan_of ask (dropped segs)))

-- WHAT ALL SHARE THEN

-- the coordinator has made its first step, and goes on with this
pub record HasStarted (world : RunState) (mid : Shared) (primary : Party) (core next : Core) (answer : Out) (done : Done) : Type 0 where
  pub core_is : next ≡ record core { phase = done.next.phase }
  pub answer_is : answer ≡ done.next.out
  pub shared : mid ≡ with_segs done.segs world.shared
  pub sound : IsSound mid.segs
  pub armed : IsArmed mid.segs

-- nobody has acknowledged more than there are records
pub acknowledged_within : (set : Setting) (world : RunState) → IsBase set world → (who : ℕ) → number_of_party world who ≤ length world.shared.segs.log
acknowledged_within set world base who =
    elim (cases_lt who (length world.parties)) [
      | inl within ↦
          elim (first_one world.parties who within) [
            | inl found ↦ (base.places who found.0 found.1).within
            | inr none ↦ absurd none
          ]
      | inr past ↦ omega (arith, get_or_past world.shared.numbers who 0 (omega (arith, past, base.numbers, base.parties)))
    ]
  where
    first_one : (parties : List Party) (who : ℕ) → who < length parties → ((party : Party) × (slice_get parties who ≡ Some party)) ⊎ ⊥
    first_one [] who within = absurd (omega (arith, within))
    first_one (party ∷ parties) who within = inl (_, get_within (party ∷ parties) who party within)

module _ (set : Setting) (world : RunState) (mid : Shared) (primary : Party) (core next : Core) (answer : Out) (done : Done) (base : IsBase set world)
    (there : slice_get world.parties 0 ≡ Some primary) (has : HasStarted world mid primary core next answer done) where
  abbrev pub started_world : RunState
  started_world = world_with mid world.mail 0 (with_core next primary) world

  went_on : GoesOn primary (with_core next primary)
  went_on = record {
    me = refl;
    plan = refl;
    deadline = refl;
    asked = refl;
    answered = refl;
    allocs = refl;
    frees = refl;
    calls = omega arith;
  }

  pub started_follows : done.segs.roster ≡ world.shared.segs.roster → length world.shared.segs.log ≤ length done.segs.log
      → LogsOne started_world world.shared.segs.asks done.segs.asks
      → ((cause : Cause) → noted_failure done.segs ≡ Some cause → IsNotedCall started_world cause)
      → Follows set world mid primary (with_core next primary)
  started_follows roster longer asks noted =
      let own = base.places 0 primary there in
      let segs_are : mid.segs ≡ done.segs = ap (λ (shared : Shared). shared.segs) has.shared in
      let numbers_are : mid.numbers ≡ world.shared.numbers = ap (λ (shared : Shared). shared.numbers) has.shared in
      let first : slice_index_or mid.numbers 0 0 ≡ number_of_party world 0 = ap (λ (numbers : List ℕ). slice_index_or numbers 0 0) numbers_are in
      let log_is : length mid.segs.log ≡ length done.segs.log = ap (λ (segs : SegsView). length segs.log) segs_are in
      let joined : primary.joined ≡ true = sym own.joined ∙ base.primary in
      record {
        boxes = ap (λ (shared : Shared). shared.boxes) has.shared;
        clock = ap (λ (shared : Shared). shared.clock) has.shared;
        long = ap length numbers_are;
        others = λ who apart. ap (λ (numbers : List ℕ). slice_index_or numbers who 0) numbers_are;
        sound = has.sound;
        armed = has.armed;
        roster = ap (λ (segs : SegsView). segs.roster) segs_are ∙ roster;
        longer = omega (arith, log_is, longer);
        on = went_on;
        sent = refl;
        joined = joined;
        number = own.number joined ∙ sym first;
        rises = omega (arith, first);
        within = omega (arith, first, own.within, log_is, longer);
        asks = subst (λ (segs : SegsView). LogsOne started_world world.shared.segs.asks segs.asks) (sym segs_are) asks;
        noted = λ cause is. noted cause (ap noted_failure (sym segs_are) ∙ is);
      }

  pub started_found : slice_get started_world.parties 0 ≡ Some (with_core next primary)
  started_found = set_found world.parties 0 primary (with_core next primary) there

  -- the coordinator goes on with that phase
  pub started_coordinator : (call : Asked) (phase : Phase) → primary.core ≡ Some core → HasCoordinator set world Idle call false
      → done.next.phase ≡ phase → HasCoordinator set started_world phase call false
  started_coordinator call phase its old is =
      let same : primary ≡ old.primary = cc (there, old.there) in
      let cores : Some core ≡ Some old.is.its = sym its ∙ (ap (λ (party : Party). party.core) same ∙ old.is.there) in
      let core_is : core ≡ old.is.its = same_Some core old.is.its cores in
      record {
        primary = with_core next primary;
        there = started_found;
        is = record {
          its = next;
          there = refl;
          deadline = ap (λ (core : Core). core.deadline) has.core_is ∙ (ap (λ (core : Core). core.deadline) core_is ∙ old.is.deadline);
          phase_is = ap (λ (core : Core). core.phase) has.core_is ∙ is;
          held = ap (λ (core : Core). core.held) has.core_is ∙ (ap (λ (core : Core). core.held) core_is ∙ old.is.held);
        };
      }

  -- the ask was sent by its asker
  pub started_asked : (call : Asked) → ((party : Party) → slice_get world.parties (asker call) ≡ Some party → party.asked ≡ number_of call)
      → (party : Party) → slice_get started_world.parties (asker call) ≡ Some party → party.asked ≡ number_of call
  started_asked call asked party found =
      let was = was_there mid world primary (with_core next primary) there went_on (asker call) party found in
      was.on.asked ∙ asked was.before was.there
