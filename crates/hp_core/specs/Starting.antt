-- How an ask is started while nothing is under way.
use Rattle.std.specs.Prelude.{ℕ, ◌+◌, ◌*◌, List, length, Option, Some, None, Result, Ok, Err, if◌then◌else◌}
use Rattle.hp_base.specs.declared.row.Run.{Run}
use Rattle.hp_segs.specs.Plan.{plan_of}
use Rattle.hp_segs.specs.SegsView.{SegsView, total_of}
use Rattle.hp_segs.specs.LaterSteps.{after_stale}
use Rattle.hp_segs.specs.Steps.{after_close, after_drop, after_freed, after_open}
use Rattle.hp_segs.specs.declared.ask.Ask.{Ask}
use Rattle.hp_segs.specs.declared.outcome.Cause.{Cause}
use Rattle.hp_segs.specs.declared.outcome.Cause.TheVariants as cause
use Rattle.hp_segs.specs.declared.plan_refusal.PlanRefusal.{PlanRefusal}
use Rattle.hp_segs.specs.declared.plan_refusal.PlanRefusal.TheVariants as plan
use Rattle.hp_core.specs.Asks.{answer_of, asker, is_armed, is_closed, number_of}
use Rattle.hp_core.specs.Core.{Done, idle}
use Rattle.hp_core.specs.declared.asked.Asked.{Asked}
use Rattle.hp_core.specs.declared.asked.Asked.TheVariants.{Grow, Shrink}
use Rattle.hp_core.specs.declared.out.Out.TheVariants.{Nothing, MapSelf}
use Rattle.hp_core.specs.declared.phase.Phase.TheVariants.{Mapping}
use Rattle.hp_core.specs.declared.phase.RoundKind.{RoundKind}
use Rattle.hp_core.specs.declared.phase.RoundKind.TheVariants as kind

-- the refusal is judged of lists and pages: neither is the ask closed, nor is a growth open
abbrev pub IsOfLists : PlanRefusal → Type 0
IsOfLists (plan.StaleAsk number done) = ⊥
IsOfLists (plan.GrowthOpen generation) = ⊥
IsOfLists plan.NoList = Unit {0}
IsOfLists (plan.TooFew have need) = Unit {0}
IsOfLists (plan.ListFull longest need) = Unit {0}
IsOfLists (plan.CannotHold addr len) = Unit {0}

-- the cause of such a refusal (the first two lines are of no such one)
abbrev pub cause_of : PlanRefusal → Cause
cause_of (plan.StaleAsk number done) = cause.NoList
cause_of (plan.GrowthOpen generation) = cause.NoList
cause_of plan.NoList = cause.NoList
cause_of (plan.TooFew have need) = cause.TooFew have need
cause_of (plan.ListFull longest need) = cause.ListFull longest need
cause_of (plan.CannotHold addr len) = cause.CannotHold addr len

-- the round of an ask begins: participant 0 catches up with all records first
abbrev pub opened_round : RoundKind → ℕ → ℕ → SegsView → Done
opened_round kind from number segs = record {
  segs = segs;
  next = record {
    phase = Mapping (record { kind = kind; generation = length segs.log; from = from; number = number });
    out = MapSelf (length segs.log);
  };
}

-- the ask is refused without a growth, and answered at once
abbrev pub refused : Ask → Cause → SegsView → Done
refused ask cause segs = idle (after_close ask cause segs) (answer_of (after_close ask cause segs).asks ask.from ask.number 2)

-- the bytes that the ask's socket would have with the run
abbrev pub total_with : Ask → Run → SegsView → ℕ
total_with ask run segs = total_of segs.segments ask.socket + run.count * run.page

-- a planned run: the Add is logged, unless a validator denies it
abbrev pub judged : Ask → Run → SegsView → Option (List ℕ × ℕ) → Done
judged ask run segs None = opened_round kind.Growth ask.from ask.number (after_open ask run segs)
judged ask run segs (Some denied) = refused ask (cause.Denied denied.0 denied.1 (total_with ask run segs)) segs

-- a plan for the ask, or the cause for which there is none
abbrev pub planned : (ℕ → ℕ → Option (List ℕ × ℕ)) → Ask → SegsView → Result Run PlanRefusal → Done
planned denial ask segs (Ok run) = judged ask run segs (denial ask.socket (total_with ask run segs))
planned denial ask segs (Err refusal) = refused ask (cause_of refusal) segs

-- an ask for memory with which its participant is armed, after the drops
abbrev pub grown : (ℕ → ℕ → Option (List ℕ × ℕ)) → Ask → SegsView → Done
grown denial ask segs = planned denial ask segs (plan_of ask segs)

-- an ask that is not closed: what is Retiring goes first
abbrev pub started_by : (ℕ → ℕ → Option (List ℕ × ℕ)) → SegsView → Asked → Done
started_by denial segs (Grow ask) = if is_armed ask segs then grown denial ask (after_drop segs) else idle segs Nothing
started_by denial segs (Shrink from number) = opened_round kind.Drop from number (after_freed from number (after_drop segs))

-- an ask that comes while nothing is under way: one that is closed is Stale, and not answered
abbrev pub started : (ℕ → ℕ → Option (List ℕ × ℕ)) → Asked → SegsView → Done
started denial asked segs =
    if is_closed asked segs then idle (after_stale (asker asked) (number_of asked) segs) Nothing else started_by denial segs asked
