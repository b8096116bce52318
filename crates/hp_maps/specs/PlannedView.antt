-- A mapper that refuses or misplaces rows by a plan: the rule "Mapping faults" of docs/TABLES.md.
use Rattle.std.specs.Prelude.{◌≡◌, ℕ, ◌+◌, ◌==◌, List, [], ◌∷◌, ◌++◌, map, Option, Some, None, if◌then◌else◌, ⊤}
use Rattle.hp_base.specs.Mapping.{FailingCall, Held, IsSteady, may_fail_at, next_place, own_place, owned, without_rows}
use Rattle.hp_base.specs.Plans.{map_action_of, planned_calls, plans_mapping}
use Rattle.hp_base.specs.declared.map_answer.MapAnswer.{MapAnswer}
use Rattle.hp_base.specs.declared.map_answer.MapAnswer.TheVariants.{Refused}
use Rattle.hp_base.specs.declared.plan.MapAction.{MapAction}
use Rattle.hp_base.specs.declared.plan.MapAction.TheVariants as action
use Rattle.hp_base.specs.declared.plan_entry.PlanEntry.{PlanEntry}
use Rattle.hp_base.specs.declared.row.Row.{Row}

-- what contracts see of it
pub record PlannedView : Type 0 where
  -- what it holds: the rows of the other mapper, and the one that is misplaced, if there is one
  pub held : List Held
  pub capacity : ℕ
  -- its answers, and those of the other mapper, which is asked where the plan says nothing
  pub answers : List MapAnswer
  pub asked : List MapAnswer
  -- how often it refused, or the other mapper did
  pub faults : ℕ
  -- the calls of the other mapper at which a row may fail, and how, where that is told
  pub other_may_fail : Option (List FailingCall)
  -- the plan, and the participant that the plan names
  pub plan : List PlanEntry
  pub party : ℕ

-- what the plan has of the mapping of a row, by the number of the call: a row without bytes has no page further on
abbrev pub action_for : List PlanEntry → ℕ → ℕ → Row → MapAction
action_for plan party call row = if row.page == 0 then action.Ask else map_action_of plan party call

-- the mapping calls of a participant at which a row may fail, and how: those that the plan names, where the other mapper is steady; else it
-- may fail at any, and in any way
abbrev pub may_fail_by : List PlanEntry → ℕ → Option (List FailingCall) → Option (List FailingCall)
may_fail_by plan party None = None
may_fail_by plan party (Some []) = Some (planned_calls plan party)
may_fail_by plan party (Some (call ∷ calls)) = None

-- over a mapper that is steady, a row may fail exactly at the calls that the plan names
abbrev pub FailsByPlan : List PlanEntry → ℕ → Option (List FailingCall) → Type 0
FailsByPlan plan party other_may_fail = IsSteady other_may_fail → (call : ℕ)
    → may_fail_at (may_fail_by plan party other_may_fail) call ≡ plans_mapping plan party call

-- the answer where the plan has that: it is refused, it comes out one page further on, or the other mapper answers
abbrev pub IsPlannedAnswer : MapAction → Row → MapAnswer → List MapAnswer → List MapAnswer → Type 0
IsPlannedAnswer (action.Refuse line) row answer asked asked' = (answer ≡ Refused) × (asked' ≡ asked)
IsPlannedAnswer (action.Elsewhere line) row answer asked asked' = (answer ≡ next_place row) × (asked' ≡ asked)
IsPlannedAnswer action.Ask row answer asked asked' = asked' ≡ asked ++ answer ∷ []

-- of the mapping of rows, of which the first is mapped by the call of that number and each other one by the next, the plan has nothing
abbrev pub AreAsked : List PlanEntry → ℕ → ℕ → List Row → Type 0
AreAsked plan party call [] = ⊤
AreAsked plan party call (row ∷ rows) = (action_for plan party call row ≡ action.Ask) × AreAsked plan party (call + 1) rows

-- the mapper after the other one has mapped rows, each at its own place
abbrev pub after_mapping : PlannedView → List Row → PlannedView
after_mapping mapper rows = record mapper {
  held = mapper.held ++ owned rows;
  answers = mapper.answers ++ map own_place rows;
  asked = mapper.asked ++ map own_place rows;
}

-- the mapper without rows
abbrev pub after_unmapping : PlannedView → List Row → PlannedView
after_unmapping mapper gone = record mapper { held = without_rows gone mapper.held }
