-- How plan lines are kept. No public clause cites this module.
use Rattle.std.specs.Prelude.{◌≡◌, List}
use Rattle.std.specs.HashSet.{HashSet, contains}
use Rattle.std.specs.declared.hash.FoldHasher.{FoldHasher}
use Rattle.std.specs.declared.hash.BuildHasherDefault.{BuildHasherDefault}
use Rattle.hp_base.specs.declared.plan_entry.PlanEntry.{PlanEntry}
use Rattle.hp_script.specs.Counts.{is_event, is_planned}
use Rattle.hp_script.specs.declared.event.Event.{Event}

-- the set has exactly the events that the plan lines disturb
pub record IsIndex (events : HashSet Event (BuildHasherDefault FoldHasher)) (entries : List PlanEntry) : Type 0 where
  pub same : (event : Event) → contains is_event events event ≡ is_planned entries event
