-- What is told of memory that comes and goes: the rule "Telling" of docs/OUTSIDE.md.
use Rattle.std.specs.Prelude.{ℕ, List, [], ◌∷◌, ◌++◌, map}
use Rattle.hp_base.specs.declared.event.Event.{Event}
use Rattle.hp_base.specs.declared.row.Row.{Row}

-- one that listens: its name, the rows that were mapped when it began to, and the events that it was told since, in their order
pub record Listener : Type 0 where
  pub name : List ℕ
  pub since : List Row
  pub events : List Event

-- it was told an event more
abbrev pub hearing : Event → Listener → Listener
hearing event listener = record listener { events = listener.events ++ event ∷ [] }

-- each of them was told an event more ("Telling")
abbrev pub told_after : Event → List Listener → List Listener
told_after event listeners = map (hearing event) listeners
