-- Who watches a participant: the rule "Watchers" of docs/OUTSIDE.md.
use Rattle.std.specs.Prelude.{◌≡◌, ℕ, not, List, [], ◌∷◌, ◌++◌, filter, map}
use Rattle.hp_base.specs.Telling.{Listener}
use Rattle.hp_base.specs.declared.row.Row.{Row}
use Rattle.hp_events.specs.Watchers.{has_name}
use Rattle.hp_serve.specs.Party.{Party}

-- the names of watchers, in the order of their registration
abbrev pub names_of : List Listener → List (List ℕ)
names_of listeners = map (λ listener. listener.name) listeners

-- watchers with one more, which begins to listen at these rows and was told nothing
abbrev pub listeners_with : List ℕ → List Row → List Listener → List Listener
listeners_with name rows listeners = listeners ++ record { name = name; since = rows; events = [] } ∷ []

-- and without the one of that name
abbrev pub listeners_without : List ℕ → List Listener → List Listener
listeners_without name listeners = filter (λ listener. not (has_name name listener)) listeners

-- a participant with one watcher more, which has been told nothing beside the table as it is now
abbrev pub with_watcher : List ℕ → Party → Party
with_watcher name party = record party { listeners = listeners_with name party.maps.rows party.listeners }

-- a participant without the watcher of that name
abbrev pub without_watcher : List ℕ → Party → Party
without_watcher name party = record party { listeners = listeners_without name party.listeners }

-- while a participant serves its watchers stay: each has its name and the rows that were mapped at first, and hears more
pub record HearsOn (old new : Party) : Type 0 where
  pub names : names_of new.listeners ≡ names_of old.listeners
  pub since : map (λ listener. listener.since) new.listeners ≡ map (λ listener. listener.since) old.listeners
