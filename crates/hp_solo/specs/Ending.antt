-- What the participants of a hall of one thread leave at the end of a run: the rule "Ending" of docs/RUNS.md.
use Rattle.std.specs.Prelude.{◌≡◌, ℕ, ◌<◌, Bool, List, length, Option, Some, is_none, IsSome, IsSomeAnd, slice_get}
use Rattle.std.specs.List.{list_any}
use Rattle.hp_base.specs.Telling.{Listener}
use Rattle.hp_events.specs.Watchers.{WatchersView}
use Rattle.hp_maps.specs.declared.table.Table.{Table}
use Rattle.hp_serve.specs.Ending.{LeavesTable}
use Rattle.hp_serve.specs.Party.{Party}
use Rattle.hp_solo.specs.Solo.{AloneView, party_at}

-- one that is there leaves this table
abbrev pub LeavesThere : Option Party → Table → Type 0
LeavesThere party table = IsSomeAnd party (λ there. LeavesTable there table)

-- one that is there leaves its watchers, each with what it was told
abbrev pub LeavesListeners : Option Party → List Listener → Type 0
LeavesListeners party listeners = IsSomeAnd party (λ there. listeners ≡ there.listeners)

-- one of the participants of a hall is away
abbrev pub has_absent : List AloneView → Bool
has_absent servers = list_any (λ server. is_none server.party) servers

-- each of them is there
abbrev pub AreThere : List AloneView → Type 0
AreThere servers = (who : ℕ) → who < length servers → IsSome (party_at servers who)

-- they leave these tables, by number
pub record LeaveTables (servers : List AloneView) (tables : List Table) : Type 0 where
  pub count : length tables ≡ length servers
  pub each : (who : ℕ) (table : Table) → slice_get tables who ≡ Some table → LeavesThere (party_at servers who) table

-- they leave these watchers, by number
pub record LeaveWatchers (servers : List AloneView) (watchers : List WatchersView) : Type 0 where
  pub count : length watchers ≡ length servers
  pub each : (who : ℕ) (own : WatchersView) → slice_get watchers who ≡ Some own → LeavesListeners (party_at servers who) own.listeners
