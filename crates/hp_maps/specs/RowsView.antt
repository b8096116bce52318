-- What contracts see of the rows of a table, and when no slot of theirs has two. No public clause cites this module.
use Rattle.std.specs.Prelude.{◌≡◌, ℕ, ◌+◌, ◌<◌, ◌≤◌, Bool, true, false, not, ◌&&◌, List, [], filter, length, take, drop, get_or, count_by}
use Rattle.std.specs.List.{All}
use Rattle.hp_base.specs.Mapping.{AreAdjacent, Held, owned, without_rows}
use Rattle.hp_base.specs.declared.row.Row.{Row}
use Rattle.hp_base.specs.declared.row.Run.{Run}
use Rattle.hp_log.specs.Rows.{at_slot, in_run}
use Rattle.hp_maps.specs.MapsView.{is_of_log}

-- the rows, and for how many there is memory
pub record RowsView : Type 0 where
  pub items : List Row
  pub memory : ℕ

-- there are none, with memory for so many
abbrev pub AreNone : ℕ → RowsView → Type 0
AreNone capacity rows = (rows.items ≡ []) × (capacity ≤ rows.memory)

-- a row of the log that stands at one of the run's slots, so that a Drop of the run takes it
abbrev pub goes_with : Run → Row → Bool
goes_with run row = in_run run row && is_of_log row

-- no slot has two rows of the log
abbrev pub HaveOwnSlots : List Row → Type 0
HaveOwnSlots rows = (list slot : ℕ) → count_by (λ row. at_slot list slot row && is_of_log row) rows ≤ 1

-- as many rows as a run has slots stand next to each other from a place on, and all of them go with it
pub record StandTogether (run : Run) (rows : List Row) (at : ℕ) : Type 0 where
  pub within : at + run.count ≤ length rows
  pub all : All (λ row. goes_with run row ≡ true) (take run.count (drop at rows))

-- of the rows some that go with a run may lack among those that are held: once those that go are unmapped, the others are held
abbrev pub LacksGoing : Run → List Row → List Held → Type 0
LacksGoing run rows held = without_rows (filter (goes_with run) rows) held ≡ owned (filter (λ row. not (goes_with run row)) rows)

-- so many adjacent rows, of which the first is the first of these rows, go with a run
abbrev pub MayGoAtOnce : Run → List Row → ℕ → Type 0
MayGoAtOnce run rows most = (some : ℕ) → some ≤ most → AreAdjacent (take some rows) → All (λ row. goes_with run row ≡ true) (take some rows)

-- a row that passes stands at that place
pub record IsOneAt (passes : Row → Bool) (rows : List Row) (at : ℕ) : Type 0 where
  pub within : at < length rows
  pub there : (d : Row) → passes (get_or rows at d) ≡ true

-- no row passes at the places from one on up to another
abbrev pub IsNoneBetween : (Row → Bool) → List Row → ℕ → ℕ → Type 0
IsNoneBetween passes rows from to = (at : ℕ) → from ≤ at → at < to → (d : Row) → passes (get_or rows at d) ≡ false
