-- Lock words and holders: the part "Locks" of the rule in docs/BOARD.md.
use Rattle.std.specs.Prelude.{◌≡◌, ℕ, ◌+◌, ◌<◌, ◌≤◌, ◌==◌, List, Option, Some, None, slice_index, if◌then◌else◌}
use mathlib.Core.Option.{some}
use mathlib.Core.Option as maybe
use lib.ListN.{get_elem?}
use Rattle.hp_hall.specs.declared.kept.Kept.{Kept}
use Rattle.hp_board.specs.declared.words.TheConstants.{SLOTS}
use Rattle.hp_board.specs.declared.view.Mine.{Mine}
use Rattle.hp_board.specs.Views.{value_of}

-- what a participant holds of a slot, by the slot's lock word: the value, where the word is its number plus 1
abbrev pub held_by : ℕ → ℕ → Kept → Option Kept
held_by who word kept = if word == who + 1 then Some kept else None

-- the slots of the table: each has its value where it is at home
abbrev pub Homes : Type 0
Homes = List (maybe.Option (Option Kept))

-- A lock word is 0 or a participant's number plus 1. Where it is 0, the slot is at home with its value. A participant holds
-- a slot, with its value as it was taken, exactly where the word is its number plus 1.
pub record AreLocked (participants : ℕ) (words : List ℕ) (homes : Homes) (kept : ℕ → Kept) (mine : ℕ → Mine) : Type 0 where
  pub low : (slot : ℕ) → slot < SLOTS → slice_index words slot ≤ participants
  pub home : (slot : ℕ) → slot < SLOTS → slice_index words slot ≡ 0
      → get_elem? homes slot ≡ some (some (Some (kept slot)))
  pub held : (who slot : ℕ) → who < participants → slot < SLOTS
      → value_of slot (mine who).held ≡ held_by who (slice_index words slot) (kept slot)
