-- What each step of the board tells the seat that makes it: the rule "Steps" of docs/BOARD.md.
use Rattle.std.specs.Prelude.{◌≡◌, ◌≢◌, ℕ, ◌<◌, ◌≤◌, ◌^◌, ◌∷◌, Option, Some}
use Rattle.atomic_table.specs.Table.{Me, Step, rest}
use Rattle.hp_heap.specs.History.{entries_of}
use Rattle.hp_log.specs.Log.{IsWellFormed}
use Rattle.hp_hall.specs.Values.{history_of}
use Rattle.hp_hall.specs.declared.kept.Kept.{Kept}
use Rattle.hp_board.specs.Agreement.{AgreesFrom}
use Rattle.hp_board.specs.Handed.{HasTakenOut, IsHanded, IsHeldWord}
use Rattle.hp_board.specs.Knowing.{HasMappedHeld}
use Rattle.hp_board.specs.Parts.{one_part, part_of}
use Rattle.hp_board.specs.Views.{
  after_acking,
  after_give,
  after_load,
  after_look,
  after_lookup,
  after_telling,
  after_unmapping,
  lines_known,
  lines_told,
  made_in,
  noted_of,
  value_of,
}
use Rattle.hp_board.specs.Words.{ack_word, done_word}
use Rattle.hp_board.specs.declared.view.Mine.{Mine}
use Rattle.hp_board.specs.declared.view.View.{View}

-- a view, and the slots that are out with its seat
abbrev pub Sat : Type 0
Sat = Me (Option Kept) View

-- the slot's value went to the seat, which learns of it
pub record Takes (before : Sat) (slot : ℕ) (after : Sat) : Type 0 where
  pub kept : Kept
  pub view : Mine
  pub taken : HasTakenOut slot kept (part_of before.0) view
  pub handed : IsHanded (part_of before.0) slot kept view
  pub out : after ≡ (one_part view, (slot, Some kept) ∷ before.1)

-- the slot's lock word was found held, and nothing changed but that this is noted
pub record Looks (before : Sat) (slot word : ℕ) (after : Sat) : Type 0 where
  pub held : IsHeldWord (part_of before.0) slot word
  pub noted : after ≡ (one_part (after_look slot word (part_of before.0)), before.1)

-- a try of a slot's lock word, by the word that it found
pub record Tries (step : Step (Option Kept)) (before : Sat) (found : ℕ) (after : Sat) : Type 0 where
  pub free : found ≡ 0 → Takes before step.word after
  pub held : found ≢ 0 → Looks before step.word found after

-- a value went home to a slot; rows became agreed in it only by numbers that the giver has loaded; its entries of the giver are those that
-- this one made there; and where the giver is in the roster, its own table has the pages of the heaps that it still holds
pub record WentHome (before : Sat) (slot : ℕ) (kept : Kept) (after : Sat) : Type 0 where
  pub given : after ≡ (one_part (after_give slot kept (part_of before.0)), rest before.1)
  pub agreed : AgreesFrom (part_of before.0) (value_of slot (part_of before.0).held) kept
  pub own : entries_of (part_of before.0).who (history_of kept) ≡ made_in slot (after_give slot kept (part_of before.0))
  pub mapped : HasMappedHeld (after_give slot kept (part_of before.0))

-- the value that the seat had for the slot went home
pub record Gave (step : Step (Option Kept)) (before : Sat) (found : ℕ) (after : Sat) : Type 0 where
  pub home : (kept : Kept) → before.1 ≡ (step.word, Some kept) ∷ rest before.1 → WentHome before step.word kept after

-- the stored number of records is acknowledged; what was seen of the log is well formed
pub record Acks (step : Step (Option Kept)) (before : Sat) (found : ℕ) (after : Sat) : Type 0 where
  pub acked : after ≡ (one_part (after_acking step.first (part_of before.0)), before.1)
  pub formed : IsWellFormed (part_of before.0).log

-- the participant has unmapped what the records that it has seen drop
pub record Unmaps (step : Step (Option Kept)) (before : Sat) (found : ℕ) (after : Sat) : Type 0 where
  pub unmapped : after ≡ (one_part (after_unmapping (part_of before.0)), before.1)

-- the number of a participant is noted; it is not below what was known, and one's own is as it was known
pub record HasLoaded (before : Sat) (from found : ℕ) (after : Sat) : Type 0 where
  pub loaded : after ≡ (one_part (after_load from found (part_of before.0)), before.1)
  pub rises : noted_of from (part_of before.0) ≤ found
  pub own : from ≡ (part_of before.0).who → found ≡ (part_of before.0).number

-- a load of a participant's word
pub record Loads (step : Step (Option Kept)) (before : Sat) (found : ℕ) (after : Sat) : Type 0 where
  pub told : (from : ℕ) → step.word ≡ ack_word from → HasLoaded before from found after

-- so many lines are told to be done
pub record Tells (step : Step (Option Kept)) (before : Sat) (found : ℕ) (after : Sat) : Type 0 where
  pub told : after ≡ (one_part (after_telling step.first (part_of before.0)), before.1)

-- the number of lines of a participant is looked up; it is not below what was known, and one's own is as it was told
pub record HasLookedUp (before : Sat) (from found : ℕ) (after : Sat) : Type 0 where
  pub looked : after ≡ (one_part (after_lookup from found (part_of before.0)), before.1)
  pub few : found < 2 ^ 32
  pub rises : lines_known from (part_of before.0) ≤ found
  pub own : from ≡ (part_of before.0).who → found ≡ lines_told (part_of before.0)

-- a load of a participant's done word
pub record LooksUp (step : Step (Option Kept)) (before : Sat) (found : ℕ) (after : Sat) : Type 0 where
  pub told : (from : ℕ) → step.word ≡ done_word from → HasLookedUp before from found after
