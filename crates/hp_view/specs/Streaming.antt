-- What reading a source to its end gives.
use Rattle.std.specs.Prelude.{◌≡◌, ℕ, ◌+◌, ◌≤◌, Bool, true, false, List, [], length, Option, Result, Ok, Err}
use Rattle.std.specs.Option.{option_map}
use Rattle.hp_command.specs.Reading.{Took}
use Rattle.hp_view.specs.declared.input.ReadFault.{ReadFault}
use Rattle.hp_view.specs.declared.input.ReadFault.TheVariants as faults

-- the greatest number of bytes of an input
abbrev pub most_input : ℕ
most_input = 67108864

-- the source gave these bytes, no more than an input may have, and nothing is left
pub record GaveAll (old new : Option (List ℕ)) (bytes : List ℕ) : Type 0 where
  pub took : Took old new bytes
  pub nothing : new ≡ option_map (λ rest. []) new
  pub short : length bytes ≤ most_input

-- of the source exactly one byte more than an input may have was taken
pub record GaveTooMuch (old new : Option (List ℕ)) : Type 0 where
  pub bytes : List ℕ
  pub took : Took old new bytes
  pub long : length bytes ≡ most_input + 1

-- the source gave some bytes, and no more than an input may have
abbrev pub GaveSome : Option (List ℕ) → Option (List ℕ) → Type 0
GaveSome old new = (bytes : List ℕ) × Took old new bytes × (length bytes ≤ most_input)

-- what was taken where reading was given up
abbrev pub GaveUp : Option (List ℕ) → Option (List ℕ) → ReadFault → Type 0
GaveUp old new faults.Failed = GaveSome old new
GaveUp old new faults.TooLong = GaveTooMuch old new
GaveUp old new faults.OutOfMemory = (bytes : List ℕ) × Took old new bytes

-- reading failed
abbrev pub read_failed : {T : Type 0} → Result T ReadFault → Bool
read_failed (Ok bytes) = false
read_failed (Err faults.Failed) = true
read_failed (Err faults.TooLong) = false
read_failed (Err faults.OutOfMemory) = false
