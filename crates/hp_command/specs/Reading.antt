-- What reading a source to its end gives.
use Rattle.std.specs.Prelude.{◌≡◌, ℕ, ◌+◌, ◌≤◌, Bool, true, false, List, [], ◌++◌, length, Option, Result, Ok, Err}
use Rattle.std.specs.Option.{option_map}
use Rattle.hp_command.specs.declared.reading.ReadFault.{ReadFault}
use Rattle.hp_command.specs.declared.reading.ReadFault.TheVariants as faults
use Rattle.hp_command.specs.declared.reading.TheConstants.{LIMIT}

-- these bytes were taken of what was left, where that is told
abbrev pub Took : Option (List ℕ) → Option (List ℕ) → List ℕ → Type 0
Took old new bytes = old ≡ option_map (λ rest. bytes ++ rest) new

-- the source gave these bytes, no more than a workload may have, and nothing is left
pub record GaveAll (old new : Option (List ℕ)) (bytes : List ℕ) : Type 0 where
  pub took : Took old new bytes
  pub nothing : new ≡ option_map (λ rest. []) new
  pub short : length bytes ≤ LIMIT

-- of the source exactly one byte more than a workload may have was taken
pub record GaveTooMuch (old new : Option (List ℕ)) : Type 0 where
  pub bytes : List ℕ
  pub took : Took old new bytes
  pub long : length bytes ≡ LIMIT + 1

-- the source gave some bytes, and no more than a workload may have
abbrev pub GaveSome : Option (List ℕ) → Option (List ℕ) → Type 0
GaveSome old new = (bytes : List ℕ) × Took old new bytes × (length bytes ≤ LIMIT)

-- what was taken where reading was given up
abbrev pub GaveUp : Option (List ℕ) → Option (List ℕ) → ReadFault → Type 0
GaveUp old new faults.Failed = GaveSome old new
GaveUp old new faults.TooLong = GaveTooMuch old new
GaveUp old new faults.OutOfMemory = (bytes : List ℕ) × Took old new bytes

-- reading failed
abbrev pub read_failed : {T : Type 0} → Result T ReadFault → Bool
read_failed (Ok bytes) = false
read_failed (Err faults.Failed) = true
read_failed (Err faults.TooLong) = false
read_failed (Err faults.OutOfMemory) = false
