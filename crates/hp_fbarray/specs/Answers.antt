-- What the answer of a search for a run says.
use Rattle.std.specs.Prelude.{ℕ, ⊤, List, Bool, Option, Some, None}
use Rattle.hp_fbarray.specs.declared.free_run.FreeRun.{FreeRun}
use Rattle.hp_fbarray.specs.declared.free_run.FreeRun.TheVariants.{Found, TooShort}
use Rattle.hp_fbarray.specs.FreeRuns.{first_free_run, longest_free_run}

-- what holds of the start that was found
abbrev pub IfFound : FreeRun → (ℕ → Type 0) → Type 0
IfFound (Found start) P = P start
IfFound (TooShort longest) P = ⊤

-- what holds of the longest length, where no run is long enough
abbrev pub IfTooShort : FreeRun → (ℕ → Type 0) → Type 0
IfTooShort (Found start) P = ⊤
IfTooShort (TooShort longest) P = P longest

-- the first run, or the length of the longest where there is none
abbrev pub run_or_longest : Option ℕ → ℕ → FreeRun
run_or_longest (Some start) longest = Found start
run_or_longest None longest = TooShort longest

-- the first free run of n places of a mask, or the length of the longest free stretch
abbrev pub free_run : List Bool → ℕ → FreeRun
free_run mask n = run_or_longest (first_free_run mask 0 n) (longest_free_run mask)
