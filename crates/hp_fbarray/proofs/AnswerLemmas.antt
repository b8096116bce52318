-- The answers of a search for a run are the values of FreeRuns.
use Rattle.std.proofs.Common.{◌≡◌, ℕ, ◌∙◌, List, Bool, Option, Some, None, refl, ap}
use Rattle.hp_fbarray.specs.Answers.{free_run, run_or_longest, IfFound, IfTooShort}
use Rattle.hp_fbarray.specs.declared.free_run.FreeRun.{FreeRun}
use Rattle.hp_fbarray.specs.declared.free_run.FreeRun.TheVariants.{Found, TooShort}
use Rattle.hp_fbarray.specs.FreeRuns.{first_free_run, longest_free_run}
use Rattle.hp_fbarray.specs.Mask.{IsFirstFreeRun, IsLongestFree}
use Rattle.hp_fbarray.specs.Searches.{IsLongestFrom, IsTooShort}
use Rattle.hp_fbarray.proofs.RunValues.{is_first_free_run, is_longest_free_run}

-- the longest run from 0 on is the longest
longest_from_0 : (mask : List Bool) (n : ℕ) → IsLongestFrom mask 0 n → IsLongestFree mask n
longest_from_0 mask n longest = record {
  found = (longest.start, longest.found);
  no_longer = longest.no_longer;
}

-- where the longest run is too short there is none
pub none_if_short : (mask : List Bool) (from n longest : ℕ) → IsTooShort mask from n longest
    → None ≡ first_free_run mask from n
none_if_short mask from n longest short =
    is_first_free_run mask from n None tt (short.is_longest.no_longer n short.shorter)

-- the length of a longest run that is too short
pub longest_if_short : (mask : List Bool) (n longest : ℕ) → IsTooShort mask 0 n longest
    → longest ≡ longest_free_run mask
longest_if_short mask n longest short =
    is_longest_free_run mask longest (longest_from_0 mask longest short.is_longest)

-- an answer that is the first run, or else the longest length, is the value of free_run
pub is_free_run : (mask : List Bool) (n : ℕ) (answer : FreeRun)
    → IfFound answer (IsFirstFreeRun mask 0 n) → IfTooShort answer (IsTooShort mask 0 n)
    → answer ≡ free_run mask n
is_free_run mask n (Found start) first short =
    let value : Some start ≡ first_free_run mask 0 n
    = is_first_free_run mask 0 n (Some start) first tt in
    ap (λ run. run_or_longest run (longest_free_run mask)) value
is_free_run mask n (TooShort longest) first short =
    ap TooShort (longest_if_short mask n longest short)
    ∙ ap (λ run. run_or_longest run (longest_free_run mask)) (none_if_short mask 0 n longest short)

-- where an answer is that value and has found a run, it is the first
pub first_of_found : (run : Option ℕ) (longest start : ℕ) → Found start ≡ run_or_longest run longest
    → run ≡ Some start
first_of_found None longest start is = cc
first_of_found (Some first) longest start is = cc

-- and where it has found none, there is none
pub none_of_short : (run : Option ℕ) (longest short : ℕ) → TooShort short ≡ run_or_longest run longest
    → (run ≡ None) × (short ≡ longest)
none_of_short None longest short is = (refl, cc)
none_of_short (Some first) longest short is = cc
