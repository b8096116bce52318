-- Laws of free runs: a shorter one lies in a longer, and no run is longer than the longest.
use Rattle.std.proofs.Common.{ℕ, ◌<◌, ◌≤◌, Bool, List, arith, inl, inr}
use Rattle.std.proofs.lemmas.Bool.{cases_lt}
use Rattle.hp_fbarray.specs.Mask.{IsFreeRun, HasNoFreeRun, IsLongestFree}

-- a shorter run begins where a longer one does
pub shorter_run : (mask : List Bool) (start n shorter : ℕ) → IsFreeRun mask start n → shorter ≤ n
    → IsFreeRun mask start shorter
shorter_run mask start n shorter run less = record {
  within = omega (arith, run.within);
  clear = λ place after before. run.clear place after (omega arith);
}

-- no run is longer than the longest
pub run_within_longest : (mask : List Bool) (start n longest : ℕ) → IsFreeRun mask start n
    → IsLongestFree mask longest → n ≤ longest
run_within_longest mask start n longest run is_longest =
    elim (cases_lt longest n) [
      | inl longer ↦ absurd ((is_longest.no_longer n longer).nowhere start (omega arith) run)
      | inr within ↦ within
    ]

-- where there is no run of n, the longest is shorter
pub longest_below : (mask : List Bool) (n longest : ℕ) → HasNoFreeRun mask 0 n
    → IsLongestFree mask longest → longest < n
longest_below mask n longest none is_longest =
    elim (cases_lt longest n) [
      | inl below ↦ below
      | inr fits ↦
          absurd
          (none.nowhere is_longest.found.0 (omega arith) (shorter_run mask is_longest.found.0 longest n is_longest.found.1 fits))
    ]
