-- Runs at the front of a list, and runs of the places after one or from one on.
use Rattle.std.proofs.Common.{not, ◌≡◌, ℕ, zero, suc, ◌+◌, ◌-◌, ◌<◌, ◌≤◌, Bool, true, List, ◌∷◌, length, drop, get_or, arith, inl, inr}
use Rattle.std.proofs.lemmas.Bool.{cases_lt}
use Rattle.std.proofs.lemmas.List.{get_or-drop, length-drop}
use Rattle.std.proofs.lemmas.List.Sums.{prefix_len-le-length, fails_before_first, passes_at_first}
use Rattle.hp_fbarray.specs.Mask.{IsClear, IsFreeRun}
use Rattle.hp_fbarray.specs.FreeRuns.{leading_free}

-- as many places as are clear before the first used one make a run at the front
pub front_run : (mask : List Bool) (n : ℕ) → n ≤ leading_free mask → IsFreeRun mask 0 n
front_run mask n fits = record {
  within = omega (arith, prefix_len-le-length (λ used. not used) mask);
  clear = λ place _ before. fails_before_first (λ used. used) mask place true (omega arith);
}

-- and no more do
pub front_run_ends : (mask : List Bool) (n : ℕ) → IsFreeRun mask 0 n → n ≤ leading_free mask
front_run_ends mask n run =
    elim (cases_lt (leading_free mask) n) [
      | inl shorter ↦
          let used : get_or mask (leading_free mask) true ≡ true
          = passes_at_first (λ used. used) mask true (omega (arith, run.within)) in
          let clear : IsClear mask (leading_free mask)
          = run.clear (leading_free mask) (omega arith) (omega arith) in
          cc
      | inr fits ↦ fits
    ]

-- the places of a run in the rest of a list are clear one place on in the list
clear_up : (used : Bool) (rest : List Bool) (start n : ℕ) → IsFreeRun rest start n
    → (place : ℕ) → suc start ≤ place → place < suc start + n → IsClear (used ∷ rest) place
clear_up used rest start n run zero after before = absurd (omega arith)
clear_up used rest start n run (suc place) after before =
    run.clear place (omega arith) (omega arith)

-- a run in the rest of a list is a run one place on in the list
pub run_up : (used : Bool) (rest : List Bool) (start n : ℕ) → IsFreeRun rest start n
    → IsFreeRun (used ∷ rest) (suc start) n
run_up used rest start n run = record {
  within = omega (arith, run.within);
  clear = clear_up used rest start n run;
}

-- and the other way round
pub run_down : (used : Bool) (rest : List Bool) (start n : ℕ) → IsFreeRun (used ∷ rest) (suc start) n
    → IsFreeRun rest start n
run_down used rest start n run = record {
  within = omega (arith, run.within);
  clear = λ place after before. run.clear (suc place) (omega arith) (omega arith);
}

-- the places from `from` on have the runs of the mask that begin there
pub run_after : (mask : List Bool) (from start n : ℕ) → from ≤ length mask
    → IsFreeRun mask (from + start) n → IsFreeRun (drop from mask) start n
run_after mask from start n inside run = record {
  within = rw length-drop (omega (arith, run.within));
  clear = λ place after before.
      rw get_or-drop (run.clear (from + place) (omega arith) (omega arith));
}

-- and the other way round
pub run_before : (mask : List Bool) (from start n : ℕ) → from ≤ length mask
    → IsFreeRun (drop from mask) start n → IsFreeRun mask (from + start) n
run_before mask from start n inside run = record {
  within = omega (arith, run.within, length-drop from mask);
  clear = λ place after before.
      let there : IsClear (drop from mask) (place - from)
      = run.clear (place - from) (omega arith) (omega arith) in
      let same : get_or (drop from mask) (place - from) true ≡ get_or mask (from + (place - from)) true
      = get_or-drop from mask (place - from) true in
      let back : from + (place - from) ≡ place = omega arith in
      cc;
}
