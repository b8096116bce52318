-- The values of FreeRuns are the first run of a mask and the length of its longest stretch.
use Rattle.std.proofs.Common.{◌==◌, ◌≡◌, ℕ, zero, suc, ◌+◌, ◌-◌, ◌<◌, ◌≤◌, max, Bool, true, false, List, [], ◌∷◌, length, drop, Option, Some, None, IfSome, IfNone, MatchOption, refl, ap, arith, inl, inr}
use Rattle.std.proofs.lemmas.Bool.{cases_lt, le-leb, lt-leb}
use Rattle.std.proofs.lemmas.Bool.Decides.{nat_tests}
use Rattle.hp_fbarray.proofs.FreeRunLemmas.{run_within_longest}
use Rattle.hp_fbarray.specs.Mask.{IsFreeRun, HasNoFreeRun, IsFirstFreeRun, IsLongestFree}
use Rattle.hp_fbarray.specs.FreeRuns.{leading_free, run_from, first_free_run, longest_free_run}
use Rattle.hp_fbarray.proofs.RunMoves.{front_run, front_run_ends, run_up, run_down, run_after, run_before}

-- a run that begins at the front is the first
first_at_front : (mask : List Bool) (n : ℕ) → n ≤ leading_free mask → IsFirstFreeRun mask 0 n 0
first_at_front mask n fits = record {
  not_before = omega arith;
  free = front_run mask n fits;
  least = λ earlier _ before _. absurd (omega arith);
}

-- with no run at the front and none in the rest there is none
nowhere_behind : (used : Bool) (rest : List Bool) (n : ℕ) → leading_free (used ∷ rest) < n
    → HasNoFreeRun rest 0 n → (start : ℕ) → 0 ≤ start → ¬ IsFreeRun (used ∷ rest) start n
nowhere_behind used rest n short none zero _ run =
    absurd (omega (arith, front_run_ends (used ∷ rest) n run))
nowhere_behind used rest n short none (suc start) _ run =
    none.nowhere start (omega arith) (run_down used rest start n run)

-- with no run at the front the first of the rest is the first
least_behind : (used : Bool) (rest : List Bool) (n start : ℕ) → leading_free (used ∷ rest) < n
    → IsFirstFreeRun rest 0 n start
    → (earlier : ℕ) → 0 ≤ earlier → earlier < suc start → ¬ IsFreeRun (used ∷ rest) earlier n
least_behind used rest n start short is_first zero _ before run =
    absurd (omega (arith, front_run_ends (used ∷ rest) n run))
least_behind used rest n start short is_first (suc earlier) _ before run =
    is_first.least earlier (omega arith) (omega arith) (run_down used rest earlier n run)

-- the first run of a list whose places are numbered from `first` on begins at this place
abbrev BeginsAt : List Bool → ℕ → ℕ → ℕ → Type 0
BeginsAt mask first n place =
    (start : ℕ) × (place ≡ first + start) × IsFirstFreeRun mask 0 n start

-- with no run at the front, what holds of the rest holds of the list
holds_behind : (used : Bool) (rest : List Bool) (first n : ℕ) (answer : Option ℕ)
    → leading_free (used ∷ rest) < n
    → MatchOption answer (HasNoFreeRun rest 0 n) (BeginsAt rest (first + 1) n)
    → MatchOption answer (HasNoFreeRun (used ∷ rest) 0 n) (BeginsAt (used ∷ rest) first n)
holds_behind used rest first n None short none = record { nowhere = nowhere_behind used rest n short none }
holds_behind used rest first n (Some place) short begins = (
  suc begins.0,
  omega arith,
  record {
    not_before = omega arith;
    free = run_up used rest begins.0 n begins.2.free;
    least = least_behind used rest n begins.0 short begins.2;
  },
)

-- the value of run_from is the first run of such a list
run_from-holds : (mask : List Bool) (first n : ℕ)
    → MatchOption (run_from first mask n) (HasNoFreeRun mask 0 n) (BeginsAt mask first n)
run_from-holds [] first n =
    elim (cases_lt 0 n) [
      | inl some ↦
          let unequal : (n == 0) ≡ false = grind (arith, nat_tests) in
          rw unequal (record { nowhere = λ start _ run. absurd (omega (arith, run.within)) })
      | inr none ↦
          let equal : (n == 0) ≡ true = grind (arith, nat_tests) in
          rw equal (0, omega arith, first_at_front [] n (omega arith))
    ]
run_from-holds (used ∷ rest) first n =
    elim (cases_lt (leading_free (used ∷ rest)) n) [
      | inl short ↦
          rw (lt-leb n (leading_free (used ∷ rest)) short)
          (holds_behind used rest first n (run_from (first + 1) rest n) short (run_from-holds rest (first + 1) n))
      | inr fits ↦
          rw (le-leb n (leading_free (used ∷ rest)) fits)
          (0, omega arith, first_at_front (used ∷ rest) n fits)
    ]

-- what holds of the places from `from` on holds of the mask
holds_from : (mask : List Bool) (from n : ℕ) (answer : Option ℕ) → from ≤ length mask
    → MatchOption answer (HasNoFreeRun (drop from mask) 0 n) (BeginsAt (drop from mask) from n)
    → MatchOption answer (HasNoFreeRun mask from n) (IsFirstFreeRun mask from n)
holds_from mask from n None inside none = record {
  nowhere = λ start later run.
      let back : from + (start - from) ≡ start = omega arith in
      none.nowhere (start - from) (omega arith) (run_after mask from (start - from) n inside (rw back run));
}
holds_from mask from n (Some place) inside begins =
    rw begins.1
    (record {
      not_before = omega arith;
      free = run_before mask from begins.0 n inside begins.2.free;
      least = λ earlier later before run.
          let back : from + (earlier - from) ≡ earlier = omega arith in
          begins.2.least (earlier - from) (omega arith) (omega arith)
          (run_after mask from (earlier - from) n inside (rw back run));
    })

-- the value of first_free_run is the first run, or none where there is none
pub first_free_run-holds : (mask : List Bool) (from n : ℕ)
    → MatchOption (first_free_run mask from n) (HasNoFreeRun mask from n) (IsFirstFreeRun mask from n)
first_free_run-holds mask from n =
    elim (cases_lt (length mask) from) [
      | inl past ↦
          rw (lt-leb from (length mask) past)
          (record { nowhere = λ start later run. absurd (omega (arith, run.within)) })
      | inr inside ↦
          rw (le-leb from (length mask) inside)
          (holds_from mask from n (run_from from (drop from mask) n) inside (run_from-holds (drop from mask) from n))
    ]

-- there is one first run alone
first_run_is_one : (mask : List Bool) (from n start other : ℕ) → IsFirstFreeRun mask from n start
    → IsFirstFreeRun mask from n other → start ≡ other
first_run_is_one mask from n start other first second =
    elim (cases_lt start other) [
      | inl before ↦ absurd (second.least start first.not_before before first.free)
      | inr not_before ↦
          elim (cases_lt other start) [
            | inl behind ↦ absurd (first.least other second.not_before behind second.free)
            | inr not_behind ↦ omega arith
          ]
    ]

-- two answers that are the first run, or none where there is none, are one
same_answer : (mask : List Bool) (from n : ℕ) (answer value : Option ℕ)
    → IfSome answer (IsFirstFreeRun mask from n) → IfNone answer (HasNoFreeRun mask from n)
    → MatchOption value (HasNoFreeRun mask from n) (IsFirstFreeRun mask from n) → answer ≡ value
same_answer mask from n None None first none holds = refl
same_answer mask from n (Some start) (Some other) first none holds =
    ap Some (first_run_is_one mask from n start other first holds)
same_answer mask from n None (Some other) first none holds =
    absurd (none.nowhere other holds.not_before holds.free)
same_answer mask from n (Some start) None first none holds =
    absurd (holds.nowhere start first.not_before first.free)

-- such an answer is the value of first_free_run
pub is_first_free_run : (mask : List Bool) (from n : ℕ) (answer : Option ℕ)
    → IfSome answer (IsFirstFreeRun mask from n) → IfNone answer (HasNoFreeRun mask from n)
    → answer ≡ first_free_run mask from n
is_first_free_run mask from n answer first none =
    same_answer mask from n answer (first_free_run mask from n) first none (first_free_run-holds mask from n)

-- no run of the whole list is longer than that at its front and the longest of the rest
no_longer_run : (used : Bool) (rest : List Bool) (longer : ℕ)
    → IsLongestFree rest (longest_free_run rest)
    → max (leading_free (used ∷ rest)) (longest_free_run rest) < longer
    → (start : ℕ) → 0 ≤ start → ¬ IsFreeRun (used ∷ rest) start longer
no_longer_run used rest longer later more zero _ run =
    absurd (omega (arith, front_run_ends (used ∷ rest) longer run))
no_longer_run used rest longer later more (suc start) _ run =
    (later.no_longer longer (omega arith)).nowhere start (omega arith) (run_down used rest start longer run)

-- the value of longest_free_run is the longest stretch
pub longest_free_run-holds : (mask : List Bool) → IsLongestFree mask (longest_free_run mask)
longest_free_run-holds [] = record {
  found = (0, front_run [] 0 (omega arith));
  no_longer = λ longer more. record { nowhere = λ start _ run. absurd (omega (arith, run.within)) };
}
longest_free_run-holds (used ∷ rest) =
    let later : IsLongestFree rest (longest_free_run rest) = longest_free_run-holds rest in
    record {
      found = elim (cases_lt (longest_free_run rest) (leading_free (used ∷ rest))) [
        | inl longer ↦
            let is : max (leading_free (used ∷ rest)) (longest_free_run rest) ≡ leading_free (used ∷ rest) = omega arith in
            rw is (0, front_run (used ∷ rest) (leading_free (used ∷ rest)) (omega arith))
        | inr not_longer ↦
            let is : max (leading_free (used ∷ rest)) (longest_free_run rest) ≡ longest_free_run rest = omega arith in
            rw is (suc later.found.0, run_up used rest later.found.0 (longest_free_run rest) later.found.1)
      ];
      no_longer = λ longer more. record { nowhere = no_longer_run used rest longer later more };
    }

-- the longest stretch is one number
pub is_longest_free_run : (mask : List Bool) (n : ℕ) → IsLongestFree mask n
    → n ≡ longest_free_run mask
is_longest_free_run mask n is_longest =
    let value : IsLongestFree mask (longest_free_run mask) = longest_free_run-holds mask in
    let low : n ≤ longest_free_run mask
    = run_within_longest mask is_longest.found.0 n (longest_free_run mask) is_longest.found.1 value in
    let high : longest_free_run mask ≤ n
    = run_within_longest mask value.found.0 (longest_free_run mask) n value.found.1 is_longest in
    omega arith
