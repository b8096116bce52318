-- What a search for runs knows part of the way, and its steps.
use Rattle.std.proofs.Common.{◌≡◌, ℕ, ◌+◌, ◌-◌, ◌<◌, ◌≤◌, max, min, Bool, true, false, List, length, get_or, arith, inl, inr}
use Rattle.std.proofs.lemmas.Bool.{cases_lt}
use Rattle.std.proofs.lemmas.List.{get_or_default, get_or_past}
use Rattle.hp_fbarray.specs.Mask.{IsClear, IsUsed, IsFreeRun, IsFirstFreeRun, HasNoUsed}
use Rattle.hp_fbarray.specs.Searches.{IsNextPlace, IsTooShort}
use Rattle.hp_fbarray.proofs.FreeRunLemmas.{shorter_run}

-- no place of the mask is both used and clear
not_both : (mask : List Bool) (place : ℕ) → place < length mask → IsUsed mask place
    → ¬ IsClear mask place
not_both mask place inside used clear =
    let same : get_or mask place true ≡ get_or mask place false
    = get_or_default mask place true false inside in
    cc

-- a used place lies in no run of clear ones
used_in_no_run : (mask : List Bool) (start n place : ℕ) → IsUsed mask place → start ≤ place
    → place < start + n → ¬ IsFreeRun mask start n
used_in_no_run mask start n place used after before run =
    not_both mask place (omega (arith, run.within)) used (run.clear place after before)

-- no run that begins from `from` up to `place` is longer than `longest`, which is shorter than n and found
pub record SeeksRun (mask : List Bool) (from n longest place : ℕ) : Type 0 where
  pub not_before : from ≤ place
  pub shorter : longest < n
  pub found : (start : ℕ) × (from ≤ start) × IsFreeRun mask start longest
  pub no_longer : (start len : ℕ) → from ≤ start → start < place → IsFreeRun mask start len → len ≤ longest

-- the clear places from the next clear one up to the used one after it, or up to n of them
stretch : (mask : List Bool) (start n end : ℕ) → start ≤ length mask
    → IsNextPlace mask start (start + min n (length mask - start)) true end
    → IsFreeRun mask start (end - start)
stretch mask start n end inside next = record {
  within = omega (arith, next.within, next.not_before);
  clear = λ place after before. next.passed place after (omega arith);
}

-- a run that begins before the end of a stretch that is too short is no longer than it, or was seen before
no_run_over : (mask : List Bool) (from n longest place start end : ℕ)
    → SeeksRun mask from n longest place → IsNextPlace mask place (length mask) false start
    → IsNextPlace mask start (start + min n (length mask - start)) true end → end - start < n
    → (begin len : ℕ) → from ≤ begin → begin < end → IsFreeRun mask begin len → len ≤ max longest (end - start)
no_run_over mask from n longest place start end seeks clear used short begin len after before run =
    elim (cases_lt begin place) [
      | inl old ↦ omega (arith, seeks.no_longer begin len after old run)
      | inr new ↦
          elim (cases_lt begin start) [
            | inl passed ↦
                elim (cases_lt 0 len) [
                  | inl some ↦
                      absurd
                      (used_in_no_run mask begin len begin (clear.passed begin new passed) (omega arith) (omega arith) run)
                  | inr none ↦ omega arith
                ]
            | inr inside ↦
                elim (cases_lt end (begin + len)) [
                  | inl over ↦
                      absurd
                      (used_in_no_run mask begin len end (used.here (omega (arith, run.within, used.not_before))) (omega arith) over run)
                  | inr fits ↦ omega arith
                ]
          ]
    ]

-- a stretch that is too short was passed
pub SeeksRun-stretch : (mask : List Bool) (from n longest place start end : ℕ)
    → SeeksRun mask from n longest place → IsNextPlace mask place (length mask) false start
    → IsNextPlace mask start (start + min n (length mask - start)) true end → end - start < n
    → SeeksRun mask from n (max longest (end - start)) end
SeeksRun-stretch mask from n longest place start end seeks clear used short = record {
  not_before = omega (arith, seeks.not_before, clear.not_before, used.not_before);
  shorter = omega (arith, seeks.shorter);
  found = elim (cases_lt longest (end - start)) [
    | inl longer ↦
        let is : max longest (end - start) ≡ end - start = omega arith in
        rw is (start, omega (arith, seeks.not_before, clear.not_before), stretch mask start n end clear.within used)
    | inr not_longer ↦
        let is : max longest (end - start) ≡ longest = omega arith in
        rw is seeks.found
  ];
  no_longer = no_run_over mask from n longest place start end seeks clear used short;
}

-- the start of a stretch that is long enough is the first
pub IsFirstFreeRun-stretch : (mask : List Bool) (from n longest place start end : ℕ)
    → SeeksRun mask from n longest place → IsNextPlace mask place (length mask) false start
    → IsNextPlace mask start (start + min n (length mask - start)) true end → n ≤ end - start
    → IsFirstFreeRun mask from n start
IsFirstFreeRun-stretch mask from n longest place start end seeks clear used long = record {
  not_before = omega (arith, seeks.not_before, clear.not_before);
  free = shorter_run mask start (end - start) n (stretch mask start n end clear.within used) long;
  least = λ earlier after before run. elim (cases_lt earlier place) [
    | inl old ↦ absurd (omega (arith, seeks.shorter, seeks.no_longer earlier n after old run))
    | inr new ↦
        used_in_no_run mask earlier n earlier (clear.passed earlier new before) (omega arith)
        (omega (arith, seeks.shorter)) run
  ];
}

-- at the end no run was long enough
pub IsTooShort-at_end : (mask : List Bool) (from n longest place : ℕ)
    → SeeksRun mask from n longest place → length mask ≤ place → IsTooShort mask from n longest
IsTooShort-at_end mask from n longest place seeks ended = record {
  shorter = seeks.shorter;
  is_longest = record {
    start = seeks.found.0;
    not_before = seeks.found.1;
    found = seeks.found.2;
    no_longer = λ longer more. record {
      nowhere = λ start after run. elim (cases_lt start place) [
        | inl old ↦ absurd (omega (arith, seeks.no_longer start longer after old run))
        | inr past ↦ absurd (omega (arith, run.within))
      ];
    };
  };
}

-- with no used place before the end there is none
pub HasNoUsed-behind : (mask : List Bool) (from place : ℕ) → IsNextPlace mask from (length mask) true place
    → length mask ≤ place → HasNoUsed mask from
HasNoUsed-behind mask from place next ended = record {
  nowhere = λ other later used. elim (cases_lt other (length mask)) [
    | inl inside ↦ not_both mask other inside used (next.passed other later (omega arith))
    | inr past ↦
        let none : get_or mask other false ≡ false = get_or_past mask other false past in
        cc
  ];
}
