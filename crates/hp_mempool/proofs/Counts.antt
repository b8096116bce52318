-- How often a number stands in a list, and sums over the views of passes.
use Rattle.std.proofs.Common.{◌≡◌, ◌≢◌, ℕ, zero, suc, ◌+◌, ◌<◌, ◌≤◌, not, cond, eqb, eq-eqb, ltb, ne_eqb, List, [], ◌∷◌, ◌++◌, length, get_or, set, take, drop, refl, sym, ap, subst, ◌∙◌, inl, inr, arith}
use Rattle.std.specs.List.{All, sum_by}
use Rattle.std.proofs.lemmas.Bool.{cases_eq, cases_lt, cases_order, cond-true, cond-false, le-ltb, lt-ltb}
use Rattle.std.proofs.lemmas.List.{take-append-drop}
use Rattle.std.proofs.lemmas.List.Sums.{sum_by-append, sum_by-set, get_or-le-sum_by}
use Rattle.std.proofs.lemmas.List.Elements.{All-get_or}
use mathlib.Core.Option.{some, some-injective, some-ne-none}
use lib.ListN.{get_elem?}
use Rattle.hp_mempool.specs.Views.{once_below, times, without}

zero_plus : (n : ℕ) → 0 + n ≡ n
zero_plus n = omega arith

module _ {A : Type 0} (f : A → ℕ) where
  pub sum_by-cons : (x : A) (xs : List A) → sum_by f (x ∷ xs) ≡ f x + sum_by f xs
  sum_by-cons x xs = sum_by-append f (x ∷ []) xs ∙ ap (λ n. n + sum_by f xs) (zero_plus (f x))

  pub sum_by-push : (xs : List A) (x : A) → sum_by f (xs ++ x ∷ []) ≡ sum_by f xs + f x
  sum_by-push xs x = sum_by-append f xs (x ∷ []) ∙ ap (λ n. sum_by f xs + n) (zero_plus (f x))

-- what stands at a place
pub at_within : {A : Type 0} (xs : List A) (i : ℕ) (x : A) → get_elem? xs i ≡ some x → (i < length xs) × (get_or xs i x ≡ x)
at_within [] i x at = absurd (some-ne-none x (sym at))
at_within (y ∷ ys) zero x at = (omega arith, some-injective y x at)
at_within (y ∷ ys) (suc i) x at = let there = at_within ys i x at in let below = there.0 in (omega arith, there.1)

module _ {A : Type 0} (f : A → ℕ) (xs : List A) (i : ℕ) (x : A) (at : get_elem? xs i ≡ some x) where
  -- another element at its place changes a sum by their difference
  pub sum_set : (y : A) → sum_by f (set xs i y) + f x ≡ sum_by f xs + f y
  sum_set y = rw (at_within xs i x at).1 at (sum_by-set f xs i y x (at_within xs i x at).0)

  -- an element is within the sum
  pub within_sum : f x ≤ sum_by f xs
  within_sum = rw (at_within xs i x at).1 at (get_or-le-sum_by f xs i x (at_within xs i x at).0)

-- what was set at a place is no matter where that is set again
pub set_twice : {A : Type 0} (xs : List A) (i : ℕ) (x y : A) → set (set xs i x) i y ≡ set xs i y
set_twice [] i x y = refl
set_twice (z ∷ zs) zero x y = refl
set_twice (z ∷ zs) (suc i) x y = ap (λ rest. z ∷ rest) (set_twice zs i x y)

pub All_at : {A : Type 0} (P : A → Type 0) (xs : List A) (i : ℕ) (x : A) → get_elem? xs i ≡ some x → All P xs → P x
All_at P xs i x at all = rw (at_within xs i x at).1 at (All-get_or P xs i x (at_within xs i x at).0 all)

module _ (number : ℕ) where
  pub times-cons : (x : ℕ) (xs : List ℕ) → times number (x ∷ xs) ≡ cond (eqb x number) 1 0 + times number xs
  times-cons x xs = sum_by-cons (λ other. cond (eqb other number) 1 0) x xs

  pub times-push : (xs : List ℕ) (x : ℕ) → times number (xs ++ x ∷ []) ≡ times number xs + cond (eqb x number) 1 0
  times-push xs x = sum_by-push (λ other. cond (eqb other number) 1 0) xs x

pub times-first : (x : ℕ) (xs : List ℕ) → times x (x ∷ xs) ≡ 1 + times x xs
times-first x xs = times-cons x x xs ∙ ap (λ n. n + times x xs) (cond-true (eqb x x) 1 0 (eq-eqb x x refl))

pub times-append : (number : ℕ) (xs ys : List ℕ) → times number (xs ++ ys) ≡ times number xs + times number ys
times-append number xs ys = sum_by-append (λ other. cond (eqb other number) 1 0) xs ys

-- a list without a number does not have it, and has any other as often
pub times-without_it : (number : ℕ) (xs : List ℕ) → times number (without number xs) ≡ 0
times-without_it number [] = refl
times-without_it number (x ∷ xs) =
    elim (cases_eq x number) [
      | inl same ↦ ap (times number) (cond-false (not (eqb x number)) (x ∷ without number xs) (without number xs) (ap not (eq-eqb x number same)))
          ∙ times-without_it number xs
      | inr apart ↦ ap (times number) (cond-true (not (eqb x number)) (x ∷ without number xs) (without number xs) (ap not (ne_eqb x number apart)))
          ∙ times-cons number x (without number xs)
          ∙ ap (λ n. n + times number (without number xs)) (cond-false (eqb x number) 1 0 (ne_eqb x number apart))
          ∙ zero_plus (times number (without number xs))
          ∙ times-without_it number xs
    ]

pub times-without_other : (gone number : ℕ) (xs : List ℕ) → gone ≢ number → times number (without gone xs) ≡ times number xs
times-without_other gone number [] other = refl
times-without_other gone number (x ∷ xs) other =
    elim (cases_eq x gone) [
      | inl same ↦ ap (times number) (cond-false (not (eqb x gone)) (x ∷ without gone xs) (without gone xs) (ap not (eq-eqb x gone same)))
          ∙ times-without_other gone number xs other
          ∙ sym (times-cons number x xs
          ∙ ap (λ n. n + times number xs) (cond-false (eqb x number) 1 0 (ne_eqb x number (λ is. other (sym same ∙ is))))
          ∙ zero_plus (times number xs))
      | inr apart ↦ ap (times number) (cond-true (not (eqb x gone)) (x ∷ without gone xs) (without gone xs) (ap not (ne_eqb x gone apart)))
          ∙ times-cons number x (without gone xs)
          ∙ ap (λ n. cond (eqb x number) 1 0 + n) (times-without_other gone number xs other)
          ∙ sym (times-cons number x xs)
    ]

-- what a list has without a number, and that number as often as it has it
length-without : (gone : ℕ) (xs : List ℕ) → length (without gone xs) + times gone xs ≡ length xs
length-without gone [] = refl
length-without gone (x ∷ xs) =
    let rest = length-without gone xs in
    let more = times-cons gone x xs in
    elim (cases_eq x gone) [
      | inl same ↦
          let drops : length (without gone (x ∷ xs)) ≡ length (without gone xs)
          = ap length (cond-false (not (eqb x gone)) (x ∷ without gone xs) (without gone xs) (ap not (eq-eqb x gone same))) in
          let one : cond {A = ℕ} (eqb x gone) 1 0 ≡ 1 = cond-true (eqb x gone) 1 0 (eq-eqb x gone same) in
          omega (arith, rest, more, drops, one)
      | inr apart ↦
          let stays : length (without gone (x ∷ xs)) ≡ suc (length (without gone xs))
          = ap length (cond-true (not (eqb x gone)) (x ∷ without gone xs) (without gone xs) (ap not (ne_eqb x gone apart))) in
          let none : cond {A = ℕ} (eqb x gone) 1 0 ≡ 0 = cond-false (eqb x gone) 1 0 (ne_eqb x gone apart) in
          omega (arith, rest, more, stays, none)
    ]

-- a list without a number has no more of any
pub times-without_le : (gone number : ℕ) (xs : List ℕ) → times number (without gone xs) ≤ times number xs
times-without_le gone number xs =
    elim (cases_eq gone number) [
      | inl same ↦
          let none : times number (without gone xs) ≡ 0 = subst (λ (k : ℕ). times k (without gone xs) ≡ 0) same (times-without_it gone xs) in
          omega (arith, none)
      | inr apart ↦ let stays = times-without_other gone number xs apart in omega (arith, stays)
    ]

-- the two parts of a list have what it has
pub times-parts : (number k : ℕ) (xs : List ℕ) → times number (take k xs) + times number (drop k xs) ≡ times number xs
times-parts number k xs = sym (times-append number (take k xs) (drop k xs)) ∙ ap (times number) (take-append-drop k xs)

pub below-once : (bound number : ℕ) → number < bound → once_below bound number ≡ 1
below-once bound number below = cond-true (ltb number bound) 1 0 (lt-ltb number bound below)

pub past-once : (bound number : ℕ) → bound ≤ number → once_below bound number ≡ 0
past-once bound number past = cond-false (ltb number bound) 1 0 (le-ltb number bound past)

pub once_at_most : (bound number : ℕ) → once_below bound number ≤ 1
once_at_most bound number =
    elim (cases_lt number bound) [
      | inl below ↦ let one = below-once bound number below in omega (arith, one)
      | inr past ↦ let none = past-once bound number past in omega (arith, none)
    ]

-- the next number is once below the next bound
pub once_more : (bound number : ℕ) → once_below (bound + 1) number ≡ once_below bound number + cond (eqb bound number) 1 0
once_more bound number =
    elim (cases_order number bound) [
      | inl same ↦
          let here : cond {A = ℕ} (eqb bound number) 1 0 ≡ 1 = cond-true (eqb bound number) 1 0 (eq-eqb bound number (sym same)) in
          let new = below-once (bound + 1) number (omega (arith, same)) in
          let old = past-once bound number (omega (arith, same)) in
          omega (arith, here, new, old)
      | inr (inl below) ↦
          let else : cond {A = ℕ} (eqb bound number) 1 0 ≡ 0 = cond-false (eqb bound number) 1 0 (ne_eqb bound number (λ is. omega (arith, below, is))) in
          let new = below-once (bound + 1) number (omega (arith, below)) in
          let old = below-once bound number below in
          omega (arith, else, new, old)
      | inr (inr above) ↦
          let else : cond {A = ℕ} (eqb bound number) 1 0 ≡ 0 = cond-false (eqb bound number) 1 0 (ne_eqb bound number (λ is. omega (arith, above, is))) in
          let new = past-once (bound + 1) number (omega (arith, above)) in
          let old = past-once bound number (omega (arith, above)) in
          omega (arith, else, new, old)
    ]

-- numbers below a bound, each once at most, are no more than that bound
pub fits_below : (bound : ℕ) (xs : List ℕ) → ((number : ℕ) → times number xs ≤ once_below bound number) → length xs ≤ bound
fits_below bound [] once = omega arith
fits_below zero (x ∷ xs) once =
    let has = times-cons x x xs in
    let one : cond {A = ℕ} (eqb x x) 1 0 ≡ 1 = cond-true (eqb x x) 1 0 (eq-eqb x x refl) in
    let none = past-once 0 x (omega arith) in
    let most = once x in
    absurd (omega (arith, has, one, none, most))
fits_below (suc bound) (x ∷ xs) once =
    let all = length-without bound (x ∷ xs) in
    let last = once bound in
    let last_once = below-once (suc bound) bound (omega arith) in
    let few = fits_below bound (without bound (x ∷ xs)) others in
    omega (arith, all, last, last_once, few)
  where
    others : (number : ℕ) → times number (without bound (x ∷ xs)) ≤ once_below bound number
    others number =
        elim (cases_order number bound) [
          | inl same ↦
              let none : times number (without bound (x ∷ xs)) ≡ 0
              = subst (λ (k : ℕ). times k (without bound (x ∷ xs)) ≡ 0) (sym same) (times-without_it bound (x ∷ xs)) in
              omega (arith, none)
          | inr (inl below) ↦
              let stays = times-without_other bound number (x ∷ xs) (λ is. let s = sym is in omega (arith, below, is)) in
              let most = once number in
              let old = below-once (suc bound) number (omega (arith, below)) in
              let new = below-once bound number below in
              omega (arith, stays, most, old, new)
          | inr (inr above) ↦
              let stays = times-without_other bound number (x ∷ xs) (λ is. omega (arith, above, is)) in
              let most = once number in
              let old = past-once (suc bound) number (omega (arith, above)) in
              omega (arith, stays, most, old)
        ]

-- numbers below a bound, each once at most and as many as there are, are all of them
pub all_below : (bound : ℕ) (xs : List ℕ) → ((number : ℕ) → times number xs ≤ once_below bound number) → length xs ≡ bound
    → (number : ℕ) → times number xs ≡ once_below bound number
all_below bound xs once long number =
    elim (cases_lt (times number xs) (once_below bound number)) [
      | inr same ↦ let most = once number in omega (arith, same, most)
      | inl lacks ↦ let few = fits_below bound (number ∷ xs) (more lacks) in absurd (omega (arith, few, long))
    ]
  where
    more : times number xs < once_below bound number → (other : ℕ) → times other (number ∷ xs) ≤ once_below bound other
    more lacks other =
        let both = times-cons other number xs in
        elim (cases_eq number other) [
          | inl same ↦
              let here : cond {A = ℕ} (eqb number other) 1 0 ≡ 1 = cond-true (eqb number other) 1 0 (eq-eqb number other same) in
              let room : times other xs < once_below bound other = subst (λ (k : ℕ). times k xs < once_below bound k) same lacks in
              omega (arith, both, here, room)
          | inr apart ↦
              let else : cond {A = ℕ} (eqb number other) 1 0 ≡ 0 = cond-false (eqb number other) 1 0 (ne_eqb number other apart) in
              let most = once other in
              omega (arith, both, else, most)
        ]

-- a list that has each number below a bound is as long as that
pub reaches_below : (bound : ℕ) (xs : List ℕ) → ((number : ℕ) → once_below bound number ≤ times number xs) → bound ≤ length xs
reaches_below zero xs has = omega arith
reaches_below (suc bound) xs has =
    let all = length-without bound xs in
    let last = has bound in
    let last_once = below-once (suc bound) bound (omega arith) in
    let rest = reaches_below bound (without bound xs) others in
    omega (arith, all, last, last_once, rest)
  where
    others : (number : ℕ) → once_below bound number ≤ times number (without bound xs)
    others number =
        elim (cases_order number bound) [
          | inl same ↦ let none = past-once bound number (omega (arith, same)) in omega (arith, none)
          | inr (inl below) ↦
              let stays = times-without_other bound number xs (λ is. let s = sym is in omega (arith, below, is)) in
              let least = has number in
              let old = below-once (suc bound) number (omega (arith, below)) in
              let new = below-once bound number below in
              omega (arith, stays, least, old, new)
          | inr (inr above) ↦ let none = past-once bound number (omega (arith, above)) in omega (arith, none)
        ]

pub as_long : (bound : ℕ) (xs : List ℕ) → ((number : ℕ) → times number xs ≡ once_below bound number) → length xs ≡ bound
as_long bound xs each =
    let few = fits_below bound xs (λ number. let is = each number in omega (arith, is)) in
    let many = reaches_below bound xs (λ number. let is = each number in omega (arith, is)) in
    omega (arith, few, many)
