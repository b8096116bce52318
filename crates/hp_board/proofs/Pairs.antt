-- Lists of numbered values: what a list has for a number once a value was put in front, taken out, or put after.
use Rattle.std.proofs.Common.{◌≡◌, ◌≢◌, ℕ, zero, suc, ◌<◌, Bool, true, false, cond, not, eqb, eq-eqb, ne_eqb, eqb-true, List, [], ◌∷◌, ◌++◌, map, length, take, drop, get_or, Some, None, refl, sym, ap, subst, ◌∙◌, arith}
use Rattle.std.proofs.lemmas.Bool.{cond-true, cond-false, eqb-false}
use Rattle.std.proofs.lemmas.Map.Keys.{IsDistinct-head, IsDistinct-tail, apart_from_distinct}
use Rattle.std.specs.List.{AllByRecursion, IsDistinct}
use Rattle.hp_board.specs.Views.{value_of, values_of, without, under}
use Rattle.hp_board.specs.SeatInside.{numbers_of}

module _ {A : Type 0} where
  pub value_of-here : (number : ℕ) (value : A) (pairs : List (ℕ × A)) → value_of number ((number, value) ∷ pairs) ≡ Some value
  value_of-here number value pairs = cond-true (eqb number number) (Some value) (value_of number pairs) (eq-eqb number number refl)

  pub value_of-else : (number other : ℕ) (value : A) (pairs : List (ℕ × A)) → other ≢ number → value_of other ((number, value) ∷ pairs) ≡ value_of other pairs
  value_of-else number other value pairs apart = cond-false (eqb number other) (Some value) (value_of other pairs) (ne_eqb number other (λ same. apart (sym same)))

  gone : (number : ℕ) (pair : ℕ × A) (pairs : List (ℕ × A)) (b : Bool) → eqb pair.0 number ≡ b → value_of number pairs ≡ None
      → value_of number (cond (not b) (pair ∷ pairs) pairs) ≡ None
  gone number pair pairs true is later = later
  gone number pair pairs false is later = cond-false (eqb pair.0 number) (Some pair.1) (value_of number pairs) is ∙ later

  -- nothing is left for a number
  pub value_of-without : (number : ℕ) (pairs : List (ℕ × A)) → value_of number (without number pairs) ≡ None
  value_of-without number [] = refl
  value_of-without number (pair ∷ pairs) = gone number pair (without number pairs) (eqb pair.0 number) refl (value_of-without number pairs)

  stays : (number other : ℕ) (pair : ℕ × A) (pairs rest : List (ℕ × A)) (b : Bool) → eqb pair.0 number ≡ b → other ≢ number → value_of other rest ≡ value_of other pairs
      → value_of other (cond (not b) (pair ∷ rest) rest) ≡ value_of other (pair ∷ pairs)
  stays number other pair pairs rest true is apart later =
      later ∙ sym (cond-false (eqb pair.0 other) (Some pair.1) (value_of other pairs) (ne_eqb pair.0 other (λ same. apart (sym same ∙ eqb-true pair.0 number is))))
  stays number other pair pairs rest false is apart later = ap (λ o. cond (eqb pair.0 other) (Some pair.1) o) later

  -- and the others stay
  pub value_of-without_else : (number other : ℕ) (pairs : List (ℕ × A)) → other ≢ number → value_of other (without number pairs) ≡ value_of other pairs
  value_of-without_else number other [] apart = refl
  value_of-without_else number other (pair ∷ pairs) apart =
      stays number other pair pairs (without number pairs) (eqb pair.0 number) refl apart (value_of-without_else number other pairs apart)

  appended : (b : Bool) (value : A) (whole front rest : List A) → whole ≡ front ++ rest → cond b (value ∷ whole) whole ≡ cond b (value ∷ front) front ++ rest
  appended true value whole front rest is = ap (λ values. value ∷ values) is
  appended false value whole front rest is = is

  pub values_of-append : (number : ℕ) (xs ys : List (ℕ × A)) → values_of number (xs ++ ys) ≡ values_of number xs ++ values_of number ys
  values_of-append number [] ys = refl
  values_of-append number (pair ∷ pairs) ys =
      appended (eqb pair.0 number) pair.1 (values_of number (pairs ++ ys)) (values_of number pairs) (values_of number ys) (values_of-append number pairs ys)

  pub values_of-under : (number : ℕ) (values : List A) → values_of number (under number values) ≡ values
  values_of-under number [] = refl
  values_of-under number (value ∷ values) =
      cond-true (eqb number number) (value ∷ values_of number (under number values)) (values_of number (under number values)) (eq-eqb number number refl)
      ∙ ap (λ rest. value ∷ rest) (values_of-under number values)

  pub values_of-under_else : (number other : ℕ) (values : List A) → other ≢ number → values_of other (under number values) ≡ []
  values_of-under_else number other [] apart = refl
  values_of-under_else number other (value ∷ values) apart =
      cond-false (eqb number other) (value ∷ values_of other (under number values)) (values_of other (under number values)) (ne_eqb number other (λ same. apart (sym same)))
      ∙ values_of-under_else number other values apart

  -- values under a number, without it
  pub map-under : (number : ℕ) (values : List A) → map (λ (pair : ℕ × A). pair.1) (under number values) ≡ values
  map-under number [] = refl
  map-under number (value ∷ values) = ap (λ rest. value ∷ rest) (map-under number values)

  absent : (number : ℕ) (pairs : List (ℕ × A)) → AllByRecursion (λ other. eqb number other ≡ false) (numbers_of pairs) → without number pairs ≡ pairs
  absent number [] none = refl
  absent number (pair ∷ pairs) none =
      let apart : eqb pair.0 number ≡ false = ne_eqb pair.0 number (λ same. eqb-false number pair.0 none.0 (sym same)) in
      cond-true (not (eqb pair.0 number)) (pair ∷ without number pairs) (without number pairs) (ap not apart) ∙ ap (λ rest. pair ∷ rest) (absent number pairs none.1)

  -- where the numbers differ, the list without one has the numbers before its place and those after
  pub numbers-without : (number : ℕ) (pairs : List (ℕ × A)) (place : ℕ) → IsDistinct eqb (numbers_of pairs) → place < length (numbers_of pairs) → get_or (numbers_of pairs) place 0 ≡ number
      → numbers_of (without number pairs) ≡ take place (numbers_of pairs) ++ drop (suc place) (numbers_of pairs)
  numbers-without number [] place distinct inside here = absurd (omega arith)
  numbers-without number (pair ∷ pairs) zero distinct inside here =
      let none : AllByRecursion (λ other. eqb number other ≡ false) (numbers_of pairs) =
      subst (λ n. AllByRecursion (λ other. eqb n other ≡ false) (numbers_of pairs)) here (IsDistinct-head eqb pair.0 (numbers_of pairs) distinct) in
      ap numbers_of (cond-false (not (eqb pair.0 number)) (pair ∷ without number pairs) (without number pairs) (ap not (eq-eqb pair.0 number here)) ∙ absent number pairs none)
  numbers-without number (pair ∷ pairs) (suc place) distinct inside here =
      let inner : place < length (numbers_of pairs) = omega arith in
      let apart : eqb pair.0 number ≡ false = ap (λ (n : ℕ). eqb pair.0 n) (sym here) ∙ apart_from_distinct eqb (pair.0 ∷ numbers_of pairs) 0 (suc place) 0 distinct (omega arith) inside in
      ap numbers_of (cond-true (not (eqb pair.0 number)) (pair ∷ without number pairs) (without number pairs) (ap not apart))
      ∙ ap (λ (rest : List ℕ). pair.0 ∷ rest) (numbers-without number pairs place (IsDistinct-tail eqb pair.0 (numbers_of pairs) distinct) inner here)

  kept_by : (P : ℕ → Type 0) (pair : ℕ × A) (rest : List (ℕ × A)) (b : Bool) → P pair.0 → AllByRecursion P (numbers_of rest) → AllByRecursion P (numbers_of (cond b (pair ∷ rest) rest))
  kept_by P pair rest true first later = (first, later)
  kept_by P pair rest false first later = later

  -- what holds of all numbers holds of those that are left
  pub All-without : (P : ℕ → Type 0) (number : ℕ) (pairs : List (ℕ × A)) → AllByRecursion P (numbers_of pairs) → AllByRecursion P (numbers_of (without number pairs))
  All-without P number [] all = tt
  All-without P number (pair ∷ pairs) all = kept_by P pair (without number pairs) (not (eqb pair.0 number)) all.0 (All-without P number pairs all.1)
