-- The first element that passes, by a walk over the list.
use Rattle.std.proofs.Common.{◌≡◌, ℕ, zero, suc, ◌+◌, ◌<◌, ◌≤◌, Bool, true, false, List, [], ◌∷◌, length, get_or, drop, Option, Some, None, refl, add-one, arith, sum_by, count_by, take, map, cond, ◌++◌, ◌||◌, ap, ◌∙◌, sym}
use Rattle.std.proofs.Math.Seq.{drop-cons}
use Rattle.std.proofs.lemmas.List.Sums.{sum_by_more_le}
use Rattle.std.specs.List.{find, list_any}
use Rattle.std.proofs.lemmas.Bool.{false_from_ne_true}
use Rattle.hp_log.proofs.Counts.{count_append, count_cons}
use Rattle.std.specs.Option.{option_map}

module _ {X : Type 0} (p : X → Bool) where
  -- what fails is passed over
  pub find_step : (xs : List X) (i : ℕ) (d : X) → i < length xs → p (get_or xs i d) ≡ false
      → find p (drop i xs) ≡ find p (drop (i + 1) xs)
  find_step xs i d within fails = rw (add-one, drop-cons xs i d within, fails) refl

  -- what passes is found
  pub find_here : (xs : List X) (i : ℕ) (d : X) → i < length xs → p (get_or xs i d) ≡ true
      → find p (drop i xs) ≡ Some (get_or xs i d)
  find_here xs i d within passes = rw (drop-cons xs i d within, passes) refl

  -- nothing is found after the end
  pub find_end : (xs : List X) (i : ℕ) → length xs ≤ i → find p (drop i xs) ≡ None
  find_end [] i past = find_nil i
    where
      find_nil : (i : ℕ) → find p (drop i []) ≡ None
      find_nil zero = refl
      find_nil (suc i) = refl
  find_end (x ∷ xs) zero past = absurd (omega (arith, past))
  find_end (x ∷ xs) (suc i) past = find_end xs i (omega arith)

-- a sum so far with the next element is below what the whole sum is below
pub sum_step : {X : Type 0} (f : X → ℕ) (xs : List X) (i : ℕ) (d : X) (total next bound : ℕ) → i < length xs
    → total ≡ sum_by f (take i xs) → next ≡ f (get_or xs i d) → sum_by f xs < bound → total + next < bound
sum_step f xs i d total next bound within so_far is all = omega (arith, so_far, is, all, sum_by_more_le f xs i d within)

module _ {X : Type 0} (p : X → Bool) where
  -- what fails is passed over
  pub any_step : (xs : List X) (i : ℕ) (d : X) → i < length xs → p (get_or xs i d) ≡ false
      → list_any p (drop i xs) ≡ list_any p (drop (i + 1) xs)
  any_step xs i d within fails = rw (add-one, drop-cons xs i d within, fails) refl

  -- what passes is among the elements
  pub any_here : (xs : List X) (i : ℕ) (d : X) → i < length xs → p (get_or xs i d) ≡ true → list_any p (drop i xs) ≡ true
  any_here xs i d within passes = rw (drop-cons xs i d within, passes) refl

  -- nothing is after the end
  pub any_end : (xs : List X) (i : ℕ) → length xs ≤ i → list_any p (drop i xs) ≡ false
  any_end [] zero past = refl
  any_end [] (suc i) past = refl
  any_end (x ∷ xs) zero past = absurd (omega (arith, past))
  any_end (x ∷ xs) (suc i) past = any_end xs i (omega arith)

module _ {X : Type 0} (p : X → Bool) where
  -- from the back too what fails is passed over
  pub find_back_step : (xs : List X) (x : X) → p x ≡ false → find p (xs ++ x ∷ []) ≡ find p xs
  find_back_step [] x fails = rw fails refl
  find_back_step (y ∷ xs) x fails = ap (cond (p y) (Some y)) (find_back_step xs x fails)

  -- where at most one element passes, the first from the back is the first
  pub find_back_here : (xs : List X) (x : X) → count_by p (xs ++ x ∷ []) ≤ 1 → p x ≡ true → find p (xs ++ x ∷ []) ≡ Some x
  find_back_here xs x few passes =
      let one : ◌≡◌ {A = ℕ} (cond (p x) 1 0) 1 = ap (λ b. cond b 1 0) passes in
      let none : count_by p xs ≡ 0 = omega (arith, few, one, count_append p xs (x ∷ []), count_cons p x []) in
      find_last xs none
    where
      find_last : (xs : List X) → count_by p xs ≡ 0 → find p (xs ++ x ∷ []) ≡ Some x
      find_last [] none = rw passes refl
      find_last (y ∷ ys) none =
          let fails : p y ≡ false =
          false_from_ne_true (p y) (λ first.
          let more : ◌≡◌ {A = ℕ} (cond (p y) 1 0) 1 = ap (λ b. cond b 1 0) first in
          absurd (omega (arith, none, more, count_cons p y ys))) in
          rw (fails, find_last ys (omega (arith, none, count_cons p y ys))) refl

any_by : {X : Type 0} (p : X → Bool) (x : X) (xs : List X) (passes : Bool) → cond passes (Some x) (find p xs) ≡ None
    → (find p xs ≡ None → list_any p xs ≡ false) → (passes || list_any p xs) ≡ false
any_by p x xs true none rest = cc
any_by p x xs false none rest = rest none

-- where nothing is found nothing passes
pub any_found : {X : Type 0} (p : X → Bool) (xs : List X) → find p xs ≡ None → list_any p xs ≡ false
any_found p [] none = refl
any_found p (x ∷ xs) none = any_by p x xs (p x) none (any_found p xs)

find_by : {X Y : Type 0} (b : Bool) (x : X) (f : X → Y) (found : Option X) → cond b (Some (f x)) (option_map f found) ≡ option_map f (cond b (Some x) found)
find_by true x f found = refl
find_by false x f found = refl

-- the first of mapped elements is that of the first element
pub find_mapped : {X Y : Type 0} (p : Y → Bool) (f : X → Y) (xs : List X) → find p (map f xs) ≡ option_map f (find (λ x. p (f x)) xs)
find_mapped p f [] = refl
find_mapped p f (x ∷ xs) =
    ap (λ found. cond (p (f x)) (Some (f x)) found) (find_mapped p f xs) ∙ find_by (p (f x)) x f (find (λ x. p (f x)) xs)

-- mapped elements are counted as the elements are
pub count_mapped : {X Y : Type 0} (p : Y → Bool) (f : X → Y) (xs : List X) → count_by p (map f xs) ≡ count_by (λ x. p (f x)) xs
count_mapped p f [] = refl
count_mapped p f (x ∷ xs) =
    count_cons p (f x) (map f xs) ∙ (ap (λ n. cond (p (f x)) 1 0 + n) (count_mapped p f xs) ∙ sym (count_cons (λ x. p (f x)) x xs))
