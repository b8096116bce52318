-- Members of lists: those that a filter keeps, that a search finds and that a count knows of.
use Rattle.std.proofs.Common.{◌≡◌, ℕ, ◌+◌, ◌<◌, ◌≤◌, Bool, true, false, cond, not, List, [], ◌∷◌, ◌++◌, map, refl, sym, ap, subst, ◌∙◌, inl, inr, arith, Option, Some, None, MatchOption, Contains, count_by}
use Rattle.std.proofs.lemmas.Bool.{cond_both, false≢true}
use Rattle.std.specs.List.{filter, find, AllByRecursion}
use Rattle.hp_heap.proofs.HistoryFacts.Counting.{count_by-cons}
use Rattle.hp_heap.proofs.AllocFacts.ChoiceLaw.{Contains-here, Contains-there, Contains-cases, Contains-none}

module _ {X : Type 0} where
  -- what holds of each member holds of all
  pub AllByRecursion-each : (P : X → Type 0) (xs : List X) → ((x : X) → Contains xs x → P x) → AllByRecursion P xs
  AllByRecursion-each P [] each = tt
  AllByRecursion-each P (x ∷ xs) each = (each x (Contains-here x xs), AllByRecursion-each P xs (λ y has. each y (Contains-there x y xs has)))

  -- a member that passes a filter's test is kept
  pub Contains-kept : (p : X → Bool) (xs : List X) (x : X) → p x ≡ true → Contains xs x → Contains (filter p xs) x
  Contains-kept p [] x passes has = absurd (Contains-none x has)
  Contains-kept p (y ∷ ys) x passes has = elim (Contains-cases y x ys has) [
    | inl is ↦ cond_both (p y) (y ∷ filter p ys) (filter p ys) (λ zs. Contains zs x)
        (λ kept. subst (λ z. Contains (y ∷ filter p ys) z) is (Contains-here y (filter p ys)))
        (λ fails. absurd (false≢true (sym fails ∙ ap p is ∙ passes)))
    | inr rest ↦ cond_both (p y) (y ∷ filter p ys) (filter p ys) (λ zs. Contains zs x)
        (λ kept. Contains-there y x (filter p ys) (Contains-kept p ys x passes rest))
        (λ fails. Contains-kept p ys x passes rest)
  ]

  -- what a filter keeps of elements that have something have it
  pub AllByRecursion-kept : (P : X → Type 0) (p : X → Bool) (xs : List X) → AllByRecursion P xs → AllByRecursion P (filter p xs)
  AllByRecursion-kept P p [] all = tt
  AllByRecursion-kept P p (x ∷ xs) all =
      cond_both (p x) (x ∷ filter p xs) (filter p xs) (AllByRecursion P) (λ kept. (all.0, AllByRecursion-kept P p xs all.1)) (λ fails. AllByRecursion-kept P p xs all.1)

  -- what a search finds passes its test, and is a member; where it finds none, none passes
  abbrev pub IsFound : (X → Bool) → List X → X → Type 0
  IsFound p xs x = (p x ≡ true) × Contains xs x

  pub find-is : (p : X → Bool) (xs : List X) → MatchOption (find p xs) (AllByRecursion (λ x. p x ≡ false) xs) (IsFound p xs)
  find-is p [] = tt
  find-is p (y ∷ ys) = cond_both (p y) (Some y) (find p ys) (λ o. MatchOption o (AllByRecursion (λ x. p x ≡ false) (y ∷ ys)) (IsFound p (y ∷ ys)))
      (λ passes. (passes, Contains-here y ys)) (λ fails. by_rest (find p ys) fails (find-is p ys))
    where
      by_rest : (o : Option X) → p y ≡ false → MatchOption o (AllByRecursion (λ x. p x ≡ false) ys) (IsFound p ys) → MatchOption o (AllByRecursion (λ x. p x ≡ false) (y ∷ ys)) (IsFound p (y ∷ ys))
      by_rest None fails none = (fails, none)
      by_rest (Some x) fails found = (found.0, Contains-there y x ys found.1)

  pub find_some : (p : X → Bool) (xs : List X) (x : X) → find p xs ≡ Some x → IsFound p xs x
  find_some p xs x is = subst (λ o. MatchOption o (AllByRecursion (λ y. p y ≡ false) xs) (IsFound p xs)) is (find-is p xs)

  pub find_none : (p : X → Bool) (xs : List X) → find p xs ≡ None → AllByRecursion (λ y. p y ≡ false) xs
  find_none p xs is = subst (λ o. MatchOption o (AllByRecursion (λ y. p y ≡ false) xs) (IsFound p xs)) is (find-is p xs)

  -- the first that passes a test after others that do not is found
  pub find_behind : (p : X → Bool) (xs : List X) (x : X) (ys : List X) → AllByRecursion (λ y. p y ≡ false) xs → p x ≡ true → find p (xs ++ (x ∷ ys)) ≡ Some x
  find_behind p [] x ys none is = rw is refl
  find_behind p (y ∷ xs) x ys none is = rw none.0 (find_behind p xs x ys none.1 is)

  -- where some pass a test there is one that does
  pub counted_some : (p : X → Bool) (xs : List X) → 0 < count_by p xs → (x : X) × IsFound p xs x
  counted_some p [] some = absurd (omega (arith, some))
  counted_some p (y ∷ ys) some = by_test (p y) refl (λ more. counted_some p ys more)
    where
      by_test : (b : Bool) → p y ≡ b → (0 < count_by p ys → (x : X) × IsFound p ys x) → (x : X) × IsFound p (y ∷ ys) x
      by_test true passes rest = (y, (passes, Contains-here y ys))
      by_test false fails rest =
          let weight : cond {A = ℕ} (p y) 1 0 ≡ 0 = rw fails refl in
          let found = rest (omega (arith, some, count_by-cons p y ys, weight)) in
          (found.0, (found.1.0, Contains-there y found.0 ys found.1.1))

  -- a member that passes is counted
  pub some_counted : (p : X → Bool) (xs : List X) (x : X) → p x ≡ true → Contains xs x → 0 < count_by p xs
  some_counted p [] x passes has = absurd (Contains-none x has)
  some_counted p (y ∷ ys) x passes has = elim (Contains-cases y x ys has) [
    | inl is ↦ (let weight : cond {A = ℕ} (p y) 1 0 ≡ 1 = rw (ap p is ∙ passes) refl in omega (arith, count_by-cons p y ys, weight))
    | inr rest ↦ (let more = some_counted p ys x passes rest in omega (arith, count_by-cons p y ys, more))
  ]

  -- where at most one passes, those that do are one
  pub counted_once : (p : X → Bool) (xs : List X) (x y : X) → count_by p xs ≤ 1 → IsFound p xs x → IsFound p xs y → x ≡ y
  counted_once p [] x y few first second = absurd (Contains-none x first.1)
  counted_once p (z ∷ zs) x y few first second = elim (Contains-cases z x zs first.1) [
    | inl here ↦ elim (Contains-cases z y zs second.1) [
      | inl there ↦ sym here ∙ there
      | inr behind ↦ absurd (two (ap p here ∙ first.0) (some_counted p zs y second.0 behind))
    ]
    | inr later ↦ elim (Contains-cases z y zs second.1) [
      | inl there ↦ absurd (two (ap p there ∙ second.0) (some_counted p zs x first.0 later))
      | inr behind ↦ counted_once p zs x y (omega (arith, few, count_by-cons p z zs)) (first.0, later) (second.0, behind)
    ]
  ]
    where
      two : p z ≡ true → 0 < count_by p zs → ⊥
      two passes more = let weight : cond {A = ℕ} (p z) 1 0 ≡ 1 = rw passes refl in absurd (omega (arith, few, count_by-cons p z zs, weight, more))

  -- a filter keeps and leaves out, counted by another test
  pub count_filtered : (p q : X → Bool) (xs : List X) → count_by q (filter p xs) + count_by q (filter (λ x. not (p x)) xs) ≡ count_by q xs
  count_filtered p q xs = Rattle.std.proofs.lemmas.List.Filters.sum_by-filter_both p (λ x. not (p x)) (λ _. refl) (λ x. cond (q x) 1 0) xs

  -- a filter leaves no more than there were
  pub count_fewer : (p q : X → Bool) (xs : List X) → count_by q (filter p xs) ≤ count_by q xs
  count_fewer p q xs = omega (arith, count_filtered p q xs)

  -- a filter whose test follows from the counted one loses nothing that is counted
  pub count_all_kept : (p q : X → Bool) (xs : List X) → AllByRecursion (λ x. q x ≡ true → p x ≡ true) xs → count_by q (filter p xs) ≡ count_by q xs
  count_all_kept p q [] each = refl
  count_all_kept p q (x ∷ xs) each = cond_both (p x) (x ∷ filter p xs) (filter p xs) (λ zs. count_by q zs ≡ count_by q (x ∷ xs))
      (λ kept. omega (arith, count_by-cons q x (filter p xs), count_by-cons q x xs, count_all_kept p q xs each.1))
      (λ fails. (let weight : cond {A = ℕ} (q x) 1 0 ≡ 0 = none fails (q x) refl in omega (arith, count_by-cons q x xs, count_all_kept p q xs each.1, weight)))
    where
      none : p x ≡ false → (b : Bool) → q x ≡ b → cond {A = ℕ} (q x) 1 0 ≡ 0
      none fails true passes = absurd (false≢true (sym fails ∙ each.0 passes))
      none fails false is = rw is refl

  -- where the test that is counted keeps one from being kept, none is counted
  pub count_none_kept : (p q : X → Bool) (xs : List X) → AllByRecursion (λ x. q x ≡ true → p x ≡ false) xs → count_by q (filter p xs) ≡ 0
  count_none_kept p q [] each = refl
  count_none_kept p q (x ∷ xs) each = cond_both (p x) (x ∷ filter p xs) (filter p xs) (λ zs. count_by q zs ≡ 0)
      (λ kept. (let weight : cond {A = ℕ} (q x) 1 0 ≡ 0 = none kept (q x) refl in omega (arith, count_by-cons q x (filter p xs), count_none_kept p q xs each.1, weight)))
      (λ fails. count_none_kept p q xs each.1)
    where
      none : p x ≡ true → (b : Bool) → q x ≡ b → cond {A = ℕ} (q x) 1 0 ≡ 0
      none kept true passes = absurd (false≢true (sym (each.0 passes) ∙ kept))
      none kept false is = rw is refl

-- tests that agree at each member count alike
pub count_alike : {X : Type 0} (p q : X → Bool) (xs : List X) → AllByRecursion (λ x. p x ≡ q x) xs → count_by p xs ≡ count_by q xs
count_alike p q [] all = refl
count_alike p q (x ∷ xs) all = rw (count_by-cons p x xs, count_by-cons q x xs, all.0, count_alike p q xs all.1) refl

-- images are counted by the test after the map
pub count_map : {X Y : Type 0} (f : X → Y) (p : Y → Bool) (xs : List X) → count_by p (map f xs) ≡ count_by (λ x. p (f x)) xs
count_map f p [] = refl
count_map f p (x ∷ xs) = count_by-cons p (f x) (map f xs) ∙ ap (λ (n : ℕ). cond (p (f x)) 1 0 + n) (count_map f p xs) ∙ sym (count_by-cons (λ y. p (f y)) x xs)

-- the image of a member is a member, and each member of the images is one of a member
pub Contains-image : {X Y : Type 0} (f : X → Y) (xs : List X) (x : X) → Contains xs x → Contains (map f xs) (f x)
Contains-image f [] x has = absurd (Contains-none x has)
Contains-image f (y ∷ ys) x has = elim (Contains-cases y x ys has) [
  | inl is ↦ subst (λ z. Contains (f y ∷ map f ys) (f z)) is (Contains-here (f y) (map f ys))
  | inr rest ↦ Contains-there (f y) (f x) (map f ys) (Contains-image f ys x rest)
]

pub Contains-imaged : {X Y : Type 0} (f : X → Y) (xs : List X) (y : Y) → Contains (map f xs) y → (x : X) × Contains xs x × (f x ≡ y)
Contains-imaged f [] y has = absurd (Contains-none y has)
Contains-imaged f (x ∷ xs) y has = elim (Contains-cases (f x) y (map f xs) has) [
  | inl is ↦ (x, Contains-here x xs, is)
  | inr rest ↦ (let one = Contains-imaged f xs y rest in (one.0, Contains-there x one.0 xs one.1, one.2))
]

-- a filter keeps what passes
pub filter_whole : {X : Type 0} (p : X → Bool) (xs : List X) → AllByRecursion (λ x. p x ≡ true) xs → filter p xs ≡ xs
filter_whole p [] all = refl
filter_whole p (x ∷ xs) all = rw all.0 (ap (λ ys. x ∷ ys) (filter_whole p xs all.1))

-- of two filters the one whose test follows from the other's changes nothing
pub filter_implied : {X : Type 0} (p q : X → Bool) (xs : List X) → AllByRecursion (λ x. p x ≡ true → q x ≡ true) xs → filter q (filter p xs) ≡ filter p xs
filter_implied p q [] all = refl
filter_implied p q (x ∷ xs) all = cond_both (p x) (x ∷ filter p xs) (filter p xs) (λ zs. filter q zs ≡ zs)
    (λ kept. rw (all.0 kept) (ap (λ zs. x ∷ zs) (filter_implied p q xs all.1))) (λ fails. filter_implied p q xs all.1)

-- two filters in the other order
pub filter_swapped : {X : Type 0} (p q : X → Bool) (xs : List X) → filter p (filter q xs) ≡ filter q (filter p xs)
filter_swapped p q [] = refl
filter_swapped p q (x ∷ xs) = by_tests (p x) (q x) refl refl (filter_swapped p q xs)
  where
    by_tests : (a b : Bool) → p x ≡ a → q x ≡ b → filter p (filter q xs) ≡ filter q (filter p xs)
        → filter p (cond (q x) (x ∷ filter q xs) (filter q xs)) ≡ filter q (cond (p x) (x ∷ filter p xs) (filter p xs))
    by_tests true true first second rest = rw (first, second) (rw first (ap (λ zs. x ∷ zs) rest))
    by_tests true false first second rest = rw (first, second) rest
    by_tests false true first second rest = rw (first, second) (rw first rest)
    by_tests false false first second rest = rw (first, second) rest

-- a test that another follows from counts no more than that
pub count_implied : {X : Type 0} (p q : X → Bool) (xs : List X) → ((x : X) → p x ≡ true → q x ≡ true) → count_by p xs ≤ count_by q xs
count_implied p q [] each = omega arith
count_implied p q (x ∷ xs) each =
    omega (arith, count_by-cons p x xs, count_by-cons q x xs, count_implied p q xs each, lighter (p x) (q x) (each x))
  where
    lighter : (a b : Bool) → (a ≡ true → b ≡ true) → cond {A = ℕ} a 1 0 ≤ cond {A = ℕ} b 1 0
    lighter true b implied = rw (implied refl) (omega arith)
    lighter false true implied = omega arith
    lighter false false implied = omega arith

-- tests that agree at each member keep the same
pub filter_alike : {X : Type 0} (p q : X → Bool) (xs : List X) → AllByRecursion (λ x. p x ≡ q x) xs → filter p xs ≡ filter q xs
filter_alike p q [] all = refl
filter_alike p q (x ∷ xs) all = rw all.0 (ap (λ zs. cond (q x) (x ∷ zs) zs) (filter_alike p q xs all.1))
