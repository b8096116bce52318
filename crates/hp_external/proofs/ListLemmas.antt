-- What holds of each element of a list, of its filters and of what it is mapped to.
use Rattle.std.proofs.Common.{◌≡◌, ℕ, ◌+◌, ◌<◌, ◌≤◌, Bool, true, false, ◌||◌, cond, not, List, [], ◌∷◌, ◌++◌, drop, map, length, filter, get_or, All, Option, Some, None, Contains, refl, sym, ap, subst, ◌∙◌, inl, inr, arith, sum_by, position}
use Rattle.std.specs.List.{AllByRecursion, find, list_any, position_or_len}
use Rattle.std.proofs.lemmas.Bool.{cases_Bool, cases_lt, lt-ltb, or_parts}
use Rattle.std.proofs.lemmas.List.Elements.{All-cons, All-nil}
use Rattle.std.proofs.lemmas.List.Quantifiers.{position-Some}
use Rattle.std.proofs.lemmas.List.Sums.{fails_before_first}
use Rattle.hp_heap.proofs.AllocFacts.ChoiceLaw.{Contains-cases, Contains-filter, Contains-here, Contains-none, Contains-there}
use Rattle.hp_heap.proofs.Members.{AllByRecursion-each}

-- the first that passes, by a walk over the list
module _ {X : Type 0} (p : X → Bool) where
  pub find_step : (xs : List X) (i : ℕ) (d : X) → i < length xs → p (get_or xs i d) ≡ false → find p (drop i xs) ≡ find p (drop (i + 1) xs)
  find_step xs i d within fails = Rattle.hp_segs.proofs.Finds.find_step p xs i d within fails

  pub find_here : (xs : List X) (i : ℕ) (d : X) → i < length xs → p (get_or xs i d) ≡ true → find p (drop i xs) ≡ Some (get_or xs i d)
  find_here xs i d within passes = Rattle.hp_segs.proofs.Finds.find_here p xs i d within passes

  pub find_end : (xs : List X) (i : ℕ) → length xs ≤ i → find p (drop i xs) ≡ None
  find_end xs i past = Rattle.hp_segs.proofs.Finds.find_end p xs i past

module _ {X : Type 0} where
  -- an element that passes is found
  pub any_there : (p : X → Bool) (xs : List X) (x : X) → Contains xs x → p x ≡ true → list_any p xs ≡ true
  any_there p [] x has passes = absurd (Contains-none x has)
  any_there p (y ∷ ys) x has passes = elim (cases_Bool (p y)) [
    | inl first ↦ ap (λ b. b || list_any p ys) first
    | inr other ↦
        ap (λ b. b || list_any p ys) other
        ∙ (elim (Contains-cases y x ys has) [
          | inl is ↦ (let wrong : true ≡ false = sym passes ∙ (ap p (sym is) ∙ other) in cc)
          | inr rest ↦ any_there p ys x rest passes
        ])
  ]

  -- where none passes, a filter keeps nothing
  pub filter_none : (p : X → Bool) (xs : List X) → AllByRecursion (λ x. p x ≡ false) xs → filter p xs ≡ []
  filter_none p [] all = refl
  filter_none p (x ∷ xs) all = ap (λ b. cond b (x ∷ filter p xs) (filter p xs)) all.0 ∙ filter_none p xs all.1

  -- what a filter leaves out is not in what it keeps
  pub filter_opposite : (p : X → Bool) (xs : List X) → filter p (filter (λ x. not (p x)) xs) ≡ []
  filter_opposite p xs =
      filter_none p (filter (λ x. not (p x)) xs)
      (AllByRecursion-each (λ x. p x ≡ false) (filter (λ x. not (p x)) xs)
      (λ x has. elim (cases_Bool (p x)) [
        | inl is ↦ (let wrong : false ≡ true = sym (ap not is) ∙ (Contains-filter (λ x. not (p x)) xs x has).0 in cc)
        | inr is ↦ is
      ]))

  -- where nothing is kept, no element passes
  pub none_kept : (p : X → Bool) (xs : List X) → filter p xs ≡ [] → (x : X) → Contains xs x → p x ≡ true → ⊥
  none_kept p xs none x has passes = Contains-none x (subst (λ ys. Contains ys x) none (kept_there xs has))
    where
      kept_there : (ys : List X) → Contains ys x → Contains (filter p ys) x
      kept_there ys there = Rattle.hp_heap.proofs.Members.Contains-kept p ys x passes there

  -- the first that passes has a place, and passes there
  pub first_within : (p : X → Bool) (xs : List X) (x : X) → Contains xs x → p x ≡ true → position_or_len p xs < length xs
  first_within p xs x there passes =
      elim (cases_lt (position_or_len p xs) (length xs)) [
        | inl found ↦ found
        | inr past ↦
            let fails : p (get_or xs there.0 x) ≡ false = fails_before_first p xs there.0 x (omega (arith, there.1, past)) in
            let here : p x ≡ false = rw there.2 at fails in
            cc
      ]

  pub first_passes : (p : X → Bool) (xs : List X) (d : X) → position_or_len p xs < length xs → p (get_or xs (position_or_len p xs) d) ≡ true
  first_passes p xs d within =
      let place : position p xs ≡ Some (position_or_len p xs) =
      ap (λ b. cond b (Some (position_or_len p xs)) None) (lt-ltb (position_or_len p xs) (length xs) within) in
      (position-Some p xs (position_or_len p xs) d place).1

-- what holds of each image
pub all_mapped : {X Y : Type 0} (P : Y → Type 0) (f : X → Y) (xs : List X) → AllByRecursion (λ x. P (f x)) xs → AllByRecursion P (map f xs)
all_mapped P f [] all = tt
all_mapped P f (x ∷ xs) all = (all.0, all_mapped P f xs all.1)

-- where none passes, each fails
pub each_fails : {X : Type 0} (p : X → Bool) (xs : List X) → list_any p xs ≡ false → AllByRecursion (λ x. p x ≡ false) xs
each_fails p [] none = tt
each_fails p (x ∷ xs) none = let parts = or_parts (p x) (list_any p xs) none in (parts.0, each_fails p xs parts.1)

-- what holds of each element holds of all
pub all_of_each : {X : Type 0} (P : X → Type 0) (xs : List X) → ((x : X) → Contains xs x → P x) → All P xs
all_of_each P [] each = All-nil P
all_of_each P (x ∷ xs) each =
    All-cons P x xs (each x (Contains-here x xs)) (all_of_each P xs (λ y there. each y (Contains-there x y xs there)))
