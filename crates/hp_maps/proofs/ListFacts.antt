-- Facts on filters and tests over lists.
use Rattle.std.proofs.Common.{◌≡◌, ◌≤◌, ◌+◌, Some, None, find, option_to_list, subst, Bool, true, false, ◌&&◌, ◌||◌, cond, List, [], ◌∷◌, filter, length, refl, ap, ◌∙◌, sym, arith, inl, inr, count_by}
use Rattle.std.specs.List.{All, list_any}
use Rattle.std.proofs.lemmas.Bool.{cases_Bool, cond-true, cond-false}
use Rattle.std.proofs.lemmas.List.Elements.{All-cons, All-head, All-nil, All-tail}
use Rattle.hp_log.proofs.Counts.{any_counts, count_cons}

-- a filter that keeps all, or nothing
pub filter_keeps : {X : Type 0} (p : X → Bool) (xs : List X) → All (λ x. p x ≡ true) xs → filter p xs ≡ xs
filter_keeps p [] all = refl
filter_keeps p (x ∷ xs) all =
    ap (λ b. cond b (x ∷ filter p xs) (filter p xs)) (All-head (λ x. p x ≡ true) x xs all)
    ∙ ap (λ rest. x ∷ rest) (filter_keeps p xs (All-tail (λ x. p x ≡ true) x xs all))

pub filter_drops : {X : Type 0} (p : X → Bool) (xs : List X) → All (λ x. p x ≡ false) xs → filter p xs ≡ []
filter_drops p [] all = refl
filter_drops p (x ∷ xs) all =
    ap (λ b. cond b (x ∷ filter p xs) (filter p xs)) (All-head (λ x. p x ≡ false) x xs all)
    ∙ filter_drops p xs (All-tail (λ x. p x ≡ false) x xs all)

-- two tests that agree on a list keep the same of it
pub filter_agree : {X : Type 0} (p q : X → Bool) (xs : List X) → All (λ x. p x ≡ q x) xs → filter p xs ≡ filter q xs
filter_agree p q [] all = refl
filter_agree p q (x ∷ xs) all =
    ap (λ b. cond b (x ∷ filter p xs) (filter p xs)) (All-head (λ x. p x ≡ q x) x xs all)
    ∙ ap (λ rest. cond (q x) (x ∷ rest) rest) (filter_agree p q xs (All-tail (λ x. p x ≡ q x) x xs all))

-- two filters, one after the other, keep what passes both
pub filter_twice : {X : Type 0} (p q : X → Bool) (xs : List X) → filter p (filter q xs) ≡ filter (λ x. q x && p x) xs
filter_twice p q [] = refl
filter_twice p q (x ∷ xs) =
    elim (cases_Bool (q x)) [
      | inl passes ↦ rw passes (ap (λ rest. cond (p x) (x ∷ rest) rest) (filter_twice p q xs))
      | inr fails ↦ rw fails (filter_twice p q xs)
    ]

-- what is not counted does not occur
pub uncounted : {X : Type 0} (p : X → Bool) (xs : List X) → count_by p xs ≡ 0 → list_any p xs ≡ false
uncounted p xs none =
    elim (cases_Bool (list_any p xs)) [
      | inl some ↦ absurd (omega (arith, any_counts p xs some))
      | inr nothing ↦ nothing
    ]

-- what is found passes, and has what all have
pub found_is : {X : Type 0} (p : X → Bool) (P : X → Type 0) (xs : List X) (y : X) → All P xs → find p xs ≡ Some y → (p y ≡ true) × P y
found_is p P [] y all found = cc
found_is p P (x ∷ xs) y all found =
    elim (cases_Bool (p x)) [
      | inl passes ↦
          let one : Some x ≡ Some y = sym (cond-true (p x) (Some x) (find p xs) passes) ∙ found in
          let same : x ≡ y = cc in
          (ap p (sym same) ∙ passes, subst P same (All-head P x xs all))
      | inr fails ↦ found_is p P xs y (All-tail P x xs all) (sym (cond-false (p x) (Some x) (find p xs) fails) ∙ found)
    ]

-- one is found at most of those that are counted
pub found_counts : {X : Type 0} (p : X → Bool) (xs : List X) → length (option_to_list (find p xs)) ≤ count_by p xs
found_counts p [] = omega arith
found_counts p (x ∷ xs) =
    elim (cases_Bool (p x)) [
      | inl passes ↦
          let one : length (option_to_list (find p (x ∷ xs))) ≡ 1 = ap (λ b. length (option_to_list (cond b (Some x) (find p xs)))) passes in
          let counted : count_by p (x ∷ xs) ≡ 1 + count_by p xs = count_cons p x xs ∙ ap (λ b. cond b 1 0 + count_by p xs) passes in
          omega (arith, one, counted)
      | inr fails ↦
          let same : length (option_to_list (find p (x ∷ xs))) ≡ length (option_to_list (find p xs)) =
          ap (λ b. length (option_to_list (cond b (Some x) (find p xs)))) fails in
          omega (arith, same, found_counts p xs, count_cons p x xs)
    ]

-- and where none is found none is counted
pub none_found : {X : Type 0} (p : X → Bool) (xs : List X) → find p xs ≡ None → count_by p xs ≡ 0
none_found p [] none = refl
none_found p (x ∷ xs) none =
    elim (cases_Bool (p x)) [
      | inl passes ↦
          let wrong : Some x ≡ None = sym (cond-true (p x) (Some x) (find p xs) passes) ∙ none in
          cc
      | inr fails ↦
          let rest : find p xs ≡ None = sym (cond-false (p x) (Some x) (find p xs) fails) ∙ none in
          let counted : count_by p (x ∷ xs) ≡ 0 + count_by p xs = count_cons p x xs ∙ ap (λ b. cond b 1 0 + count_by p xs) fails in
          omega (arith, counted, none_found p xs rest)
    ]

-- where no element passes, each fails
pub any_none : {X : Type 0} (p : X → Bool) (xs : List X) → list_any p xs ≡ false → All (λ x. p x ≡ false) xs
any_none p [] none = All-nil (λ x. p x ≡ false)
any_none p (x ∷ xs) none =
    elim (cases_Bool (p x)) [
      | inl passes ↦
          let wrong : true ≡ false = sym (ap (λ b. b || list_any p xs) passes) ∙ none in
          cc
      | inr fails ↦
          let rest : list_any p xs ≡ false = sym (ap (λ b. b || list_any p xs) fails) ∙ none in
          All-cons (λ x. p x ≡ false) x xs fails (any_none p xs rest)
    ]

-- what all have that a filter keeps, each element has that passes
pub kept_have : {X : Type 0} (p : X → Bool) (P : X → Type 0) (xs : List X) → All P (filter p xs) → All (λ x. p x ≡ true → P x) xs
kept_have p P [] all = All-nil (λ x. p x ≡ true → P x)
kept_have p P (x ∷ xs) all =
    elim (cases_Bool (p x)) [
      | inl passes ↦
          let kept : filter p (x ∷ xs) ≡ x ∷ filter p xs = cond-true (p x) (x ∷ filter p xs) (filter p xs) passes in
          let both : All P (x ∷ filter p xs) = subst (All P) kept all in
          All-cons (λ x. p x ≡ true → P x) x xs (λ is. All-head P x (filter p xs) both)
          (kept_have p P xs (All-tail P x (filter p xs) both))
      | inr fails ↦
          let kept : filter p (x ∷ xs) ≡ filter p xs = cond-false (p x) (x ∷ filter p xs) (filter p xs) fails in
          All-cons (λ x. p x ≡ true → P x) x xs
          (λ is.
          let wrong : true ≡ false = sym is ∙ fails in
          cc)
          (kept_have p P xs (subst (All P) kept all))
    ]
