-- Facts on filters and tests over lists.
use Rattle.std.proofs.Common.{◌≡◌, Bool, true, false, ◌&&◌, ◌||◌, cond, List, [], ◌∷◌, filter, refl, ap, ◌∙◌, sym, inl, inr}
use Rattle.std.specs.List.{All, list_any}
use Rattle.std.proofs.lemmas.Bool.{cases_Bool}
use Rattle.std.proofs.lemmas.List.Elements.{All-cons, All-head, All-nil, All-tail}

-- a filter that keeps nothing
pub filter_drops : {X : Type 0} (p : X → Bool) (xs : List X) → All (λ x. p x ≡ false) xs → filter p xs ≡ []
filter_drops p [] all = refl
filter_drops p (x ∷ xs) all =
    ap (λ b. cond b (x ∷ filter p xs) (filter p xs)) (All-head (λ x. p x ≡ false) x xs all)
    ∙ filter_drops p xs (All-tail (λ x. p x ≡ false) x xs all)

-- two tests that agree on a list keep the same of it
pub filter_agree : {X : Type 0} (p q : X → Bool) (xs : List X) → All (λ x. p x ≡ q x) xs → filter p xs ≡ filter q xs
filter_agree p q [] all = refl
filter_agree p q (x ∷ xs) all =
    ap (λ b. cond b (x ∷ filter p xs) (filter p xs)) (All-head (λ x. p x ≡ q x) x xs all)
    ∙ ap (λ rest. cond (q x) (x ∷ rest) rest) (filter_agree p q xs (All-tail (λ x. p x ≡ q x) x xs all))

-- two filters, one after the other, keep what passes both
pub filter_twice : {X : Type 0} (p q : X → Bool) (xs : List X) → filter p (filter q xs) ≡ filter (λ x. q x && p x) xs
filter_twice p q [] = refl
filter_twice p q (x ∷ xs) =
    elim (cases_Bool (q x)) [
      | inl passes ↦ rw passes (ap (λ rest. cond (p x) (x ∷ rest) rest) (filter_twice p q xs))
      | inr fails ↦ rw fails (filter_twice p q xs)
    ]

-- where no element passes, each fails
pub any_none : {X : Type 0} (p : X → Bool) (xs : List X) → list_any p xs ≡ false → All (λ x. p x ≡ false) xs
any_none p [] none = All-nil (λ x. p x ≡ false)
any_none p (x ∷ xs) none =
    elim (cases_Bool (p x)) [
      | inl passes ↦
          let wrong : true ≡ false = sym (ap (λ b. b || list_any p xs) passes) ∙ none in
          cc
      | inr fails ↦
          let rest : list_any p xs ≡ false = sym (ap (λ b. b || list_any p xs) fails) ∙ none in
          All-cons (λ x. p x ≡ false) x xs fails (any_none p xs rest)
    ]
