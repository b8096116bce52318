-- Which row is found where one passes at most.
use Rattle.std.proofs.Common.{◌≡◌, ◌≤◌, ◌<◌, ℕ, zero, suc, Bool, true, false, cond, List, [], ◌∷◌, Some, None, find, length, get_or, refl, ap, ◌∙◌, arith, inl, inr, count_by}
use Rattle.std.proofs.lemmas.Bool.{cases_Bool}
use Rattle.hp_log.proofs.Counts.{count_cons}

abbrev one_if : Bool → ℕ
one_if b = cond b 1 0

counted_at : {X : Type 0} (p : X → Bool) (xs : List X) (at : ℕ) (d : X) → at < length xs → p (get_or xs at d) ≡ true → 1 ≤ count_by p xs
counted_at p [] at d within passes = absurd (omega (arith, within))
counted_at p (x ∷ xs) zero d within passes = omega (arith, count_cons p x xs, ap one_if passes)
counted_at p (x ∷ xs) (suc at) d within passes =
    omega (arith, count_cons p x xs, counted_at p xs at d (omega (arith, within)) passes)

-- the one that passes is found
pub found_there : {X : Type 0} (p : X → Bool) (xs : List X) (at : ℕ) (d : X) → at < length xs → p (get_or xs at d) ≡ true
    → count_by p xs ≤ 1 → find p xs ≡ Some (get_or xs at d)
found_there p [] at d within passes once = absurd (omega (arith, within))
found_there p (x ∷ xs) zero d within passes once = ap (λ b. cond b (Some x) (find p xs)) passes
found_there p (x ∷ xs) (suc at) d within passes once =
    let some = counted_at p xs at d (omega (arith, within)) passes in
    elim (cases_Bool (p x)) [
      | inl first ↦ absurd (omega (arith, once, count_cons p x xs, ap one_if first, some))
      | inr other ↦
          ap (λ b. cond b (Some x) (find p xs)) other
          ∙ found_there p xs at d (omega (arith, within)) passes (omega (arith, once, count_cons p x xs))
    ]

-- and none is found where none passes
pub none_there : {X : Type 0} (p : X → Bool) (xs : List X) → ((at : ℕ) → at < length xs → (d : X) → p (get_or xs at d) ≡ false)
    → find p xs ≡ None
none_there p [] none = refl
none_there p (x ∷ xs) none =
    ap (λ b. cond b (Some x) (find p xs)) (none 0 (omega arith) x)
    ∙ none_there p xs (λ at within d. none (suc at) (omega (arith, within)) d)
