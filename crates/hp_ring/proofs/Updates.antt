-- Functions that change at one number, by cases on the number, and what comes after a list.
use Rattle.std.proofs.Common.{◌≡◌, ◌≢◌, ℕ, zero, suc, ◌⊎◌, inl, inr, ⊎_elim, cond, eqb, eq-eqb, ne_eqb, List, [], ◌∷◌, ◌++◌, length, refl, sym, ap, subst}
use Rattle.std.proofs.lemmas.Bool.{cond-true, cond-false}
use mathlib.Core.Logic.{dite}
use mathlib.Core.Option.{some, some-injective, some-ne-none}
use native.Mathlib.Decide.{ℕ_discrete}
use lib.ListN.{get_elem?}

-- a function with another value at one number
abbrev pub with_at : {A : Type 0} → ℕ → A → (ℕ → A) → ℕ → A
with_at at value f k = cond (eqb k at) value (f k)

module _ {A : Type 0} where
  pub with_at-here : (at : ℕ) (value : A) (f : ℕ → A) → with_at at value f at ≡ value
  with_at-here at value f = cond-true (eqb at at) value (f at) (eq-eqb at at refl)

  pub with_at-else : (at : ℕ) (value : A) (f : ℕ → A) (k : ℕ) → k ≢ at → with_at at value f k ≡ f k
  with_at-else at value f k apart = cond-false (eqb k at) value (f k) (ne_eqb k at apart)

  -- what holds of the new value, and of the old values at all other numbers, holds at every number
  pub each : (P : ℕ → A → Type 0) (at : ℕ) (value : A) (f : ℕ → A) → P at value → ((k : ℕ) → k ≢ at → P k (f k)) → (k : ℕ) → P k (with_at at value f k)
  each P at value f here else k =
      dite (ℕ_discrete k at)
      (λ same. subst (λ (x : A). P k x) (sym (cond-true (eqb k at) value (f k) (eq-eqb k at same))) (subst (λ (j : ℕ). P j value) (sym same) here))
      (λ apart. subst (λ (x : A). P k x) (sym (with_at-else at value f k apart)) (else k apart))

  -- an element that was put after a list stands where the list ended
  pub at_last : (l : List A) (a b : A) (j : ℕ) → get_elem? (l ++ a ∷ []) j ≡ some b → (get_elem? l j ≡ some b) ⊎ ((j ≡ length l) × (a ≡ b))
  at_last [] a b zero is = inr (refl, some-injective a b is)
  at_last [] a b (suc j) is = absurd (some-ne-none b (sym is))
  at_last (x ∷ xs) a b zero is = inl is
  at_last (x ∷ xs) a b (suc j) is = ⊎_elim (λ e. inl e) (λ e. inr (ap suc e.0, e.1)) (at_last xs a b j is)
