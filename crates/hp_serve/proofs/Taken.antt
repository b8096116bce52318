-- The segment value was taken and given back: all slots are as they were.
use Rattle.std.proofs.Common.{◌≡◌, ◌≢◌, ◌∙◌, ℕ, Option, None, ap, sym, subst, inl, inr}
use Rattle.std.proofs.lemmas.Bool.{cases_eq}
use Rattle.hp_base.specs.declared.limits.TheConstants.{MAX_HEAPS}
use Rattle.hp_hall.specs.declared.kept.Kept.{Kept}

pub taken_after : (old mid new : ℕ → Option Kept) → old MAX_HEAPS ≡ None → ((number : ℕ) → number ≢ MAX_HEAPS → mid number ≡ old number)
    → ((number : ℕ) → number ≢ MAX_HEAPS → new number ≡ mid number) → new MAX_HEAPS ≡ None → (number : ℕ) → new number ≡ old number
taken_after old mid new free took gave given number = elim (cases_eq number MAX_HEAPS) [
  | inl is ↦ ap new is ∙ (given ∙ (sym free ∙ ap old (sym is)))
  | inr apart ↦ gave number apart ∙ took number apart
]

pub home_after : (old mid new : ℕ → Type 0) → ((number : ℕ) → number ≢ MAX_HEAPS → old number → mid number)
    → ((number : ℕ) → number ≢ MAX_HEAPS → mid number → new number) → new MAX_HEAPS → (number : ℕ) → old number → new number
home_after old mid new took gave home number there = elim (cases_eq number MAX_HEAPS) [
  | inl is ↦ subst new (sym is) home
  | inr apart ↦ gave number apart (took number apart there)
]
