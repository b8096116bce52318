-- A walk over the bits of flags.
use Rattle.std.proofs.Common.{◌≡◌, ℕ, ◌+◌, ◌<◌, ◌==◌, ◌&&◌, Bool, false, List, length, get_or, drop, drop-cons}
use Rattle.std.proofs.Common.{add-one, refl, ap, ◌∙◌}
use Rattle.std.proofs.Math.Bool.{and-false}
use Rattle.std.specs.List.{list_any}
use Rattle.hp_base.specs.Flags.{has_bit, page_flags}

-- what fails is passed over
any_step : {X : Type 0} (p : X → Bool) (xs : List X) (i : ℕ) (d : X) → i < length xs → p (get_or xs i d) ≡ false
    → list_any p (drop i xs) ≡ list_any p (drop (i + 1) xs)
any_step p xs i d within fails = rw (add-one, drop-cons xs i d within, fails) refl

abbrev names : ℕ → ℕ → (ℕ × ℕ) → Bool
names flags page entry = (entry.0 == page) && has_bit flags entry.1

-- a bit that is not set, and a page of another size, are passed over
module _ (flags page i : ℕ) (d : ℕ × ℕ) (within : i < length page_flags) where
  pub unset_bit : has_bit flags (get_or page_flags i d).1 ≡ false
      → list_any (λ (entry : ℕ × ℕ). has_bit flags entry.1) (drop i page_flags)
      ≡ list_any (λ (entry : ℕ × ℕ). has_bit flags entry.1) (drop (i + 1) page_flags)
  unset_bit clear = any_step (λ (entry : ℕ × ℕ). has_bit flags entry.1) page_flags i d within clear

  pub other_page : ((get_or page_flags i d).0 == page) ≡ false
      → list_any (names flags page) (drop i page_flags) ≡ list_any (names flags page) (drop (i + 1) page_flags)
  other_page other =
      any_step (names flags page) page_flags i d within (ap (λ (b : Bool). b && has_bit flags (get_or page_flags i d).1) other)

  pub clear_bit : has_bit flags (get_or page_flags i d).1 ≡ false
      → list_any (names flags page) (drop i page_flags) ≡ list_any (names flags page) (drop (i + 1) page_flags)
  clear_bit clear =
      any_step (names flags page) page_flags i d within
      (ap (λ (b : Bool). ((get_or page_flags i d).0 == page) && b) clear ∙ and-false ((get_or page_flags i d).0 == page))
