-- The texts of lists from an element on.
use Rattle.std.proofs.Common.{◌≡◌, ℕ, suc, ◌+◌, ◌<◌, ◌≤◌, List, [], ◌∷◌, ◌++◌, length, get_or, drop, add-one, refl, sym, ap, ◌∙◌}
use Rattle.std.specs.List.{flat_map}
use Rattle.std.proofs.Math.Seq.{drop-cons}
use Rattle.std.proofs.lemmas.List.{drop_all}
use Rattle.hp_report.specs.Numbered.{numbered}

module _ {X : Type 0} (xs : List X) (i : ℕ) where
  -- an element, and those after it
  here_first : (d x : X) → i < length xs → get_or xs i d ≡ x → drop i xs ≡ x ∷ drop (i + 1) xs
  here_first d x within is =
      drop-cons xs i d within ∙ ap (λ y. y ∷ drop (suc i) xs) is ∙ ap (λ j. x ∷ drop j xs) (sym (add-one i))

  pub numbered-here : (part : ℕ → X → List ℕ) (number : ℕ) (d x : X) → i < length xs → get_or xs i d ≡ x
      → numbered part number (drop i xs) ≡ part number x ++ numbered part (number + 1) (drop (i + 1) xs)
  numbered-here part number d x within is = ap (numbered part number) (here_first d x within is)

  pub flat_map-here : (part : X → List ℕ) (d x : X) → i < length xs → get_or xs i d ≡ x → flat_map part (drop i xs) ≡ part x ++ flat_map part (drop (i + 1) xs)
  flat_map-here part d x within is = ap (flat_map part) (here_first d x within is)

  -- none is left
  pub numbered-past : (part : ℕ → X → List ℕ) (number : ℕ) → length xs ≤ i → numbered part number (drop i xs) ≡ []
  numbered-past part number past = ap (numbered part number) (drop_all i xs past)

  pub flat_map-past : (part : X → List ℕ) → length xs ≤ i → flat_map part (drop i xs) ≡ []
  flat_map-past part past = ap (flat_map part) (drop_all i xs past)
