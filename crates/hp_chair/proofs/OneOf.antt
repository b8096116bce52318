-- What is said of one participant alone, at its number and at others.
use Rattle.std.proofs.Common.{◌≡◌, ◌≢◌, ℕ, eqb, eq-eqb, ne_eqb}
use Rattle.std.proofs.lemmas.Bool.{cond-false, cond-true}
use Rattle.hp_chair.specs.ChairView.{of_one}

module _ {A : Type 0} where
  pub one_here : (me who : ℕ) (here elsewhere : A) → who ≡ me → of_one me here elsewhere who ≡ here
  one_here me who here elsewhere same = cond-true (eqb who me) here elsewhere (eq-eqb who me same)

  pub one_elsewhere : (me who : ℕ) (here elsewhere : A) → who ≢ me → of_one me here elsewhere who ≡ elsewhere
  one_elsewhere me who here elsewhere apart = cond-false (eqb who me) here elsewhere (ne_eqb who me apart)
