-- What a participant knows of others' numbers once it has loaded one.
use Rattle.std.proofs.Common.{◌≡◌, ◌≢◌, ◌∙◌, ℕ, Option, unwrap_or, sym, ap}
use mathlib.Core.Logic.{dite}
use native.Mathlib.Decide.{ℕ_discrete}
use Rattle.hp_board.specs.Views.{after_load, noted_of}
use Rattle.hp_board.specs.declared.view.Mine.{Mine}
use Rattle.hp_board.proofs.Pairs.{value_of-else, value_of-here}
use Rattle.hp_board.proofs.StepsOfSeats.WordSteps.{noted_other, noted_own}

module _ (mine : Mine) (other number : ℕ) (own : other ≡ mine.who → number ≡ mine.number) where
  -- of the one that was loaded it knows the number that was found
  pub noted_here : noted_of other (after_load other number mine) ≡ number
  noted_here =
      dite (ℕ_discrete other mine.who)
      (λ same. ap (λ (k : ℕ). noted_of k (after_load other number mine)) same ∙ noted_own (after_load other number mine) ∙ sym (own same))
      (λ apart. noted_other other (after_load other number mine) apart ∙ ap (λ (o : Option ℕ). unwrap_or o 0) (value_of-here other number mine.noted))

  -- and of another what it knew
  pub noted_else : (k : ℕ) → k ≢ other → noted_of k (after_load other number mine) ≡ noted_of k mine
  noted_else k differs =
      dite (ℕ_discrete k mine.who)
      (λ same.
      ap (λ (j : ℕ). noted_of j (after_load other number mine)) same ∙ noted_own (after_load other number mine) ∙ sym (ap (λ (j : ℕ). noted_of j mine) same ∙ noted_own mine))
      (λ apart.
      noted_other k (after_load other number mine) apart ∙ ap (λ (o : Option ℕ). unwrap_or o 0) (value_of-else other k number mine.noted differs) ∙ sym (noted_other k mine apart))
