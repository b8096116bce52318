-- The passes of all participants, when the owner's knows how many there are.
use Rattle.std.proofs.Common.{◌≡◌, ◌≢◌, ℕ, zero, suc, ◌+◌, ◌<◌, ◌≤◌, eqb, eq-eqb, ne_eqb, List, [], ◌∷◌, map, set, Option, Some, None, refl, sym, ap, ap₂, ◌∙◌, arith}
use Rattle.std.specs.List.{range_with_len, slice_get}
use Rattle.std.proofs.lemmas.Bool.{cond-false, cond-true}
use Rattle.std.proofs.lemmas.Option.{same_Some}
use Rattle.atomic_table.specs.Seated.{TableId}
use Rattle.hp_mail.specs.PassInside.{dealt_pass, with_participants}
use Rattle.hp_mail.specs.PassView.{PassView, new_pass}

module _ {X : Type 0} where
  -- what a function gives at the numbers from one on, where another gives the same
  range_alike : (f g : ℕ → X) (from count : ℕ) → ((n : ℕ) → from ≤ n → f n ≡ g n) → map f (range_with_len from count) ≡ map g (range_with_len from count)
  range_alike f g from zero alike = refl
  range_alike f g from (suc count) alike =
      ap₂ (λ (x : X) (xs : List X). x ∷ xs) (alike from (omega arith)) (range_alike f g (from + 1) count (λ n more. alike n (omega (arith, more))))

  -- what stands at a place
  range_at : (f : ℕ → X) (from count place number : ℕ) → place < count → from + place ≡ number
      → slice_get (map f (range_with_len from count)) place ≡ Some (f number)
  range_at f from zero place number below is = absurd (omega (arith, below))
  range_at f from (suc count) zero number below is =
      let same : from ≡ number = omega (arith, is) in
      ap (λ (n : ℕ). Some (f n)) same
  range_at f from (suc count) (suc place) number below is =
      range_at f (from + 1) count place number (omega (arith, below)) (omega (arith, is))

  -- and where they differ at a number alone, whose place has what the other gives there
  range_set : (f g : ℕ → X) (from count place number : ℕ) → place < count → from + place ≡ number → ((n : ℕ) → n ≢ number → f n ≡ g n)
      → set (map f (range_with_len from count)) place (g number) ≡ map g (range_with_len from count)
  range_set f g from zero place number below is alike = absurd (omega (arith, below))
  range_set f g from (suc count) zero number below is alike =
      let same : number ≡ from = omega (arith, is) in
      ap₂ (λ (x : X) (xs : List X). x ∷ xs) (ap g same)
      (range_alike f g (from + 1) count (λ n more. alike n (λ (at : n ≡ number). absurd (omega (arith, more, at, same)))))
  range_set f g from (suc count) (suc place) number below is alike =
      ap₂ (λ (x : X) (xs : List X). x ∷ xs) (alike from (λ (at : from ≡ number). absurd (omega (arith, at, is))))
      (range_set f g (from + 1) count place number (omega (arith, below)) (omega (arith, is)) alike)

module _ (id : TableId) (participants owner : ℕ) (passes : List PassView) (below : owner < participants)
    (are : passes ≡ map (dealt_pass id owner) (range_with_len 0 participants)) (found : PassView) (there : slice_get passes owner ≡ Some found) where
  -- the owner's among the passes as they were dealt
  pub found_is : found ≡ dealt_pass id owner owner
  found_is =
      same_Some found (dealt_pass id owner owner)
      (sym there ∙ ap (λ (l : List PassView). slice_get l owner) are ∙ range_at (dealt_pass id owner) 0 participants owner owner below (omega arith))

  owners : with_participants participants found ≡ new_pass id participants owner owner
  owners =
      ap (with_participants participants) found_is
      ∙ ap (λ (o : Option ℕ). record (dealt_pass id owner owner) { participants = o })
      (sym (cond-true (eqb owner owner) (Some participants) None (eq-eqb owner owner refl)))

  others : (who : ℕ) → who ≢ owner → dealt_pass id owner who ≡ new_pass id participants owner who
  others who apart =
      ap (λ (o : Option ℕ). record (dealt_pass id owner who) { participants = o })
      (sym (cond-false (eqb who owner) (Some participants) None (ne_eqb who owner apart)))

  pub dealt_all : set passes owner (with_participants participants found) ≡ map (new_pass id participants owner) (range_with_len 0 participants)
  dealt_all =
      ap₂ (λ (l : List PassView) (p : PassView). set l owner p) are owners
      ∙ range_set (dealt_pass id owner) (new_pass id participants owner) 0 participants owner owner below (omega arith) others
