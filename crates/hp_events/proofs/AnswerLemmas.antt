-- Who denies, of validators that are asked one after the other.
use Rattle.std.proofs.Common.{◌≡◌, ℕ, ◌+◌, ◌<◌, ◌≤◌, Bool, List, [], ◌∷◌, ◌++◌, take, length, get_or, Some, refl, ap, ◌∙◌, sym, subst}
use Rattle.std.specs.List.{All}
use Rattle.std.proofs.lemmas.List.{take_all, take_more}
use Rattle.std.proofs.lemmas.List.Elements.{All-append, All-cons, All-nil}
use Rattle.std.proofs.lemmas.Option.{slice_get-get_or}
use Rattle.hp_events.specs.Validators.{Allows, IsDenying, IsFirstToDeny}
use Rattle.hp_events.specs.declared.validator.Validator.{Validator}

module _ {F : Type 0} (answers : F → ℕ → ℕ → ℕ → Bool → Type 0) (socket total : ℕ) where
  -- one more allows the bytes
  pub allowed_more : (validators : List (Validator F)) (i : ℕ) (own : Validator F) → i < length validators → own ≡ get_or validators i own
      → Allows answers socket total own → All (Allows answers socket total) (take i validators)
      → All (Allows answers socket total) (take (i + 1) validators)
  allowed_more validators i own within is allows before =
      subst (All (Allows answers socket total)) (sym (take_more validators i own within ∙ ap (λ v. take i validators ++ v ∷ []) (sym is)))
      (All-append (Allows answers socket total) (take i validators) (own ∷ []) before
      (All-cons (Allows answers socket total) own [] allows (All-nil (Allows answers socket total))))

  -- all of them do, where all were asked
  pub allowed_all : (validators : List (Validator F)) (i : ℕ) → length validators ≤ i → All (Allows answers socket total) (take i validators)
      → All (Allows answers socket total) validators
  allowed_all validators i all allowed = subst (All (Allows answers socket total)) (take_all i validators all) allowed

  -- one denies where those before it allow
  pub denied_at : (validators : List (Validator F)) (i : ℕ) (own : Validator F) → i < length validators → own ≡ get_or validators i own
      → IsDenying answers socket total own → All (Allows answers socket total) (take i validators)
      → IsFirstToDeny answers socket total validators own.name own.limit
  denied_at validators i own within is denies before = record {
    place = i;
    own = own;
    its_place = slice_get-get_or validators i own within ∙ ap Some (sym is);
    denies = denies;
    before = before;
    its_name = refl;
    its_limit = refl;
  }
