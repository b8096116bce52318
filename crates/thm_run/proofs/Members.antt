-- Who is in the roster is declared: it stays so as participants join and leave.
use Rattle.std.proofs.Common.{◌≡◌, ◌≢◌, ◌∙◌, ℕ, zero, suc, ◌<◌, Bool, true, false, List, [], ◌∷◌, length, Option, refl, ap, sym, subst, arith, ⊎_elim}
use Rattle.std.specs.Prelude.{slice_set}
use Rattle.std.proofs.lemmas.Bool.{cases_eq}
use Rattle.hp_base.specs.Mapping.{FailingCall}
use Rattle.hp_segs.specs.SegsView.{SegsView, is_member}
use Rattle.hp_serve.specs.Denials.{Denials}
use Rattle.thm_run.proofs.RunFacts.Changes.{Changes, MovesRoster, alters, goes_on, joins, leaves, same, stays}

-- where one's place in the roster is set, it is what it is set to, where there is such a place, and each other place stays
pub set_member : (roster : List Bool) (who : ℕ) (in_it : Bool) → who < length roster → is_member (slice_set roster who in_it) who ≡ in_it
set_member [] who in_it within = absurd (omega (arith, within))
set_member (here ∷ roster) zero in_it within = refl
set_member (here ∷ roster) (suc who) in_it within = set_member roster who in_it (omega (arith, within))

pub set_other : (roster : List Bool) (who other : ℕ) (in_it : Bool) → other ≢ who
    → is_member (slice_set roster who in_it) other ≡ is_member roster other
set_other [] who other in_it beside = refl
set_other (here ∷ roster) zero zero in_it beside = absurd (beside refl)
set_other (here ∷ roster) zero (suc other) in_it beside = refl
set_other (here ∷ roster) (suc who) zero in_it beside = refl
set_other (here ∷ roster) (suc who) (suc other) in_it beside = set_other roster who other in_it (λ same. beside (ap suc same))

-- who leaves is out
pub set_out : (roster : List Bool) (who : ℕ) → is_member (slice_set roster who false) who ≡ false
set_out [] who = refl
set_out (here ∷ roster) zero = refl
set_out (here ∷ roster) (suc who) = set_out roster who

-- each member is declared
abbrev pub AreDeclared : ℕ → List Bool → Type 0
AreDeclared count roster = (member : ℕ) → is_member roster member ≡ true → member < count

module _ (count : ℕ) where
  set_declared : (roster : List Bool) (who : ℕ) (in_it : Bool) → (in_it ≡ true → who < count) → AreDeclared count roster
      → AreDeclared count (slice_set roster who in_it)
  set_declared roster who in_it its before member within =
      ⊎_elim
      (λ (own : member ≡ who). by_place own in_it refl)
      (λ (beside : member ≢ who). before member (sym (set_other roster who member in_it beside) ∙ within))
      (cases_eq member who)
    where
      by_place : member ≡ who → (set : Bool) → in_it ≡ set → member < count
      by_place own true is = subst (λ who. who < count) (sym own) (its is)
      by_place own false is =
          let wrong : false ≡ true =
          sym (set_out roster who)
          ∙ ap (λ set. is_member (slice_set roster who set) who) (sym is)
          ∙ ap (is_member (slice_set roster who in_it)) (sym own)
          ∙ within in
          cc

  -- so it stays as one joins or leaves
  pub moves_declared : (old new : List Bool) → MovesRoster count old new → AreDeclared count old → AreDeclared count new
  moves_declared old new (same is) before = subst (AreDeclared count) (sym is) before
  moves_declared old new (joins who declared is) before =
      subst (AreDeclared count) (sym is) (set_declared old who true (λ joined. declared) before)
  moves_declared old new (leaves who secondary is) before =
      let out : false ≡ true → who < count = λ wrong. cc in
      subst (AreDeclared count) (sym is) (set_declared old who false out before)

  -- and through all changes
  pub changes_declared : (deadline : ℕ) (may_fail : ℕ → Option (List FailingCall)) (denies : Denials) (old new : SegsView)
      → Changes count deadline may_fail denies old new
      → AreDeclared count old.roster → AreDeclared count new.roster
  changes_declared deadline may_fail denies _ _ (stays segs) before = before
  changes_declared deadline may_fail denies _ _ (alters old new one) before = moves_declared old.roster new.roster one.roster before
  changes_declared deadline may_fail denies _ _ (goes_on old mid new here there) before =
      changes_declared deadline may_fail denies mid new there (changes_declared deadline may_fail denies old mid here before)
