-- A memory that has a list, in parts, and where another one has it too.
use Rattle.std.proofs.Common.{◌≡◌, ℕ, List, [], ◌∷◌, ◌++◌, true, Option, Some, None, nat_eq, refl, sym, ap, ◌∙◌, subst}
use Rattle.std.proofs.lemmas.Bool.{cond-true, cond-false, both_ways, or_right, ne_eqb}
use Rattle.std.proofs.Common.{eq-eqb}
use Rattle.hp_chain.specs.Chain.{Keyed, Place, Places, has_key, first_key, last_key, Spells}
use Rattle.hp_chain.specs.Writes.{written}
use Rattle.hp_chain.proofs.Keys.{IsBeside, has_key-own, first_key-append}

module _ {X : Type 0} where
  -- the same list where what comes before it or after it is named otherwise
  pub split_spells : (at : Places X) (before : Option ℕ) (xs ys : List (Keyed X)) (after : Option ℕ)
      → Spells at before (xs ++ ys) after → Spells at before xs (first_key ys after) × Spells at (last_key before xs) ys after
  split_spells at before [] ys after spelled = (tt, spelled)
  split_spells at before (x ∷ xs) ys after spelled =
      let rest = split_spells at (Some x.key) xs ys after spelled.1 in
      ((subst (λ (o : Option ℕ). at x.key ≡ Some (record { prev = before; next = o; value = x.value })) (first_key-append xs ys after) spelled.0, rest.0), rest.1)

  pub join_spells : (at : Places X) (before : Option ℕ) (xs ys : List (Keyed X)) (after : Option ℕ)
      → Spells at before xs (first_key ys after) → Spells at (last_key before xs) ys after → Spells at before (xs ++ ys) after
  join_spells at before [] ys after front back = back
  join_spells at before (x ∷ xs) ys after front back = (
    subst (λ (o : Option ℕ). at x.key ≡ Some (record { prev = before; next = o; value = x.value })) (sym (first_key-append xs ys after)) front.0,
    join_spells at (Some x.key) xs ys after front.1 back,
  )

  -- two memories that have the same under the keys of a list
  pub spells-same : (old new : Places X) (before : Option ℕ) (xs : List (Keyed X)) (after : Option ℕ)
      → ((key : ℕ) → has_key key xs ≡ true → new key ≡ old key) → Spells old before xs after → Spells new before xs after
  spells-same old new before [] after same spelled = tt
  spells-same old new before (x ∷ xs) after same spelled = (
    same x.key (has_key-own x xs) ∙ spelled.0,
    spells-same old new (Some x.key) xs after (λ key has. same key (or_right (nat_eq x.key key) (has_key key xs) has)) spelled.1,
  )

  -- the element in the middle
  pub middle_place : (at : Places X) (before : Option ℕ) (xs : List (Keyed X)) (e : Keyed X) (ys : List (Keyed X)) (after : Option ℕ)
      → Spells at before (xs ++ e ∷ ys) after
      → at e.key ≡ Some (record { prev = last_key before xs; next = first_key ys after; value = e.value })
  middle_place at before xs e ys after spelled = (split_spells at before xs (e ∷ ys) after spelled).1.0

  -- a write under another key
  pub written-other : (key : Option ℕ) (change : Option (Place X) → Option (Place X)) (at : Places X) (other : ℕ)
      → (key ≡ Some other → ⊥) → written key change at other ≡ at other
  written-other None change at other differs = refl
  written-other (Some key) change at other differs =
      cond-false (nat_eq other key) (change (at other)) (at other) (ne_eqb other key (λ same. differs (ap Some (sym same))))

  pub written-same : (key : ℕ) (change : Option (Place X) → Option (Place X)) (at : Places X)
      → written (Some key) change at key ≡ change (at key)
  written-same key change at = cond-true (nat_eq key key) (change (at key)) (at key) (eq-eqb key key refl)

  -- a write beside a list
  pub write_beside : (key : Option ℕ) (change : Option (Place X) → Option (Place X)) (at : Places X) (before : Option ℕ) (xs : List (Keyed X)) (after : Option ℕ)
      → IsBeside key xs → Spells at before xs after → Spells (written key change at) before xs after
  write_beside key change at before xs after beside spelled =
      spells-same at (written key change at) before xs after
      (λ other has. written-other key change at other (λ is. both_ways (has_key other xs) (beside other is) has)) spelled
