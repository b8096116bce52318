-- Writes of links: beside a list, at its first key and at its last one.
use Rattle.std.proofs.Common.{◌≡◌, ℕ, List, [], ◌∷◌, true, false, Option, Some, None, nat_eq, option_map, ap, ◌∙◌, subst}
use Rattle.std.proofs.lemmas.Bool.{both_ways, or_parts}
use Rattle.std.proofs.lemmas.Option.{same_Some}
use Rattle.hp_chain.specs.Chain.{Keyed, Place, Places, has_key, AreApart, first_key, last_key, Spells}
use Rattle.hp_chain.specs.Writes.{to_next, to_prev, to_value, with_next, with_prev, with_value, with_place}
use Rattle.hp_chain.proofs.Keys.{IsBeside, has_key-own, lacking_beside}
use Rattle.hp_chain.proofs.Spelling.{write_beside, written-same, written-other}

module _ {X : Type 0} (at : Places X) (before : Option ℕ) (xs : List (Keyed X)) (after : Option ℕ) where
  -- a list stays where a link, a value or a place of a key beside it is written
  pub next_beside : (key next : Option ℕ) → IsBeside key xs → Spells at before xs after → Spells (with_next key next at) before xs after
  next_beside key next beside spelled = write_beside key (option_map (to_next next)) at before xs after beside spelled

  pub prev_beside : (key prev : Option ℕ) → IsBeside key xs → Spells at before xs after → Spells (with_prev key prev at) before xs after
  prev_beside key prev beside spelled = write_beside key (option_map (to_prev prev)) at before xs after beside spelled

  pub value_beside : (key : ℕ) (value : X) → has_key key xs ≡ false → Spells at before xs after
      → Spells (with_value key value at) before xs after
  value_beside key value lacks spelled = write_beside (Some key) (option_map (to_value value)) at before xs after (lacking_beside key xs lacks) spelled

  pub place_beside : (key : ℕ) (slot : Option (Place X)) → has_key key xs ≡ false → Spells at before xs after
      → Spells (with_place key slot at) before xs after
  place_beside key slot lacks spelled = write_beside (Some key) (λ _. slot) at before xs after (lacking_beside key xs lacks) spelled

module _ {X : Type 0} where
  -- the first key of a list names another key before it
  pub relink_first : (at : Places X) (before : Option ℕ) (xs : List (Keyed X)) (after prev : Option ℕ)
      → AreApart xs → Spells at before xs after → Spells (with_prev (first_key xs None) prev at) prev xs after
  relink_first at before [] after prev apart spelled = tt
  relink_first at before (x ∷ xs) after prev apart spelled = (
    written-same x.key (option_map (to_prev prev)) at ∙ ap (option_map (to_prev prev)) spelled.0,
    prev_beside at (Some x.key) xs after (Some x.key) prev (lacking_beside x.key xs apart.0) spelled.1,
  )

  -- the last key of a list with an element is not one that its rest lacks
  last_is_other : (x : Keyed X) (xs : List (Keyed X)) (key : ℕ) → has_key key (x ∷ xs) ≡ false → last_key (Some x.key) xs ≡ Some key → ⊥
  last_is_other x [] key lacks is = both_ways (has_key key (x ∷ [])) lacks (subst (λ (k : ℕ). has_key k (x ∷ []) ≡ true) (same_Some x.key key is) (has_key-own x []))
  last_is_other x (y ∷ ys) key lacks is = last_is_other y ys key (or_parts (nat_eq x.key key) (has_key key (y ∷ ys)) lacks).1 is

  -- the last key of a list names another key after it
  pub relink_last : (at : Places X) (before : Option ℕ) (xs : List (Keyed X)) (after next : Option ℕ)
      → AreApart xs → Spells at before xs after → Spells (with_next (last_key before xs) next at) before xs next
  relink_last at before [] after next apart spelled = tt
  relink_last at before (x ∷ []) after next apart spelled =
      (written-same x.key (option_map (to_next next)) at ∙ ap (option_map (to_next next)) spelled.0, tt)
  relink_last at before (x ∷ y ∷ ys) after next apart spelled = (
    written-other (last_key (Some y.key) ys) (option_map (to_next next)) at x.key (λ is. last_is_other y ys x.key apart.0 is) ∙ spelled.0,
    relink_last at (Some x.key) (y ∷ ys) after next apart.1 spelled.1,
  )
