-- A walk along the links gives the list, forwards and back, and a list is no longer than there are keys.
use Rattle.std.proofs.Common.{◌≡◌, ℕ, zero, suc, ◌+◌, ◌-◌, ◌<◌, ◌≤◌, List, [], ◌∷◌, ◌++◌, true, false, Option, Some, None, nat_eq, map}
use Rattle.std.proofs.Common.{length, reverse, refl, sym, ap, ◌∙◌, subst, arith, append_assoc, append-nil, eqb, eq-eqb, inl, inr}
use Rattle.std.proofs.lemmas.Bool.{or_cases, or_parts, or_left, or_right, eqb-true, eqb-false, ne_eqb}
use Rattle.std.proofs.lemmas.List.{length-map, reverse-append}
use Rattle.std.proofs.lemmas.Map.Steps.{length-le_from_distinct_below}
use Rattle.std.specs.List.{AllByRecursion, IsDistinct, list_any}
use Rattle.hp_chain.specs.Chain.{Keyed, Place, Places, has_key, AreApart, first_key, last_key, Spells, visit, walk_along, walk, walk_back}
use Rattle.hp_chain.specs.Laws.{HasOneOrder}
use Rattle.hp_chain.proofs.Keys.{found_at}
use Rattle.hp_chain.proofs.Spelling.{middle_place}

module _ {X : Type 0} where
  pub walk-none : (link : Place X → Option ℕ) (at : Places X) (n : ℕ) → walk_along link at n None ≡ []
  walk-none link at zero = refl
  walk-none link at (suc n) = refl

  -- one step from a key that has something
  pub walk-some : (link : Place X → Option ℕ) (at : Places X) (n key : ℕ) (place : Place X) → at key ≡ Some place
      → walk_along link at (suc n) (Some key) ≡ (record { key = key; value = place.value }) ∷ walk_along link at n (link place)
  walk-some link at n key place is = ap (λ (slot : Option (Place X)). visit link key slot (λ (other : Option ℕ). walk_along link at n other)) is

  -- the walk from the first key of a list is the list
  pub walk_is : (at : Places X) (n : ℕ) (before : Option ℕ) (xs : List (Keyed X)) → length xs ≤ n → Spells at before xs None
      → walk at n (first_key xs None) ≡ xs
  walk_is at n before [] within spelled = walk-none (λ place. place.next) at n
  walk_is at zero before (x ∷ xs) within spelled = absurd (omega (arith, within))
  walk_is at (suc n) before (x ∷ xs) within spelled =
      walk-some (λ place. place.next) at n x.key (record { prev = before; next = first_key xs None; value = x.value }) spelled.0
      ∙ ap (λ zs. x ∷ zs) (walk_is at n (Some x.key) xs (omega (arith, within)) spelled.1)

  -- the walk back from the last key of a list is the list from its end, and then goes on before it
  walked_back : (at : Places X) (n more : ℕ) (before : Option ℕ) (xs : List (Keyed X)) (after : Option ℕ) → n ≡ length xs + more
      → Spells at before xs after
      → walk_back at n (last_key before xs) ≡ reverse xs ++ walk_back at more before
  walked_back at n more before [] after enough spelled = let same : n ≡ more = omega (arith, enough) in ap (λ (k : ℕ). walk_back at k before) same
  walked_back at n more before (x ∷ xs) after enough spelled =
      walked_back at n (suc more) (Some x.key) xs after (omega (arith, enough)) spelled.1
      ∙ ap (λ (zs : List (Keyed X)). reverse xs ++ zs) (walk-some (λ place. place.prev) at more x.key (record { prev = before; next = first_key xs after; value = x.value }) spelled.0)
      ∙ sym (append_assoc (reverse xs) (x ∷ []) (walk_back at more before))
      ∙ ap (λ (zs : List (Keyed X)). zs ++ walk_back at more before) (sym (reverse-append (x ∷ []) xs))

  pub walk_back_is : (at : Places X) (n : ℕ) (xs : List (Keyed X)) (after : Option ℕ) → length xs ≤ n → Spells at None xs after
      → walk_back at n (last_key None xs) ≡ reverse xs
  walk_back_is at n xs after within spelled =
      walked_back at n (n - length xs) None xs after (omega (arith, within)) spelled
      ∙ ap (λ (zs : List (Keyed X)). reverse xs ++ zs) (walk-none (λ place. place.prev) at (n - length xs))
      ∙ append-nil (reverse xs)

  pub has_one_order : (at : Places X) (xs : List (Keyed X)) (n : ℕ) → Spells at None xs None → length xs ≤ n → HasOneOrder at xs n
  has_one_order at xs n spelled within = record { forwards = walk_is at n None xs within spelled; backwards = walk_back_is at n xs None within spelled }

  -- a key of a list has something
  pub spelled_place : (at : Places X) (before : Option ℕ) (xs : List (Keyed X)) (after : Option ℕ) (key : ℕ) → Spells at before xs after
      → has_key key xs ≡ true
      → (place : Place X) × (at key ≡ Some place)
  spelled_place at before xs after key spelled has =
      let here = found_at key xs has in
      let place : Place X = record { prev = last_key before here.front; next = first_key here.back after; value = here.found.value } in (
        place,
        subst (λ (k : ℕ). at k ≡ Some place) here.same
            (middle_place at before here.front here.found here.back after (subst (λ (zs : List (Keyed X)). Spells at before zs after) here.is spelled)),
      )

  abbrev keys : List (Keyed X) → List ℕ
  keys xs = map (λ (e : Keyed X). e.key) xs

  among_keys : (key : ℕ) (xs : List (Keyed X)) → list_any (eqb key) (keys xs) ≡ true → has_key key xs ≡ true
  among_keys key [] has = has
  among_keys key (x ∷ xs) has = elim (or_cases (eqb key x.key) (list_any (eqb key) (keys xs)) has) [
    | inl same ↦ or_left (nat_eq x.key key) (has_key key xs) (eq-eqb x.key key (sym (eqb-true key x.key same)))
    | inr later ↦ or_right (nat_eq x.key key) (has_key key xs) (among_keys key xs later)
  ]

  others : (key : ℕ) (xs : List (Keyed X)) → has_key key xs ≡ false → AllByRecursion (λ other. eqb key other ≡ false) (keys xs)
  others key [] lacks = tt
  others key (x ∷ xs) lacks =
      let parts = or_parts (nat_eq x.key key) (has_key key xs) lacks in
      (ne_eqb key x.key (λ same. eqb-false x.key key parts.0 (sym same)), others key xs parts.1)

  distinct : (xs : List (Keyed X)) → AreApart xs → IsDistinct eqb (keys xs)
  unfolding IsDistinct
  distinct [] apart = tt
  distinct (x ∷ xs) apart = (others x.key xs apart.0, distinct xs apart.1)

  -- where only keys below a number have anything, a list is no longer than that number
  pub length_spelled : (at : Places X) (room : ℕ) (before : Option ℕ) (xs : List (Keyed X)) (after : Option ℕ)
      → ((key : ℕ) (place : Place X) → at key ≡ Some place → key < room) → AreApart xs → Spells at before xs after → length xs ≤ room
  length_spelled at room before xs after below apart spelled =
      let bounded : length (keys xs) ≤ room = length-le_from_distinct_below (keys xs) room (distinct xs apart)
      (λ key has. let place = spelled_place at before xs after key spelled (among_keys key xs has) in below key place.0 place.1) in
      omega (arith, bounded, length-map xs (λ (e : Keyed X). e.key))
