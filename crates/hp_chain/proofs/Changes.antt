-- What a memory has after an element was added, removed, changed, cut or joined.
use Rattle.std.proofs.Common.{◌≡◌, ℕ, List, [], ◌∷◌, ◌++◌, true, false, Option, Some, None, option_map, ap, ◌∙◌, subst}
use Rattle.std.proofs.lemmas.Bool.{both_ways}
use Rattle.std.proofs.lemmas.Option.{same_Some}
use Rattle.hp_chain.specs.Chain.{Keyed, Place, Places, has_key, AreApart, first_key, last_key, Spells}
use Rattle.hp_chain.specs.Writes.{to_next, to_prev, to_value, with_next, with_prev, with_value, with_place}
use Rattle.hp_chain.proofs.Keys.{has_key-own, apart_front, apart_back, apart_middle, apart_without, last_beside, first_beside}
use Rattle.hp_chain.proofs.Keys.{lacks_parts, lacks_both, first_key_among, last_key_among}
use Rattle.hp_chain.proofs.Spelling.{split_spells, join_spells, written-same, written-other}
use Rattle.hp_chain.proofs.Links.{next_beside, prev_beside, value_beside, place_beside, relink_first, relink_last}

module _ {X : Type 0} where
  -- an end of a list is none of the keys that the list lacks
  first_is_other : (xs : List (Keyed X)) (key : ℕ) → has_key key xs ≡ false → first_key xs None ≡ Some key → ⊥
  first_is_other xs key lacks is = both_ways (has_key key xs) lacks (first_key_among xs key is)

  last_is_other : (xs : List (Keyed X)) (key : ℕ) → has_key key xs ≡ false → last_key None xs ≡ Some key → ⊥
  last_is_other xs key lacks is = both_ways (has_key key xs) lacks (last_key_among xs key is)

  -- a key that the list lacks comes to its head
  pub spells-headed : (at : Places X) (e : Keyed X) (xs : List (Keyed X)) → AreApart xs → has_key e.key xs ≡ false → Spells at None xs None
      → Spells (with_place e.key (Some (record { prev = None; next = first_key xs None; value = e.value })) (with_prev (first_key xs None) (Some e.key) at)) None (e ∷ xs) None
  spells-headed at e xs apart lacks spelled =
      let slot : Option (Place X) = Some (record { prev = None; next = first_key xs None; value = e.value }) in
      let linked : Places X = with_prev (first_key xs None) (Some e.key) at in (
        written-same e.key (λ _. slot) linked,
        place_beside linked (Some e.key) xs None e.key slot lacks (relink_first at None xs None (Some e.key) apart spelled),
      )

  -- a key that the list lacks comes between two parts of it
  pub spells-added : (at : Places X) (xs : List (Keyed X)) (e : Keyed X) (ys : List (Keyed X)) → AreApart (xs ++ ys)
      → has_key e.key (xs ++ ys) ≡ false → Spells at None (xs ++ ys) None
      → Spells (with_prev (first_key ys None) (Some e.key) (with_next (last_key None xs) (Some e.key) (with_place e.key (Some (record { prev = last_key None xs; next = first_key ys None; value = e.value })) at))) None (xs ++ e ∷ ys) None
  spells-added at xs e ys apart lacks spelled =
      let prev : Option ℕ = last_key None xs in
      let next : Option ℕ = first_key ys None in
      let slot : Option (Place X) = Some (record { prev = prev; next = next; value = e.value }) in
      let filled : Places X = with_place e.key slot at in
      let linked : Places X = with_next prev (Some e.key) filled in
      let front_lacks = (lacks_parts e.key xs ys lacks).0 in
      let back_lacks = (lacks_parts e.key xs ys lacks).1 in
      let parts = split_spells at None xs ys None spelled in
      let front = prev_beside linked None xs (Some e.key) next (Some e.key) (first_beside xs ys apart)
      (relink_last filled None xs next (Some e.key) (apart_front xs ys apart) (place_beside at None xs next e.key slot front_lacks parts.0)) in
      let back = relink_first linked prev ys None (Some e.key) (apart_back xs ys apart)
      (next_beside filled prev ys None prev (Some e.key) (last_beside xs ys apart) (place_beside at prev ys None e.key slot back_lacks parts.1)) in
      let here : with_prev next (Some e.key) linked e.key ≡ slot =
      written-other next (option_map (to_prev (Some e.key))) linked e.key (first_is_other ys e.key back_lacks)
      ∙ written-other prev (option_map (to_next (Some e.key))) filled e.key (last_is_other xs e.key front_lacks)
      ∙ written-same e.key (λ _. slot) at in
      join_spells (with_prev next (Some e.key) linked) None xs (e ∷ ys) None front (here, back)

module _ {X : Type 0} (at : Places X) (xs : List (Keyed X)) (e : Keyed X) (ys : List (Keyed X)) (apart : AreApart (xs ++ e ∷ ys)) (spelled : Spells at None (xs ++ e ∷ ys) None) where
  -- the two beside an element name each other, and the element is out
  pub spells-bridged : Spells (with_prev (first_key ys None) (last_key None xs) (with_next (last_key None xs) (first_key ys None) at)) None (xs ++ ys) None
  spells-bridged =
      let prev : Option ℕ = last_key None xs in
      let next : Option ℕ = first_key ys None in
      let both = apart_without xs e ys apart in
      let parts = split_spells at None xs (e ∷ ys) None spelled in
      let bridged : Places X = with_next prev next at in
      let front = relink_last at None xs (Some e.key) next (apart_front xs ys both) parts.0 in
      let back = next_beside at (Some e.key) ys None prev next (last_beside xs ys both) parts.1.1 in
      join_spells (with_prev next prev bridged) None xs ys None
      (prev_beside bridged None xs next next prev (first_beside xs ys both) front)
      (relink_first bridged (Some e.key) ys None prev (apart_back xs ys both) back)

  -- the same, and its key is left with anything, as with nothing
  pub spells-hidden : (slot : Option (Place X))
      → Spells (with_place e.key slot (with_prev (first_key ys None) (last_key None xs) (with_next (last_key None xs) (first_key ys None) at))) None (xs ++ ys) None
  spells-hidden slot =
      place_beside (with_prev (first_key ys None) (last_key None xs) (with_next (last_key None xs) (first_key ys None) at)) None (xs ++ ys) None e.key slot
      (lacks_both e.key xs ys (apart_middle xs e ys apart).0 (apart_middle xs e ys apart).1) spells-bridged

  -- another value under its key
  pub spells-valued : (value : X) → Spells (with_value e.key value at) None (xs ++ (record { key = e.key; value = value }) ∷ ys) None
  spells-valued value =
      let parts = split_spells at None xs (e ∷ ys) None spelled in
      join_spells (with_value e.key value at) None xs ((record { key = e.key; value = value }) ∷ ys) None
      (value_beside at None xs (Some e.key) e.key value (apart_middle xs e ys apart).0 parts.0) (
        written-same e.key (option_map (to_value value)) at ∙ ap (option_map (to_value value)) parts.1.0,
        value_beside at (Some e.key) ys None e.key value (apart_middle xs e ys apart).1 parts.1.1,
      )

  -- another element under its key, with the same links
  pub spells-placed : (value : X)
      → Spells (with_place e.key (Some (record { prev = last_key None xs; next = first_key ys None; value = value })) at) None (xs ++ (record { key = e.key; value = value }) ∷ ys) None
  spells-placed value =
      let slot : Option (Place X) = Some (record { prev = last_key None xs; next = first_key ys None; value = value }) in
      let parts = split_spells at None xs (e ∷ ys) None spelled in
      join_spells (with_place e.key slot at) None xs ((record { key = e.key; value = value }) ∷ ys) None
      (place_beside at None xs (Some e.key) e.key slot (apart_middle xs e ys apart).0 parts.0)
      (written-same e.key (λ _. slot) at, place_beside at (Some e.key) ys None e.key slot (apart_middle xs e ys apart).1 parts.1.1)

  -- an element is cut in two, and the second part has a key that the list lacks
  pub spells-split : (first : X) (second : Keyed X) → has_key second.key (xs ++ e ∷ ys) ≡ false
      → Spells (with_prev (first_key ys None) (Some second.key)
      (with_place e.key (Some (record { prev = last_key None xs; next = Some second.key; value = first }))
      (with_place second.key (Some (record { prev = Some e.key; next = first_key ys None; value = second.value })) at)))
      None (xs ++ (record { key = e.key; value = first }) ∷ second ∷ ys) None
  spells-split first second lacks =
      let next : Option ℕ = first_key ys None in
      let first_slot : Option (Place X) = Some (record { prev = last_key None xs; next = Some second.key; value = first }) in
      let second_slot : Option (Place X) = Some (record { prev = Some e.key; next = next; value = second.value }) in
      let filled : Places X = with_place second.key second_slot at in
      let resized : Places X = with_place e.key first_slot filled in
      let parts = split_spells at None xs (e ∷ ys) None spelled in
      let front_lacks = (lacks_parts second.key xs (e ∷ ys) lacks).0 in
      let rest_lacks = (lacks_parts second.key xs (e ∷ ys) lacks).1 in
      let back_lacks = (lacks_parts second.key (e ∷ []) ys rest_lacks).1 in
      let own = apart_middle xs e ys apart in
      let others : Some e.key ≡ Some second.key → ⊥ = λ same. both_ways (has_key second.key (e ∷ ys)) rest_lacks (subst (λ (k : ℕ). has_key k (e ∷ ys) ≡ true) (same_Some e.key second.key same) (has_key-own e ys)) in
      let front = prev_beside resized None xs (Some e.key) next (Some second.key) (first_beside xs ys (apart_without xs e ys apart))
      (place_beside filled None xs (Some e.key) e.key first_slot own.0 (place_beside at None xs (Some e.key) second.key second_slot front_lacks parts.0)) in
      let back = relink_first resized (Some e.key) ys None (Some second.key) (apart_back xs ys (apart_without xs e ys apart))
      (place_beside filled (Some e.key) ys None e.key first_slot own.1 (place_beside at (Some e.key) ys None second.key second_slot back_lacks parts.1.1)) in
      let first_is : with_prev next (Some second.key) resized e.key ≡ first_slot =
      written-other next (option_map (to_prev (Some second.key))) resized e.key (first_is_other ys e.key own.1) ∙ written-same e.key (λ _. first_slot) filled in
      let second_is : with_prev next (Some second.key) resized second.key ≡ second_slot =
      written-other next (option_map (to_prev (Some second.key))) resized second.key (first_is_other ys second.key back_lacks)
      ∙ written-other (Some e.key) (λ _. first_slot) filled second.key others ∙ written-same second.key (λ _. second_slot) at in
      join_spells (with_prev next (Some second.key) resized) None xs ((record { key = e.key; value = first }) ∷ second ∷ ys) None front (first_is, (second_is, back))

module _ {X : Type 0} (at : Places X) (xs : List (Keyed X)) (e n : Keyed X) (ys : List (Keyed X)) (apart : AreApart (xs ++ e ∷ n ∷ ys)) (spelled : Spells at None (xs ++ e ∷ n ∷ ys) None) where
  -- an element takes in the next one, whose key is left with anything, as with nothing
  pub spells-joined : (joined : X) (slot : Option (Place X))
      → Spells (with_prev (first_key ys None) (Some e.key)
      (with_place e.key (Some (record { prev = last_key None xs; next = first_key ys None; value = joined })) (with_place n.key slot at)))
      None (xs ++ (record { key = e.key; value = joined }) ∷ ys) None
  spells-joined joined slot =
      let next : Option ℕ = first_key ys None in
      let joined_slot : Option (Place X) = Some (record { prev = last_key None xs; next = next; value = joined }) in
      let left : Places X = with_place n.key slot at in
      let resized : Places X = with_place e.key joined_slot left in
      let parts = split_spells at None xs (e ∷ n ∷ ys) None spelled in
      let rest = apart_back xs (e ∷ n ∷ ys) apart in
      let own = apart_middle xs e (n ∷ ys) apart in
      let own_back = (lacks_parts e.key (n ∷ []) ys own.1).1 in
      let gone = apart_middle xs n ys (apart_without xs e (n ∷ ys) apart) in
      let both = apart_without xs n ys (apart_without xs e (n ∷ ys) apart) in
      let front = prev_beside resized None xs (Some e.key) next (Some e.key) (first_beside xs ys both)
      (place_beside left None xs (Some e.key) e.key joined_slot own.0 (place_beside at None xs (Some e.key) n.key slot gone.0 parts.0)) in
      let back = relink_first resized (Some n.key) ys None (Some e.key) rest.1.1
      (place_beside left (Some n.key) ys None e.key joined_slot own_back (place_beside at (Some n.key) ys None n.key slot gone.1 parts.1.1.1)) in
      let joined_is : with_prev next (Some e.key) resized e.key ≡ joined_slot =
      written-other next (option_map (to_prev (Some e.key))) resized e.key (first_is_other ys e.key own_back) ∙ written-same e.key (λ _. joined_slot) left in
      join_spells (with_prev next (Some e.key) resized) None xs ((record { key = e.key; value = joined }) ∷ ys) None front (joined_is, back)
