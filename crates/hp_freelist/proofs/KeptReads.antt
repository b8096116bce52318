-- What is kept under a key, as it is read.
use Rattle.std.proofs.Common.{◌≡◌, ℕ, zero, suc, ◌-◌, ◌<◌, ◌≤◌, List, [], ◌∷◌, ◌++◌, Option, Some, None, IfSome, IsSomeAnd, length, get_or, slice_get, refl, sym, ap, ap₂, ◌∙◌, subst, arith}
use Rattle.std.proofs.lemmas.Option.{same_Some}
use Rattle.hp_chain.specs.Chain.{Keyed, Place, Places, visit, walk}
use Rattle.hp_chain.proofs.Walks.{walk-some}
use Rattle.hp_freelist.specs.declared.link.Link.{Link}
use Rattle.hp_freelist.specs.Greatest.{IsGreatest}
use Rattle.hp_freelist.specs.Links.{place_of, place_at, list_from}
use Rattle.hp_freelist.specs.Kept.{KeepsGreatest}
use Rattle.hp_freelist.proofs.RoomLemmas.{read_place}
use Rattle.hp_freelist.proofs.LinkedLemmas.{place_within}
use Rattle.hp_freelist.proofs.SearchLemmas.{left_none}
use Rattle.hp_freelist.proofs.GreatestLemmas.{AllByRecursion-weaker}
use Rattle.hp_freelist.proofs.KeptLemmas.{head_of, tail_of, none_of_none, none_greater, greatest_first, greatest_after}

-- what holds of what is kept holds of what is read
pub kept_read : (P : ℕ → Type 0) (kept : List ℕ) (key greatest : ℕ) → key < length kept → greatest ≡ get_or kept key greatest
    → IsSomeAnd (slice_get kept key) P → P greatest
kept_read P [] key greatest within is holds = absurd (omega (arith, within))
kept_read P (first ∷ kept) zero greatest within is holds = subst P (sym is) holds
kept_read P (first ∷ kept) (suc key) greatest within is holds = kept_read P kept key greatest (omega (arith, within)) is holds

heads_same : (e other : Keyed ℕ) (es others : List (Keyed ℕ)) → e ∷ es ≡ other ∷ others → (e ≡ other) × (es ≡ others)
heads_same e other es others is = (ap (λ (zs : List (Keyed ℕ)). head_of e zs) is, ap tail_of is)

-- an element of a walk has its value under its key
pub record IsThere (at : Places ℕ) (e : Keyed ℕ) : Type 0 where
  pub place : Place ℕ
  pub stands : at e.key ≡ Some place
  pub value : e.value ≡ place.value

module _ (at : Places ℕ) where
  visited : (n key : ℕ) (slot : Option (Place ℕ)) (front : List (Keyed ℕ)) (e : Keyed ℕ) (back : List (Keyed ℕ)) → at key ≡ slot
      → visit (λ (place : Place ℕ). place.next) key slot (λ (other : Option ℕ). walk at n other) ≡ front ++ e ∷ back
      → ((next : Option ℕ) (xs : List (Keyed ℕ)) → walk at n next ≡ xs ++ e ∷ back → IsThere at e) → IsThere at e
  visited n key None front e back here is later = absurd (none_of_none front e back is)
  visited n key (Some place) [] e back here is later =
      let same = (heads_same (record { key = key; value = place.value }) e (walk at n place.next) back is).0 in
      subst (λ (x : Keyed ℕ). IsThere at x) same (record { place = place; stands = here; value = refl })
  visited n key (Some place) (x ∷ front) e back here is later =
      later place.next front (heads_same (record { key = key; value = place.value }) x (walk at n place.next) (front ++ e ∷ back) is).1

  pub walked_there : (n : ℕ) (next : Option ℕ) (front : List (Keyed ℕ)) (e : Keyed ℕ) (back : List (Keyed ℕ)) → walk at n next ≡ front ++ e ∷ back
      → IsThere at e
  walked_there zero next front e back is = absurd (none_of_none front e back is)
  walked_there (suc n) None front e back is = absurd (none_of_none front e back is)
  walked_there (suc n) (Some key) front e back is =
      visited n key (at key) front e back refl is (λ next xs same. walked_there n next xs e back same)

module _ (links : List Link) (kept : List ℕ) where
  -- the greatest of a walk has a link, and its value is read there
  pub greatest_within : (next : Option ℕ) (key : ℕ) → IsGreatest (list_from links next) key → key < length links
  greatest_within next key greatest =
      let there = walked_there (place_at links) (length links) next greatest.front greatest.found greatest.back greatest.is in
      subst (λ (k : ℕ). k < length links) greatest.same (place_within links greatest.found.key there.place there.stands)

  pub greatest_value : (next : Option ℕ) (key : ℕ) (link : Link) (greatest : IsGreatest (list_from links next) key) → link ≡ get_or links key link
      → greatest.found.value ≡ link.whole
  greatest_value next key link greatest read =
      let there = walked_there (place_at links) (length links) next greatest.front greatest.found greatest.back greatest.is in
      let stands : place_at links key ≡ Some there.place = subst (λ (k : ℕ). place_at links k ≡ Some there.place) greatest.same there.stands in
      there.value ∙ ap (λ (place : Place ℕ). place.value) (same_Some there.place (place_of link) (sym stands ∙ read_place links key link (greatest_within next key greatest) read))

  -- of a list that begins with a key, the greatest is kept under it
  pub begins_kept : (key : ℕ) (list es : List (Keyed ℕ)) (e : Keyed ℕ) → list ≡ e ∷ es → e.key ≡ key → KeepsGreatest kept list
      → IsSomeAnd (slice_get kept key) (IsGreatest list)
  begins_kept key list es e is same holds =
      let there : IsSomeAnd (slice_get kept e.key) (IsGreatest (e ∷ es)) = (subst (λ (zs : List (Keyed ℕ)). KeepsGreatest kept zs) is holds).0 in
      subst (λ (zs : List (Keyed ℕ)). IsSomeAnd (slice_get kept key) (IsGreatest zs)) (sym is) (subst (λ (k : ℕ). IsSomeAnd (slice_get kept k) (IsGreatest (e ∷ es))) same there)

-- a key that has a link has a place
placed : (links : List Link) (key : ℕ) → key < length links → (place : Place ℕ) × (place_at links key ≡ Some place)
placed [] key within = absurd (omega (arith, within))
placed (link ∷ links) zero within = (place_of link, refl)
placed (link ∷ links) (suc key) within = placed links key (omega (arith, within))

module _ (links : List Link) (kept : List ℕ) (next : Option ℕ) (first : ℕ) (some : next ≡ Some first) (holds : KeepsGreatest kept (list_from links next))
    (within : IfSome next (λ k. (k < length links) × (length links ≤ length kept))) where
  first_within : (first < length links) × (length links ≤ length kept)
  first_within = subst (λ (key : Option ℕ). IfSome key (λ k. (k < length links) × (length links ≤ length kept))) some within

  pub first_kept : first < length kept
  first_kept = omega (arith, first_within.0, first_within.1)

  begins : IsSomeAnd (slice_get kept first) (IsGreatest (list_from links next))
  begins =
      let there = placed links first first_within.0 in
      let rest : ℕ = length links - 1 in
      let enough : length links ≡ suc rest = omega (arith, first_within.0) in
      begins_kept links kept first (list_from links next) (walk (place_at links) rest there.0.next) (record { key = first; value = there.0.value })
      (ap₂ (λ (n : ℕ) (key : Option ℕ). walk (place_at links) n key) enough some
      ∙ walk-some (λ (place : Place ℕ). place.next) (place_at links) rest first there.0 there.1)
      refl holds

  -- what is kept under the first key is the greatest
  module _ (greatest : ℕ) (read : greatest ≡ get_or kept first greatest) where
    pub read_greatest : IsGreatest (list_from links next) greatest
    read_greatest = kept_read (IsGreatest (list_from links next)) kept first greatest first_kept read begins

    pub read_within : greatest < length links
    read_within = greatest_within links kept next greatest read_greatest

    -- and a key before them has it for its own where it is greater, and else itself
    module _ (key whole : ℕ) (link : Link) (value : link ≡ get_or links greatest link) where
      pub later_greater : whole < link.whole → IsGreatest (record { key = key; value = whole } ∷ list_from links next) greatest
      later_greater less =
          let same = greatest_value links kept next greatest link read_greatest value in
          greatest_after (record { key = key; value = whole }) (list_from links next) greatest read_greatest (omega (arith, less, same))

      pub none_later : link.whole ≤ whole → IsGreatest (record { key = key; value = whole } ∷ list_from links next) key
      none_later above =
          let same = greatest_value links kept next greatest link read_greatest value in
          greatest_first (record { key = key; value = whole }) (list_from links next)
          (AllByRecursion-weaker (λ (e : Keyed ℕ). e.value ≤ read_greatest.found.value) (λ (e : Keyed ℕ). e.value ≤ whole) (λ e under. omega (arith, under, above, same))
          (list_from links next) (none_greater (list_from links next) greatest read_greatest))

-- a key with none after it
pub alone : (links : List Link) (next : Option ℕ) (key whole : ℕ) → next ≡ None → IsGreatest (record { key = key; value = whole } ∷ list_from links next) key
alone links next key whole none =
    subst (λ (zs : List (Keyed ℕ)). IsGreatest (record { key = key; value = whole } ∷ zs) key) (sym (left_none links (length links) next none))
    (greatest_first (record { key = key; value = whole }) [] tt)
