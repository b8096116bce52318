-- Links that have lists: the lists are those of the walks, no key is in two of them, and one list may change.
use Rattle.std.proofs.Common.{◌≡◌, ◌≢◌, ℕ, zero, suc, ◌<◌, List, [], ◌∷◌, ◌++◌, true, false, Option, Some, None, length, set, option_map}
use Rattle.std.proofs.Common.{slice_get, refl, sym, ap, ◌∙◌, subst, arith, inl, inr}
use Rattle.std.proofs.lemmas.Bool.{cases_eq, or_cases, or_parts, false_from_ne_true, false≢true}
use Rattle.std.proofs.lemmas.List.{same_lists, length-map, length-set, get_or-map, get_or-set_same, get_or-set_other, get_or_default}
use Rattle.std.proofs.lemmas.Option.{none-some, same_Some, slice_get_within}
use Rattle.std.specs.List.{AllByRecursion}
use Rattle.hp_chain.specs.Chain.{Keyed, Place, first_key, last_key, has_key, Spells}
use Rattle.hp_chain.proofs.Keys.{IsBeside, found_at}
use Rattle.hp_chain.proofs.Spelling.{middle_place}
use Rattle.hp_chain.proofs.Walks.{walk_is, length_spelled}
use Rattle.hp_freelist.specs.declared.link.Link.{Link}
use Rattle.hp_freelist.specs.Lists.{list_class, list_at, is_listed}
use Rattle.hp_freelist.specs.Heads.{head_at}
use Rattle.hp_freelist.specs.Links.{place_of, place_at, list_from, lists_of, IsOfClass, IsListLinked, IsLinked}

-- what holds of each element holds of the one in the middle
pub middle_holds : (P : Keyed ℕ → Type 0) (xs : List (Keyed ℕ)) (e : Keyed ℕ) (ys : List (Keyed ℕ)) → AllByRecursion P (xs ++ e ∷ ys) → P e
middle_holds P [] e ys all = all.0
middle_holds P (x ∷ xs) e ys all = middle_holds P xs e ys all.1

-- and of the others without it
pub others_hold : (P : Keyed ℕ → Type 0) (xs : List (Keyed ℕ)) (e : Keyed ℕ) (ys : List (Keyed ℕ)) → AllByRecursion P (xs ++ e ∷ ys)
    → AllByRecursion P (xs ++ ys)
others_hold P [] e ys all = all.1
others_hold P (x ∷ xs) e ys all = (all.0, others_hold P xs e ys all.1)

module _ (links : List Link) where
  within_slot : (key : ℕ) (slot : Option Link) (place : Place ℕ) → slice_get links key ≡ slot → option_map place_of slot ≡ Some place
      → key < length links
  within_slot key None place is has = absurd (none-some place has)
  within_slot key (Some link) place is has = slice_get_within links key link is

  -- only keys below the number of links have anything
  pub place_within : (key : ℕ) (place : Place ℕ) → place_at links key ≡ Some place → key < length links
  place_within key place has = within_slot key (slice_get links key) place refl has

  -- a list is the walk from its first key
  pub list_from_is : (class : ℕ) (first : Option ℕ) (list : List (Keyed ℕ)) → IsListLinked links class first list
      → list_from links first ≡ list
  list_from_is class first list is =
      ap (λ (key : Option ℕ). list_from links key) is.head
      ∙ walk_is (place_at links) (length links) None list (length_spelled (place_at links) (length links) None list None place_within is.apart is.spelled) is.spelled

  -- what stands under a key of a list
  pub filed_place : (class : ℕ) (first : Option ℕ) (list : List (Keyed ℕ)) (key : ℕ) → IsListLinked links class first list
      → has_key key list ≡ true
      → (place : Place ℕ) × (place_at links key ≡ Some place) × IsOfClass class (record { key = key; value = place.value })
  filed_place class first list key is has =
      let here = found_at key list has in
      let place : Place ℕ = record { prev = last_key None here.front; next = first_key here.back None; value = here.found.value } in
      let spelled = subst (λ (zs : List (Keyed ℕ)). Spells (place_at links) None zs None) here.is is.spelled in
      let classed = middle_holds (IsOfClass class) here.front here.found here.back (subst (λ (zs : List (Keyed ℕ)). AllByRecursion (IsOfClass class) zs) here.is is.classed) in (
        place,
        subst (λ (k : ℕ). place_at links k ≡ Some place) here.same (middle_place (place_at links) None here.front here.found here.back None spelled),
        record { least = classed.least; is = classed.is },
      )

module _ (links : List Link) (firsts : List (Option ℕ)) (lists : List (List (Keyed ℕ))) (linked : IsLinked links firsts lists) where
  -- the lists are those of the walks
  pub lists_are : lists_of links firsts ≡ lists
  lists_are =
      same_lists (lists_of links firsts) lists (length-map firsts (list_from links) ∙ linked.heads ∙ sym linked.count)
      (λ class d below.
      let counted : class < length firsts = omega (arith, below, length-map firsts (list_from links)) in
      get_or-map (list_from links) firsts class None d counted
      ∙ list_from_is links class (head_at firsts class) (list_at lists class) (linked.linked class (omega (arith, counted, linked.heads)))
      ∙ get_or_default lists class [] d (omega (arith, counted, linked.heads, linked.count)))

  -- so they are linked as the walks have them
  pub linked_walks : IsLinked links firsts (lists_of links firsts)
  linked_walks = subst (λ (all : List (List (Keyed ℕ))). IsLinked links firsts all) (sym lists_are) linked

  -- a key is in the list of one class
  pub one_class : (key class other : ℕ) → class < 13 → other < 13 → has_key key (list_at lists class) ≡ true
      → has_key key (list_at lists other) ≡ true → class ≡ other
  one_class key class other below within has has_too =
      let here = filed_place links class (head_at firsts class) (list_at lists class) key (linked.linked class below) has in
      let there = filed_place links other (head_at firsts other) (list_at lists other) key (linked.linked other within) has_too in
      sym here.2.is ∙ ap (λ (place : Place ℕ). list_class place.value) (same_Some here.0 there.0 (sym here.1 ∙ there.1)) ∙ there.2.is

  -- a key of one list is beside the others
  pub beside_others : (class other : ℕ) (key : Option ℕ) → class < 13 → other < 13 → other ≢ class
      → ((k : ℕ) → key ≡ Some k → has_key k (list_at lists class) ≡ true) → IsBeside key (list_at lists other)
  beside_others class other key below within differs own k is =
      false_from_ne_true (has_key k (list_at lists other)) (λ has. differs (one_class k other class within below has (own k is)))

-- another list in one class, where the links still have the others
pub step : (old new : List Link) (firsts : List (Option ℕ)) (lists : List (List (Keyed ℕ))) (class : ℕ) (first : Option ℕ) (list : List (Keyed ℕ))
    → class < 13
    → IsLinked old firsts lists → IsListLinked new class first list
    → ((other : ℕ) → other < 13 → other ≢ class → Spells (place_at new) None (list_at lists other) None)
    → IsLinked new (set firsts class first) (set lists class list)
step old new firsts lists class first list below linked changed spelled = record {
  heads = length-set firsts class first ∙ linked.heads;
  count = length-set lists class list ∙ linked.count;
  linked = λ other within. elim (cases_eq other class) [
    | inl is ↦
        let P : ℕ → Type 0 = λ k. IsListLinked new k (head_at (set firsts class first) k) (list_at (set lists class list) k) in
        let there : P class =
        subst (λ (key : Option ℕ). IsListLinked new class key (list_at (set lists class list) class)) (sym (get_or-set_same firsts class first None (omega (arith, below, linked.heads))))
        (subst (λ (zs : List (Keyed ℕ)). IsListLinked new class first zs) (sym (get_or-set_same lists class list [] (omega (arith, below, linked.count)))) changed) in
        subst P (sym is) there
    | inr differs ↦
        let was = linked.linked other within in
        let still : IsListLinked new other (head_at firsts other) (list_at lists other) =
        record { head = was.head; spelled = spelled other within differs; apart = was.apart; classed = was.classed } in
        subst (λ (key : Option ℕ). IsListLinked new other key (list_at (set lists class list) other)) (sym (get_or-set_other firsts class other first None differs))
        (subst (λ (zs : List (Keyed ℕ)). IsListLinked new other (head_at firsts other) zs) (sym (get_or-set_other lists class other list [] differs)) still)
  ];
}

-- a key that is in no list is not in that of a class, and one that is in some list is in that of a class
pub unlisted_at : (key : ℕ) (lists : List (List (Keyed ℕ))) (class : ℕ) → is_listed key lists ≡ false
    → has_key key (list_at lists class) ≡ false
unlisted_at key [] class unlisted = refl
unlisted_at key (list ∷ lists) zero unlisted = (or_parts (has_key key list) (is_listed key lists) unlisted).0
unlisted_at key (list ∷ lists) (suc class) unlisted = unlisted_at key lists class (or_parts (has_key key list) (is_listed key lists) unlisted).1

pub listed_at : (key : ℕ) (lists : List (List (Keyed ℕ))) → is_listed key lists ≡ true
    → (class : ℕ) × (class < length lists) × (has_key key (list_at lists class) ≡ true)
listed_at key [] listed = absurd (false≢true listed)
listed_at key (list ∷ lists) listed = elim (or_cases (has_key key list) (is_listed key lists) listed) [
  | inl here ↦ (zero, omega arith, here)
  | inr later ↦ let rest = listed_at key lists later in (suc rest.0, omega (arith, rest.1), rest.2)
]
