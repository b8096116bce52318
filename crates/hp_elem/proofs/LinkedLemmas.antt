-- The links of a slab as a list, and what each edit makes of it.
use Rattle.std.proofs.Common.{◌≡◌, ℕ, ◌+◌, ◌≤◌, [], ◌∷◌, ◌++◌, true, false, Bool, Option, Some, None, is_some, IsSome, nat_eq, option_map, length, refl, sym, ap, ◌∙◌, subst, cond, arith, length-append, inl, inr}
use Rattle.std.proofs.lemmas.Bool.{cases_Bool, eqb-true, false_from_ne_true}
use Rattle.std.proofs.lemmas.Option.{same_Some, none-some}
use Rattle.std.proofs.lemmas.List.Sums.{count_by-le-length}
use Rattle.slab.specs.Slab.{Slab, get, slab_len, ContainsKey}
use Rattle.hp_base.specs.declared.span.Span.{Span}
use Rattle.hp_chain.specs.Chain.{Keyed, Place, Places, AreApart, Spells, walk, first_key, last_key, has_key}
use Rattle.hp_chain.specs.Writes.{to_value, written, with_value, with_next, with_prev, with_place}
use Rattle.hp_chain.proofs.Keys.{apart_middle, apart_without, apart_with, lacks_both, last_key-append, found_at, has_key_front, has_key_back, first_key_among, last_key_among}
use Rattle.hp_chain.proofs.Spelling.{middle_place}
use Rattle.hp_chain.proofs.Changes.{spells-added, spells-hidden, spells-valued}
use Rattle.hp_chain.proofs.Walks.{walk_is, spelled_place}
use Rattle.hp_elem.specs.declared.node.Node.{Node}
use Rattle.hp_elem.specs.Items.{Items, Stands, HasKey}
use Rattle.hp_elem.specs.Links.{place_of, place_at, items_of, IsLinked, IsKnown, end_unless}

-- the list is what a walk gives
pub linked_view : (slots : Slab Node) (first last : Option ℕ) (xs : Items) → IsLinked slots first last xs → items_of slots first ≡ xs
linked_view slots first last xs linked =
    let within : length xs ≤ length slots.slots = omega (arith, linked.counted, count_by-le-length (is_some {T = Node}) slots.slots) in
    ap (λ (o : Option ℕ). walk (place_at slots) (length slots.slots) o) linked.begins ∙ walk_is (place_at slots) (length slots.slots) None xs within linked.spelled

-- what a closing of the chain owes, once the list is known
pub record Closes (slots : Slab Node) (first last : Option ℕ) (xs : Items) : Type 0 where
  pub items : items_of slots first ≡ xs
  pub linked : IsLinked slots first last (items_of slots first)
  pub apart : AreApart (items_of slots first)

pub closes : (slots : Slab Node) (first last : Option ℕ) (xs : Items) → IsLinked slots first last xs → Closes slots first last xs
closes slots first last xs linked =
    let is = linked_view slots first last xs linked in
    record {
      items = is;
      linked = subst (λ (zs : Items). IsLinked slots first last zs) (sym is) linked;
      apart = subst (λ (zs : Items). AreApart zs) (sym is) linked.apart;
    }

-- a key of the list has a header
has_some : (slot : Option Node) (place : Place Span) → option_map place_of slot ≡ Some place → IsSome slot
has_some None place is = absurd (none-some place is)
has_some (Some node) place is = refl

pub known : (slots : Slab Node) (first last : Option ℕ) (xs : Items) (key : ℕ) → IsLinked slots first last xs → has_key key xs ≡ true → ContainsKey slots key
known slots first last xs key linked has =
    let here = spelled_place (place_at slots) None xs None key linked.spelled has in
    has_some (get slots key) here.0 here.1

pub fresh : (slots : Slab Node) (first last : Option ℕ) (xs : Items) (key : ℕ) → IsLinked slots first last xs → get slots key ≡ None → has_key key xs ≡ false
fresh slots first last xs key linked none =
    false_from_ne_true (has_key key xs) (λ has.
    let here = spelled_place (place_at slots) None xs None key linked.spelled has in
    none-some here.0 (sym (ap (option_map place_of) none) ∙ here.1))

pub known_option : (slots : Slab Node) (first last : Option ℕ) (xs : Items) (key : Option ℕ) → IsLinked slots first last xs → HasKey key xs → IsKnown slots key
known_option slots first last xs key linked has k is = known slots first last xs k linked (has k is)

-- the header of an element
pub header_at : (slots : Slab Node) (first last : Option ℕ) (xs : Items) (e : Keyed Span) (ys : Items) (node : Node)
    → IsLinked slots first last (xs ++ e ∷ ys) → get slots e.key ≡ Some node
    → place_of node ≡ record { prev = last_key None xs; next = first_key ys None; value = e.value }
header_at slots first last xs e ys node linked is =
    same_Some _ _ (sym (ap (option_map place_of) is) ∙ middle_place (place_at slots) None xs e ys None linked.spelled)

keyed : (e : Keyed Span) (key : ℕ) (value : Span) → e.key ≡ key → value ≡ e.value → e ≡ record { key = key; value = value }
keyed e key value same is = λ i. record { key = same i; value = sym is i }

pub stands_at : (slots : Slab Node) (first last : Option ℕ) (xs : Items) (key : ℕ) (node : Node)
    → IsLinked slots first last xs → has_key key xs ≡ true → get slots key ≡ Some node → Stands xs key node
stands_at slots first last xs key node linked has is =
    let here = found_at key xs has in
    let place = header_at slots first last here.front here.found here.back node (subst (λ (zs : Items). IsLinked slots first last zs) here.is linked)
    (subst (λ (k : ℕ). get slots k ≡ Some node) (sym here.same) is) in
    let same : here.found ≡ record { key = key; value = node.span } = keyed here.found key node.span here.same (ap (λ (p : Place Span). p.value) place) in
    record {
      front = here.front;
      back = here.back;
      is = here.is ∙ ap (λ (e : Keyed Span). here.front ++ e ∷ here.back) same;
      prev = ap (λ (p : Place Span). p.prev) place;
      next = ap (λ (p : Place Span). p.next) place;
    }

-- the neighbours of an element are keys of the list
pub front_keys : (xs : Items) (e : Keyed Span) (ys : Items) → HasKey (last_key None xs) (xs ++ e ∷ ys)
front_keys xs e ys k is = has_key_front k xs (e ∷ ys) (last_key_among xs k is)

pub back_keys : (xs : Items) (e : Keyed Span) (ys : Items) → HasKey (first_key ys None) (xs ++ e ∷ ys)
back_keys xs e ys k is = has_key_back k xs (e ∷ ys) (has_key_back k (e ∷ []) ys (first_key_among ys k is))

-- the ends of a list
last_some : (key : ℕ) (xs : Items) → (k : ℕ) × (last_key (Some key) xs ≡ Some k)
last_some key [] = (key, refl)
last_some key (x ∷ xs) = last_some x.key xs

end_some : (beyond : Option ℕ) (k : ℕ) (stays other : Option ℕ) → beyond ≡ Some k → end_unless beyond stays other ≡ stays
end_some beyond k stays other is = ap (λ (o : Option ℕ). end_unless o stays other) is

-- an element is added between two parts
begins-added : (xs : Items) (e : Keyed Span) (ys : Items) (first : Option ℕ) → first ≡ first_key (xs ++ ys) None
    → end_unless (last_key None xs) first (Some e.key) ≡ first_key (xs ++ e ∷ ys) None
begins-added [] e ys first is = refl
begins-added (x ∷ xs) e ys first is = let last = last_some x.key xs in end_some (last_key (Some x.key) xs) last.0 first (Some e.key) last.1 ∙ is

ends-added : (xs : Items) (e : Keyed Span) (ys : Items) (last : Option ℕ) → last ≡ last_key None (xs ++ ys)
    → end_unless (first_key ys None) last (Some e.key) ≡ last_key None (xs ++ e ∷ ys)
ends-added xs e [] last is = sym (last_key-append None xs (e ∷ []))
ends-added xs e (y ∷ ys) last is = is ∙ last_key-append None xs (y ∷ ys) ∙ sym (last_key-append None xs (e ∷ y ∷ ys))

pub linked_added : (old new : Slab Node) (first last : Option ℕ) (xs : Items) (e : Keyed Span) (ys : Items)
    → IsLinked old first last (xs ++ ys) → get old e.key ≡ None → slab_len new ≡ slab_len old + 1
    → place_at new ≡ with_prev (first_key ys None) (Some e.key) (with_next (last_key None xs) (Some e.key)
    (with_place e.key (Some (record { prev = last_key None xs; next = first_key ys None; value = e.value })) (place_at old)))
    → IsLinked new (end_unless (last_key None xs) first (Some e.key)) (end_unless (first_key ys None) last (Some e.key)) (xs ++ e ∷ ys)
linked_added old new first last xs e ys linked none len places =
    let lacks = fresh old first last (xs ++ ys) e.key linked none in
    record {
      spelled = subst (λ (at : Places Span). Spells at None (xs ++ e ∷ ys) None) (sym places) (spells-added (place_at old) xs e ys linked.apart lacks linked.spelled);
      apart = apart_with xs e ys linked.apart lacks;
      begins = begins-added xs e ys first linked.begins;
      ends = ends-added xs e ys last linked.ends;
      counted = omega (arith, len, linked.counted, length-append xs ys, length-append xs (e ∷ ys));
    }

-- an element is taken out
begins-removed : (xs : Items) (e : Keyed Span) (ys : Items) (first : Option ℕ) → first ≡ first_key (xs ++ e ∷ ys) None
    → end_unless (last_key None xs) first (first_key ys None) ≡ first_key (xs ++ ys) None
begins-removed [] e ys first is = refl
begins-removed (x ∷ xs) e ys first is = let last = last_some x.key xs in end_some (last_key (Some x.key) xs) last.0 first (first_key ys None) last.1 ∙ is

ends-removed : (xs : Items) (e : Keyed Span) (ys : Items) (last : Option ℕ) → last ≡ last_key None (xs ++ e ∷ ys)
    → end_unless (first_key ys None) last (last_key None xs) ≡ last_key None (xs ++ ys)
ends-removed xs e [] last is = sym (last_key-append None xs [])
ends-removed xs e (y ∷ ys) last is = is ∙ last_key-append None xs (e ∷ y ∷ ys) ∙ sym (last_key-append None xs (y ∷ ys))

pub linked_removed : (old new : Slab Node) (first last : Option ℕ) (xs : Items) (e : Keyed Span) (ys : Items)
    → IsLinked old first last (xs ++ e ∷ ys) → slab_len new + 1 ≡ slab_len old
    → place_at new ≡ with_place e.key None (with_prev (first_key ys None) (last_key None xs) (with_next (last_key None xs) (first_key ys None) (place_at old)))
    → IsLinked new (end_unless (last_key None xs) first (first_key ys None)) (end_unless (first_key ys None) last (last_key None xs)) (xs ++ ys)
linked_removed old new first last xs e ys linked len places = record {
  spelled = subst (λ (at : Places Span). Spells at None (xs ++ ys) None) (sym places) (spells-hidden (place_at old) xs e ys linked.apart linked.spelled None);
  apart = apart_without xs e ys linked.apart;
  begins = begins-removed xs e ys first linked.begins;
  ends = ends-removed xs e ys last linked.ends;
  counted = omega (arith, len, linked.counted, length-append xs ys, length-append xs (e ∷ ys));
}

-- an element has another value
written-agrees : (key : ℕ) (change other : Option (Place Span) → Option (Place Span)) (at : Places Span) → change (at key) ≡ other (at key)
    → written (Some key) change at ≡ written (Some key) other at
written-agrees key change other at same i k =
    (elim (cases_Bool (nat_eq k key)) as (λ _. cond (nat_eq k key) (change (at k)) (at k) ≡ cond (nat_eq k key) (other (at k)) (at k)) [
      | inl is ↦ ap (λ (b : Bool). cond b (change (at k)) (at k)) is
          ∙ subst (λ (m : ℕ). change (at m) ≡ other (at m)) (sym (eqb-true k key is)) same
          ∙ sym (ap (λ (b : Bool). cond b (other (at k)) (at k)) is)
      | inr is ↦ ap (λ (b : Bool). cond b (change (at k)) (at k)) is ∙ sym (ap (λ (b : Bool). cond b (other (at k)) (at k)) is)
    ]) i

begins-valued : (xs : Items) (e : Keyed Span) (value : Span) (ys : Items) → first_key (xs ++ e ∷ ys) None ≡ first_key (xs ++ (record { key = e.key; value = value }) ∷ ys) None
begins-valued [] e value ys = refl
begins-valued (x ∷ xs) e value ys = refl

pub linked_valued : (old new : Slab Node) (first last : Option ℕ) (xs : Items) (e : Keyed Span) (ys : Items) (value : Span) (change : Place Span → Place Span)
    → IsLinked old first last (xs ++ e ∷ ys) → slab_len new ≡ slab_len old → place_at new ≡ written (Some e.key) (option_map change) (place_at old)
    → ((prev next : Option ℕ) → change (record { prev = prev; next = next; value = e.value }) ≡ record { prev = prev; next = next; value = value })
    → IsLinked new first last (xs ++ (record { key = e.key; value = value }) ∷ ys)
linked_valued old new first last xs e ys value change linked len places changes =
    let at : Places Span = place_at old in
    let here = middle_place at None xs e ys None linked.spelled in
    let own = apart_middle xs e ys linked.apart in
    let same : option_map change (at e.key) ≡ option_map (to_value value) (at e.key) =
    ap (option_map change) here ∙ ap Some (changes (last_key None xs) (first_key ys None)) ∙ sym (ap (option_map (to_value value)) here) in
    let valued : place_at new ≡ with_value e.key value at = places ∙ written-agrees e.key (option_map change) (option_map (to_value value)) at same in
    record {
      spelled = subst (λ (m : Places Span). Spells m None (xs ++ (record { key = e.key; value = value }) ∷ ys) None) (sym valued)
          (spells-valued at xs e ys linked.apart linked.spelled value);
      apart = apart_with xs (record { key = e.key; value = value }) ys (apart_without xs e ys linked.apart) (lacks_both e.key xs ys own.0 own.1);
      begins = linked.begins ∙ begins-valued xs e value ys;
      ends = linked.ends ∙ last_key-append None xs (e ∷ ys) ∙ sym (last_key-append None xs ((record { key = e.key; value = value }) ∷ ys));
      counted = omega (arith, len, linked.counted, length-append xs (e ∷ ys), length-append xs ((record { key = e.key; value = value }) ∷ ys));
    }
