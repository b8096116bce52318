-- The element that contains an address.
use Rattle.std.proofs.Common.{◌≡◌, ℕ, ◌-◌, ◌<◌, ◌≤◌, List, [], ◌∷◌, ◌++◌, true, Option, Some, None, nat_eq, length, refl, sym, ap, ◌∙◌, subst, arith, inl, inr, is_some, length-append}
use Rattle.std.proofs.lemmas.Bool.{cases_Bool, cond-true, cond-false, eqb-true, false≢true}
use Rattle.std.proofs.lemmas.Option.{same_Some, none-some}
use Rattle.slab.specs.Slab.{Slab, slab_len}
use Rattle.hp_base.specs.declared.span.Span.{Span}
use Rattle.hp_chain.specs.Chain.{Keyed, Spells, walk, first_key, last_key, has_key}
use Rattle.hp_chain.proofs.Spelling.{split_spells}
use Rattle.hp_chain.proofs.Walks.{walk_is}
use Rattle.hp_elem.specs.declared.node.Node.{Node}
use Rattle.hp_elem.specs.Items.{Items, IsAt, Stands, end_of, contains, key_at}
use Rattle.hp_elem.specs.Order.{IsRising}
use Rattle.hp_elem.specs.Links.{place_at, IsLinked}
use Rattle.hp_elem.specs.Index.{start_key, reach, IsIndexed, IsWalkStart}
use Rattle.hp_elem.proofs.OrderLemmas.{reach_above, rising_front, rising_back}
use Rattle.hp_elem.proofs.IndexLemmas.{stands_value}
use Rattle.hp_elem.proofs.SearchLemmas.{contains-true, contains-false, found-here, found-later}

-- elements that end at or below an address do not contain it
pub passes : (addr from : ℕ) (xs ys : Items) → IsRising from xs → reach from xs ≤ addr → key_at addr (xs ++ ys) ≡ key_at addr ys
passes addr from [] ys rising reached = refl
passes addr from (x ∷ xs) ys rising reached =
    let beyond : x.value.whole ≤ addr - x.value.addr = omega (arith, reached, reach_above (end_of x.value) xs rising.2) in
    found-later (contains addr) x (xs ++ ys) (contains-false addr x beyond) ∙ passes addr (end_of x.value) xs ys rising.2 reached

-- an element that begins at an address
pub begins_at : (items : Items) (start key : ℕ) → start_key items start ≡ Some key → IsAt (λ span. span.addr ≡ start) key items
begins_at [] start key is = absurd (none-some key is)
begins_at (x ∷ xs) start key is = elim (cases_Bool (nat_eq x.value.addr start)) [
  | inl same ↦ record {
    front = [];
    found = x;
    back = xs;
    is = refl;
    same = same_Some x.key key (sym (cond-true (nat_eq x.value.addr start) (Some x.key) (start_key xs start) same) ∙ is);
    holds = eqb-true x.value.addr start same;
  }
  | inr differs ↦
      let rest = begins_at xs start key (sym (cond-false (nat_eq x.value.addr start) (Some x.key) (start_key xs start) differs) ∙ is) in
      record { front = x ∷ rest.front; found = rest.found; back = rest.back; is = ap (λ (zs : Items). x ∷ zs) rest.is; same = rest.same; holds = rest.holds }
]

module _ (items : Items) (key_end : ℕ) (table : ℕ → Option ℕ) (gaps : List ℕ) (start key : ℕ) (indexed : IsIndexed items key_end table gaps) (found : table start ≡ Some key) where
  pub found_start : IsAt (λ span. span.addr ≡ start) key items
  found_start = begins_at items start key (sym (ap (λ (t : ℕ → Option ℕ). t start) indexed.started) ∙ found)

  pub has_start : has_key key items ≡ true
  has_start =
      subst (λ (zs : Items). has_key key zs ≡ true) (sym found_start.is)
      (subst (λ (k : ℕ). has_key k (found_start.front ++ found_start.found ∷ found_start.back) ≡ true) found_start.same
      (Rattle.hp_chain.proofs.Keys.has_key_back found_start.found.key found_start.front (found_start.found ∷ found_start.back) (Rattle.hp_chain.proofs.Keys.has_key-own found_start.found found_start.back)))

  front_reach : reach 0 found_start.front ≤ start
  front_reach =
      let back = rising_back 0 found_start.front (found_start.found ∷ found_start.back) (subst (λ (zs : Items). IsRising 0 zs) found_start.is indexed.ordered.rising) in
      omega (arith, back.0, found_start.holds)

  -- it contains the address
  pub held : (addr : ℕ) (node : Node) → Stands items key node → start ≤ addr → addr - start < node.span.whole → key_at addr items ≡ Some key
  held addr node stands above within =
      let e : Keyed Span = found_start.found in
      let value = stands_value (λ span. span.addr ≡ start) key items node found_start indexed.ordered.apart stands in
      let whole : node.span.whole ≡ e.value.whole = ap (λ (s : Span). s.whole) value in
      let front = rising_front 0 found_start.front (e ∷ found_start.back) (subst (λ (zs : Items). IsRising 0 zs) found_start.is indexed.ordered.rising) in
      ap (λ (zs : Items). key_at addr zs) found_start.is
      ∙ passes addr 0 found_start.front (e ∷ found_start.back) front (omega (arith, front_reach, above))
      ∙ found-here (contains addr) e found_start.back (contains-true addr e (omega (arith, above, found_start.holds)) (omega (arith, within, whole, found_start.holds)))
      ∙ ap Some found_start.same

  -- and a walk to the address may begin at it
  pub walk_from : (addr : ℕ) → start ≤ addr → IsWalkStart items addr (Some key)
  walk_from addr above = record {
    front = found_start.front;
    back = found_start.found ∷ found_start.back;
    is = found_start.is;
    first = ap Some (sym found_start.same);
    reached = omega (arith, front_reach, above);
  }

pub walk_from_first : (items : Items) (addr : ℕ) (key : Option ℕ) → key ≡ first_key items None → IsWalkStart items addr key
walk_from_first items addr key first = record { front = []; back = items; is = refl; first = first; reached = omega arith }

-- the walk finds what the list has
pub walk_finds : (items : Items) (addr : ℕ) (key result : Option ℕ) → IsRising 0 items → (start : IsWalkStart items addr key)
    → ((front back : Items) → items ≡ front ++ back → key ≡ first_key back None → result ≡ key_at addr back) → result ≡ key_at addr items
walk_finds items addr key result rising start finds =
    finds start.front start.back start.is start.first
    ∙ sym (ap (λ (zs : Items). key_at addr zs) start.is
    ∙ passes addr 0 start.front start.back (rising_front 0 start.front start.back (subst (λ (zs : Items). IsRising 0 zs) start.is rising)) start.reached)

-- a walk in the slab from a key on gives the elements from there on
pub walk_back_part : (slots : Slab Node) (first last : Option ℕ) (items front back : Items) (from : Option ℕ) → IsLinked slots first last items
    → items ≡ front ++ back → from ≡ first_key back None → walk (place_at slots) (slab_len slots) from ≡ back
walk_back_part slots first last items front back from linked is first_is =
    let spelled = (split_spells (place_at slots) None front back None (subst (λ (zs : Items). Spells (place_at slots) None zs None) is linked.spelled)).1 in
    let within : length back ≤ slab_len slots = omega (arith, linked.counted, ap (λ (zs : Items). length zs) is, length-append front back) in
    ap (λ (o : Option ℕ). walk (place_at slots) (slab_len slots) o) first_is ∙ walk_is (place_at slots) (slab_len slots) (last_key None front) back within spelled

some_is : (o : Option ℕ) → is_some o ≡ true → (k : ℕ) × (o ≡ Some k)
some_is None is = absurd (false≢true is)
some_is (Some k) is = (k, refl)

-- a start that the table has is one for a walk to an address above it
pub walk_from_some : (items : Items) (key_end : ℕ) (table : ℕ → Option ℕ) (gaps : List ℕ) (start addr : ℕ) (key : Option ℕ) → IsIndexed items key_end table gaps
    → key ≡ table start → is_some key ≡ true → start ≤ addr → IsWalkStart items addr key
walk_from_some items key_end table gaps start addr key indexed is some above =
    let one = some_is key some in
    subst (λ (o : Option ℕ). IsWalkStart items addr o) (sym one.1) (walk_from items key_end table gaps start one.0 indexed (sym is ∙ one.1) addr above)
