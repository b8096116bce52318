-- Walks along the links of a slab, and what is found on them.
use Rattle.std.proofs.Common.{◌≡◌, ℕ, suc, ◌-◌, ◌<◌, ◌≤◌, [], ◌∷◌, true, false, Bool, Option, Some, None, option_map, refl, sym, ap, ◌∙◌, subst, cond, arith}
use Rattle.std.specs.List.{find}
use Rattle.slab.specs.Slab.{Slab, get}
use Rattle.hp_base.specs.declared.span.Span.{Span}
use Rattle.hp_chain.specs.Chain.{Keyed, Place, walk, visit, walk_along}
use Rattle.hp_chain.proofs.Walks.{walk-none, walk-some}
use Rattle.hp_elem.specs.declared.node.Node.{Node}
use Rattle.hp_elem.specs.Items.{Items, end_of, contains, key_at, is_tagged, first_tagged}
use Rattle.hp_elem.specs.Order.{IsRising}
use Rattle.hp_elem.specs.Links.{place_of, place_at}
use Rattle.hp_elem.proofs.OrderLemmas.{rising_lower}

-- a walk ends where there is no key, and where a key has no header
pub walk_none : (slots : Slab Node) (left : ℕ) (at : Option ℕ) → at ≡ None → walk (place_at slots) left at ≡ []
walk_none slots left at is = ap (λ (o : Option ℕ). walk (place_at slots) left o) is ∙ walk-none (λ place. place.next) (place_at slots) left

pub walk_gone : (slots : Slab Node) (left less : ℕ) (at : Option ℕ) (key : ℕ) → left ≡ suc less → at ≡ Some key → get slots key ≡ None → walk (place_at slots) left at ≡ []
walk_gone slots left less at key left_is is none =
    ap (λ (o : Option ℕ). walk (place_at slots) left o) is
    ∙ ap (λ (n : ℕ). walk (place_at slots) n (Some key)) left_is
    ∙ ap (λ (slot : Option Node). visit (λ (place : Place Span). place.next) key (option_map place_of slot) (λ (other : Option ℕ). walk_along (λ place. place.next) (place_at slots) less other)) none

pub walk_step : (slots : Slab Node) (left less : ℕ) (at : Option ℕ) (key : ℕ) (node : Node) → left ≡ suc less → at ≡ Some key → get slots key ≡ Some node
    → walk (place_at slots) left at ≡ (record { key = key; value = node.span }) ∷ walk (place_at slots) less node.next
walk_step slots left less at key node left_is is stored =
    ap (λ (o : Option ℕ). walk (place_at slots) left o) is
    ∙ ap (λ (n : ℕ). walk (place_at slots) n (Some key)) left_is
    ∙ walk-some (λ place. place.next) (place_at slots) less key (place_of node) (ap (option_map place_of) stored)

-- whether an element contains an address
pub contains-true : (addr : ℕ) (e : Keyed Span) → e.value.addr ≤ addr → addr - e.value.addr < e.value.whole → contains addr e ≡ true
contains-true addr e above within = grind (arith, above, within)

pub contains-false : (addr : ℕ) (e : Keyed Span) → e.value.whole ≤ addr - e.value.addr → contains addr e ≡ false
contains-false addr e beyond = grind (arith, beyond)

pub contains-below : (addr : ℕ) (e : Keyed Span) → addr < e.value.addr → contains addr e ≡ false
contains-below addr e below = grind (arith, below)

-- what is found at the head of a list, and after it
module _ (p : Keyed Span → Bool) where
  pub found-here : (e : Keyed Span) (es : Items) → p e ≡ true → option_map (λ (x : Keyed Span). x.key) (find p (e ∷ es)) ≡ Some e.key
  found-here e es passes = ap (λ (b : Bool). option_map (λ (x : Keyed Span). x.key) (cond b (Some e) (find p es))) passes

  pub found-later : (e : Keyed Span) (es : Items) → p e ≡ false → option_map (λ (x : Keyed Span). x.key) (find p (e ∷ es)) ≡ option_map (λ (x : Keyed Span). x.key) (find p es)
  found-later e es fails = ap (λ (b : Bool). option_map (λ (x : Keyed Span). x.key) (cond b (Some e) (find p es))) fails

-- no element above an address contains it
pub none_above : (addr from : ℕ) (xs : Items) → addr < from → IsRising from xs → key_at addr xs ≡ None
none_above addr from [] below rising = refl
none_above addr from (x ∷ xs) below rising =
    found-later (contains addr) x xs (contains-below addr x (omega (arith, below, rising.0)))
    ∙ none_above addr (end_of x.value) xs (omega (arith, below, rising.0)) rising.2

-- a walk by rising address comes to an element that begins above the address, or passes one that does not contain it
module _ (slots : Slab Node) (left less : ℕ) (at : Option ℕ) (key addr : ℕ) (node : Node) (target : Option ℕ)
    (left_is : left ≡ suc less) (is : at ≡ Some key) (stored : Some node ≡ get slots key)
    (so_far : key_at addr (walk (place_at slots) left at) ≡ target) (rising : IsRising 0 (walk (place_at slots) left at)) where
  stepped : walk (place_at slots) left at ≡ (record { key = key; value = node.span }) ∷ walk (place_at slots) less node.next
  stepped = walk_step slots left less at key node left_is is (sym stored)

  stepped_rising : IsRising 0 ((record { key = key; value = node.span }) ∷ walk (place_at slots) less node.next)
  stepped_rising = subst (λ (zs : Items). IsRising 0 zs) stepped rising

  pub stops_below : addr < node.span.addr → None ≡ target
  stops_below below =
      let e : Keyed Span = record { key = key; value = node.span } in
      let rest : Items = walk (place_at slots) less node.next in
      let from_here : IsRising node.span.addr (e ∷ rest) = (omega arith, stepped_rising.1, stepped_rising.2) in
      sym (none_above addr node.span.addr (e ∷ rest) below from_here) ∙ sym (ap (λ (zs : Items). key_at addr zs) stepped) ∙ so_far

  pub goes_on : node.span.whole ≤ addr - node.span.addr
      → (key_at addr (walk (place_at slots) less node.next) ≡ target) × IsRising 0 (walk (place_at slots) less node.next)
  goes_on beyond =
      let e : Keyed Span = record { key = key; value = node.span } in
      let rest : Items = walk (place_at slots) less node.next in (
        sym (found-later (contains addr) e rest (contains-false addr e beyond)) ∙ sym (ap (λ (zs : Items). key_at addr zs) stepped) ∙ so_far,
        rising_lower 0 (end_of node.span) rest (omega arith) stepped_rising.2,
      )

-- a walk passes an element without the tag
pub passes_tag : (slots : Slab Node) (left less : ℕ) (at : Option ℕ) (key number : ℕ) (zone : Bool) (node : Node) (target : Option ℕ)
    → left ≡ suc less → at ≡ Some key → Some node ≡ get slots key → first_tagged zone number (walk (place_at slots) left at) ≡ target
    → is_tagged zone number (record { key = key; value = node.span }) ≡ false → first_tagged zone number (walk (place_at slots) less node.next) ≡ target
passes_tag slots left less at key number zone node target left_is is stored so_far fails =
    let e : Keyed Span = record { key = key; value = node.span } in
    sym (found-later (is_tagged zone number) e (walk (place_at slots) less node.next) fails)
    ∙ sym (ap (λ (zs : Items). first_tagged zone number zs) (walk_step slots left less at key node left_is is (sym stored))) ∙ so_far
