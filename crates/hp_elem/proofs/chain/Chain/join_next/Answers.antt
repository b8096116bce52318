use Rattle.std.proofs.Common.{◌≡◌, ℕ, ◌+◌, ◌<◌, ◌^◌, Some, Option, true, refl, sym, ap, ◌∙◌, subst, arith}
use Rattle.std.proofs.lemmas.Option.{same_Some}
use Rattle.slab.specs.Slab.{Slab, get}
use Rattle.hp_base.specs.declared.span.Span.{Span}
use Rattle.hp_chain.specs.Chain.{has_key}
use Rattle.hp_elem.specs.declared.node.Node.{Node}
use Rattle.hp_elem.specs.Items.{Items, AreAt, after_join}
use Rattle.hp_elem.specs.View.{ChainView}
use Rattle.hp_elem.specs.Links.{items_of, IsLinked}
use Rattle.hp_elem.proofs.LinkedLemmas.{Closes, closes, known}
use Rattle.hp_elem.proofs.ChainLemmas.{can_unlink, next_at, holds_at, has_first, has_second, second_is, first_differs, linked_joined}
use Rattle.hp_elem.proofs.chain.Chain.join_next.Goals as goal

abbrev Sum : Span → Span → Type 0
Sum one next = one.whole + next.whole < 2 ^ 64

two_at : (v : ChainView) (items : Items) (key : ℕ) (end : ℕ) → (record { items = items; key_end = end }) ≡ v → AreAt Sum key v.items → AreAt Sum key items
two_at v items key end is two = subst (λ (w : ChainView). AreAt Sum key w.items) (sym is) two

pub index-requires : goal.index-requires
index-requires c =
    let items : Items = items_of c.self.inside.slots c.self.inside.first in
    known c.self.inside.slots c.self.inside.first c.self.inside.last items c.args.key c.self.invariant
    (has_first Sum c.args.key items (two_at c.args.self.now items c.args.key c.self.inside.slots.capacity c.self.view_is c.requires.next))

pub unwrap-next-requires : goal.unwrap-next-requires
unwrap-next-requires c =
    let items : Items = items_of c.self.inside.slots c.self.inside.first in
    let two = two_at c.args.self.now items c.args.key c.self.inside.slots.capacity c.self.view_is c.requires.next in
    rw (next_at c.self.inside.slots c.self.inside.first c.self.inside.last Sum c.args.key items c.index.result.now two c.self.invariant c.index.ensures).0 refl

other_is : (c : goal.After-index-arg-2-1) → c.unwrap-next.result ≡ (two_at c.args.self.now (items_of c.self.inside.slots c.self.inside.first) c.args.key c.self.inside.slots.capacity c.self.view_is c.requires.next).next.key
other_is c =
    let items : Items = items_of c.self.inside.slots c.self.inside.first in
    let two = two_at c.args.self.now items c.args.key c.self.inside.slots.capacity c.self.view_is c.requires.next in
    same_Some c.unwrap-next.result two.next.key
    (sym c.unwrap-next.ensures ∙ (next_at c.self.inside.slots c.self.inside.first c.self.inside.last Sum c.args.key items c.index.result.now two c.self.invariant c.index.ensures).0)

pub index-requires-2 : goal.index-requires-2
index-requires-2 c =
    let items : Items = items_of c.self.inside.slots c.self.inside.first in
    let two = two_at c.args.self.now items c.args.key c.self.inside.slots.capacity c.self.view_is c.requires.next in
    known c.self.inside.slots c.self.inside.first c.self.inside.last items c.unwrap-next.result c.self.invariant
    (subst (λ (k : ℕ). has_key k items ≡ true) (sym (other_is c)) (has_second Sum c.args.key items two))

-- the second's header has the second's element
taken_is : (c : goal.After-struct_known-2-1)
    → c.index-2.result.now.span ≡ (two_at c.args.self.now (items_of c.self.inside.slots c.self.inside.first) c.args.key c.self.inside.slots.capacity c.self.view_is c.requires.next).next.value
taken_is c =
    let items : Items = items_of c.self.inside.slots c.self.inside.first in
    let two = two_at c.args.self.now items c.args.key c.self.inside.slots.capacity c.self.view_is c.requires.next in
    let same : c.unwrap-next.result ≡ two.next.key = same_Some c.unwrap-next.result two.next.key
    (sym c.unwrap-next.ensures ∙ (next_at c.self.inside.slots c.self.inside.first c.self.inside.last Sum c.args.key items c.index.result.now two c.self.invariant c.index.ensures).0) in
    holds_at c.self.inside.slots c.self.inside.first c.self.inside.last (λ span. span ≡ two.next.value) two.next.key items c.index-2.result.now c.self.invariant (second_is Sum c.args.key items two)
    (subst (λ (k : ℕ). get c.self.inside.slots k ≡ Some c.index-2.result.now) same c.index-2.ensures)

pub overflow_add-whole : goal.overflow_add-whole
overflow_add-whole c =
    let items : Items = items_of c.self.inside.slots c.self.inside.first in
    let two = two_at c.args.self.now items c.args.key c.self.inside.slots.capacity c.self.view_is c.requires.next in
    let first_is : c.index.result.now.span ≡ two.found.value =
    (next_at c.self.inside.slots c.self.inside.first c.self.inside.last Sum c.args.key items c.index.result.now two c.self.invariant c.index.ensures).1 in
    let first_whole : c.index.result.now.span.whole ≡ two.found.value.whole = ap (λ (s : Span). s.whole) first_is in
    let next_whole : c.index-2.result.now.span.whole ≡ two.next.value.whole = ap (λ (s : Span). s.whole) (taken_is c) in
    let sum : two.found.value.whole + two.next.value.whole < 2 ^ 64 = two.holds in
    omega (arith, sum, first_whole, next_whole)

pub unlink-requires : goal.unlink-requires
unlink-requires c =
    let items : Items = items_of c.self.inside.slots c.self.inside.first in
    let two = two_at c.args.self.now items c.args.key c.self.inside.slots.capacity c.self.view_is c.requires.next in
    let same : c.unwrap-next.result ≡ two.next.key = same_Some c.unwrap-next.result two.next.key
    (sym c.unwrap-next.ensures ∙ (next_at c.self.inside.slots c.self.inside.first c.self.inside.last Sum c.args.key items c.index.result.now two c.self.invariant c.index.ensures).0) in
    record {
      linked = can_unlink c.self.inside.slots c.self.inside.first c.self.inside.last items c.unwrap-next.result c.self.invariant
          (subst (λ (k : ℕ). has_key k items ≡ true) (sym same) (has_second Sum c.args.key items two));
    }

pub set_whole-requires : goal.set_whole-requires
set_whole-requires c =
    let items : Items = items_of c.self.inside.slots c.self.inside.first in
    let two = two_at c.args.self.now items c.args.key c.self.inside.slots.capacity c.self.view_is c.requires.next in
    let same : c.unwrap-next.result ≡ two.next.key = same_Some c.unwrap-next.result two.next.key
    (sym c.unwrap-next.ensures ∙ (next_at c.self.inside.slots c.self.inside.first c.self.inside.last Sum c.args.key items c.index.result.now two c.self.invariant c.index.ensures).0) in
    record {
      known = c.unlink.ensures.kept c.args.key (λ is. first_differs Sum c.args.key items two c.self.invariant.apart (is ∙ same))
          (known c.self.inside.slots c.self.inside.first c.self.inside.last items c.args.key c.self.invariant (has_first Sum c.args.key items two));
    }

closing : (c : goal.After-self-1)
    → Closes c.set_whole.new.slots c.self.inside.first c.end_unless-self-inside.result (after_join c.args.key (items_of c.self.inside.slots c.self.inside.first))
closing c =
    let items : Items = items_of c.self.inside.slots c.self.inside.first in
    let two = two_at c.args.self.now items c.args.key c.self.inside.slots.capacity c.self.view_is c.requires.next in
    let slots : Slab Node = c.set_whole.new.slots in
    let both = linked_joined c.self.inside.slots c.unlink.new.slots slots c.self.inside.first c.self.inside.last items c.args.key c.unwrap-next.result c.index.result.now c.index-2.result.now Sum
    c.self.invariant two c.index.ensures c.unwrap-next.ensures c.index-2.ensures c.unlink.ensures.len c.unlink.ensures.places c.set_whole.ensures.keeps.len c.set_whole.ensures.places in
    closes slots c.self.inside.first c.end_unless-self-inside.result (after_join c.args.key items)
    (subst (λ (o : Option ℕ). IsLinked slots c.self.inside.first o (after_join c.args.key items)) (sym c.end_unless-self-inside.ensures) both)

pub invariant_of-self : goal.invariant_of-self
invariant_of-self c = (closing c).linked

pub returns-clause-items : goal.returns-clause-items
returns-clause-items c = rw (← c.self.view_is) (closing c).items

pub returns-clause-apart : goal.returns-clause-apart
returns-clause-apart c = (closing c).apart
