use Rattle.std.proofs.Common.{◌≡◌, ℕ, ◌-◌, Option, false, sym, ap, subst, arith}
use Rattle.slab.specs.Slab.{Slab}
use Rattle.hp_base.specs.declared.span.Span.{Span}
use Rattle.hp_chain.specs.Chain.{has_key}
use Rattle.hp_elem.specs.declared.node.Node.{Node}
use Rattle.hp_elem.specs.Items.{Items, IsAt, IsInside, end_of, after_split}
use Rattle.hp_elem.specs.View.{ChainView}
use Rattle.hp_elem.specs.Links.{items_of, IsLinked}
use Rattle.hp_elem.proofs.LinkedLemmas.{Closes, closes, known, fresh}
use Rattle.hp_elem.proofs.ChainLemmas.{has_at, none_before, linked_split, can_unlink, holds_at}
use Rattle.hp_elem.proofs.chain.Chain.split.Goals as goal

inside_at : (v : ChainView) (items : Items) (key at : ℕ) (end : ℕ) → (record { items = items; key_end = end }) ≡ v → IsAt (IsInside at) key v.items → IsAt (IsInside at) key items
inside_at v items key at end is inside = subst (λ (w : ChainView). IsAt (IsInside at) key w.items) (sym is) inside

pub index-requires : goal.index-requires
index-requires c =
    let items : Items = items_of c.self.inside.slots c.self.inside.first in
    known c.self.inside.slots c.self.inside.first c.self.inside.last items c.args.key c.self.invariant
    (has_at (IsInside c.args.at) c.args.key items (inside_at c.args.self.now items c.args.key c.args.at c.self.inside.slots.capacity c.self.view_is c.requires.inside))

pub overflow_sub-lower : goal.overflow_sub-lower
overflow_sub-lower c =
    let items : Items = items_of c.self.inside.slots c.self.inside.first in
    let holds : IsInside c.args.at c.index.result.now.span = holds_at c.self.inside.slots c.self.inside.first c.self.inside.last (IsInside c.args.at) c.args.key items c.index.result.now c.self.invariant
    (inside_at c.args.self.now items c.args.key c.args.at c.self.inside.slots.capacity c.self.view_is c.requires.inside) c.index.ensures in
    omega (arith, holds.above)

pub overflow_sub-upper : goal.overflow_sub-upper
overflow_sub-upper c =
    let items : Items = items_of c.self.inside.slots c.self.inside.first in
    let holds : IsInside c.args.at c.index.result.now.span = holds_at c.self.inside.slots c.self.inside.first c.self.inside.last (IsInside c.args.at) c.args.key items c.index.result.now c.self.invariant
    (inside_at c.args.self.now items c.args.key c.args.at c.self.inside.slots.capacity c.self.view_is c.requires.inside) c.index.ensures in
    omega (arith, holds.below)

pub link_between-second-requires-clause-next_known : goal.link_between-second-requires-clause-next_known
link_between-second-requires-clause-next_known c = λ k is.
    let items : Items = items_of c.self.inside.slots c.self.inside.first in
    let inside = inside_at c.args.self.now items c.args.key c.args.at c.self.inside.slots.capacity c.self.view_is c.requires.inside in
    let here = can_unlink c.self.inside.slots c.self.inside.first c.self.inside.last items c.args.key c.self.invariant (has_at (IsInside c.args.at) c.args.key items inside) in
    c.set_whole.ensures.keeps.kept k (here.next c.index.result.now c.index.ensures k is)

closing : (c : goal.After-self-1)
    → Closes c.link_between-second.new.slots c.self.inside.first c.end_unless-self-inside.result
    (after_split c.args.key c.args.at c.link_between-second.result (items_of c.self.inside.slots c.self.inside.first))
closing c =
    let items : Items = items_of c.self.inside.slots c.self.inside.first in
    let node : Node = c.index.result.now in
    let second : ℕ = c.link_between-second.result in
    let slots : Slab Node = c.link_between-second.new.slots in
    let inside = inside_at c.args.self.now items c.args.key c.args.at c.self.inside.slots.capacity c.self.view_is c.requires.inside in
    let holds : IsInside c.args.at node.span = holds_at c.self.inside.slots c.self.inside.first c.self.inside.last (IsInside c.args.at) c.args.key items node c.self.invariant inside c.index.ensures in
    let whole_is : node.span.whole - (c.args.at - node.span.addr) ≡ end_of node.span - c.args.at = omega (arith, holds.above, holds.below) in
    let upper : Span = record node.span { addr = c.args.at; whole = node.span.whole - (c.args.at - node.span.addr) } in
    let cut = linked_split c.self.inside.slots c.set_whole.new.slots slots c.self.inside.first c.self.inside.last items c.args.key c.args.at second node upper c.self.invariant inside c.index.ensures
    c.set_whole.ensures.keeps.len c.set_whole.ensures.places c.link_between-second.ensures.fresh c.link_between-second.ensures.len c.link_between-second.ensures.places
    (ap (λ (w : ℕ). record node.span { addr = c.args.at; whole = w }) whole_is) in
    closes slots c.self.inside.first c.end_unless-self-inside.result (after_split c.args.key c.args.at second items)
    (subst (λ (o : Option ℕ). IsLinked slots c.self.inside.first o (after_split c.args.key c.args.at second items)) (sym c.end_unless-self-inside.ensures) cut)

pub invariant_of-self : goal.invariant_of-self
invariant_of-self c = (closing c).linked

pub returns-clause-items : goal.returns-clause-items
returns-clause-items c = rw (← c.self.view_is) (closing c).items

pub returns-clause-fresh : goal.returns-clause-fresh
returns-clause-fresh c =
    let items : Items = items_of c.self.inside.slots c.self.inside.first in
    subst (λ (v : ChainView). has_key c.link_between-second.result v.items ≡ false) c.self.view_is
    (fresh c.self.inside.slots c.self.inside.first c.self.inside.last items c.link_between-second.result c.self.invariant
    (none_before c.self.inside.slots c.set_whole.new.slots c.link_between-second.result c.set_whole.ensures.keeps.kept c.link_between-second.ensures.fresh))

pub returns-clause-apart : goal.returns-clause-apart
returns-clause-apart c = (closing c).apart
