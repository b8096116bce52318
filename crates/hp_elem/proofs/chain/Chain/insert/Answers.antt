use Rattle.std.proofs.Common.{◌≡◌, ℕ, Some, Option, false, sym, subst}
use Rattle.slab.specs.Slab.{Slab}
use Rattle.hp_base.specs.declared.span.Span.{Span}
use Rattle.hp_chain.specs.Chain.{Keyed, has_key}
use Rattle.hp_elem.specs.declared.node.Node.{Node}
use Rattle.hp_elem.specs.Items.{Items, IsBetween, HasKey, before}
use Rattle.hp_elem.specs.View.{ChainView}
use Rattle.hp_elem.specs.Links.{items_of, IsLinked, end_unless}
use Rattle.hp_elem.proofs.LinkedLemmas.{Closes, closes, known_option, fresh}
use Rattle.hp_elem.proofs.ChainLemmas.{between_keys, linked_inserted}
use Rattle.hp_elem.proofs.chain.Chain.insert.Goals as goal

pub link_between-key-requires-clause-prev_known : goal.link_between-key-requires-clause-prev_known
link_between-key-requires-clause-prev_known c =
    let items : Items = items_of c.self.inside.slots c.self.inside.first in
    known_option c.self.inside.slots c.self.inside.first c.self.inside.last items c.prev_of-prev.result c.self.invariant
    (subst (λ (v : ChainView). HasKey c.prev_of-prev.result v.items) (sym c.self.view_is)
    (between_keys c.args.self.now.items c.prev_of-prev.result c.args.next c.prev_of-prev.ensures c.requires.next))

pub link_between-key-requires-clause-next_known : goal.link_between-key-requires-clause-next_known
link_between-key-requires-clause-next_known c =
    let items : Items = items_of c.self.inside.slots c.self.inside.first in
    known_option c.self.inside.slots c.self.inside.first c.self.inside.last items c.args.next c.self.invariant
    (subst (λ (v : ChainView). HasKey c.args.next v.items) (sym c.self.view_is) c.requires.next)

closing : (c : goal.After-self-2-1)
    → Closes c.link_between-key.new.slots c.end_unless-self-inside.result c.end_unless-self-inside-2.result
    (before c.args.next (record { key = c.link_between-key.result; value = c.args.span }) (items_of c.self.inside.slots c.self.inside.first))
closing c =
    let items : Items = items_of c.self.inside.slots c.self.inside.first in
    let e : Keyed Span = record { key = c.link_between-key.result; value = c.args.span } in
    let prev : Option ℕ = c.prev_of-prev.result in
    let slots : Slab Node = c.link_between-key.new.slots in
    let added = linked_inserted c.self.inside.slots slots c.self.inside.first c.self.inside.last prev c.args.next items e c.self.invariant
    (subst (λ (v : ChainView). IsBetween v.items prev c.args.next) (sym c.self.view_is) c.prev_of-prev.ensures)
    c.link_between-key.ensures.fresh c.link_between-key.ensures.len c.link_between-key.ensures.places in
    closes slots c.end_unless-self-inside.result c.end_unless-self-inside-2.result (before c.args.next e items)
    (subst (λ (o : Option ℕ). IsLinked slots o c.end_unless-self-inside-2.result (before c.args.next e items)) (sym c.end_unless-self-inside.ensures)
    (subst (λ (o : Option ℕ). IsLinked slots (end_unless prev c.self.inside.first (Some e.key)) o (before c.args.next e items)) (sym c.end_unless-self-inside-2.ensures) added))

pub invariant_of-self : goal.invariant_of-self
invariant_of-self c = (closing c).linked

pub returns-clause-items : goal.returns-clause-items
returns-clause-items c = rw (← c.self.view_is) (closing c).items

pub returns-clause-fresh : goal.returns-clause-fresh
returns-clause-fresh c =
    subst (λ (v : ChainView). has_key c.link_between-key.result v.items ≡ false) c.self.view_is
    (fresh c.self.inside.slots c.self.inside.first c.self.inside.last (items_of c.self.inside.slots c.self.inside.first) c.link_between-key.result c.self.invariant c.link_between-key.ensures.fresh)

pub returns-clause-apart : goal.returns-clause-apart
returns-clause-apart c = (closing c).apart
