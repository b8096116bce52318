use Rattle.std.proofs.Common.{◌≡◌, ℕ, Option, true, sym, subst}
use Rattle.hp_chain.specs.Chain.{has_key}
use Rattle.hp_chain.specs.Edits.{without_key}
use Rattle.hp_elem.specs.declared.node.Node.{Node}
use Rattle.hp_elem.specs.Items.{Items}
use Rattle.hp_elem.specs.View.{ChainView}
use Rattle.hp_elem.specs.Links.{items_of, IsLinked, end_unless}
use Rattle.hp_elem.proofs.LinkedLemmas.{Closes, closes, known}
use Rattle.hp_elem.proofs.ChainLemmas.{can_unlink, linked_hidden}
use Rattle.hp_elem.proofs.chain.Chain.remove.Goals as goal

has : (v : ChainView) (items : Items) (key : ℕ) (end : ℕ) → (record { items = items; key_end = end }) ≡ v → has_key key v.items ≡ true → has_key key items ≡ true
has v items key end is has_it = subst (λ (w : ChainView). has_key key w.items ≡ true) (sym is) has_it

pub index-requires : goal.index-requires
index-requires c =
    let items : Items = items_of c.self.inside.slots c.self.inside.first in
    known c.self.inside.slots c.self.inside.first c.self.inside.last items c.args.key c.self.invariant
    (has c.args.self.now items c.args.key c.self.inside.slots.capacity c.self.view_is c.requires.known)

pub unlink-requires : goal.unlink-requires
unlink-requires c =
    let items : Items = items_of c.self.inside.slots c.self.inside.first in
    record {
      linked = can_unlink c.self.inside.slots c.self.inside.first c.self.inside.last items c.args.key c.self.invariant
          (has c.args.self.now items c.args.key c.self.inside.slots.capacity c.self.view_is c.requires.known);
    }

closing : (c : goal.After-self-2-1)
    → Closes c.unlink.new.slots c.end_unless-self-inside.result c.end_unless-self-inside-2.result (without_key c.args.key (items_of c.self.inside.slots c.self.inside.first))
closing c =
    let items : Items = items_of c.self.inside.slots c.self.inside.first in
    let node : Node = c.index.result.now in
    let hidden = linked_hidden c.self.inside.slots c.unlink.new.slots c.self.inside.first c.self.inside.last items c.args.key node c.self.invariant
    (has c.args.self.now items c.args.key c.self.inside.slots.capacity c.self.view_is c.requires.known) c.index.ensures c.unlink.ensures.len c.unlink.ensures.places in
    closes c.unlink.new.slots c.end_unless-self-inside.result c.end_unless-self-inside-2.result (without_key c.args.key items)
    (subst (λ (o : Option ℕ). IsLinked c.unlink.new.slots o c.end_unless-self-inside-2.result (without_key c.args.key items)) (sym c.end_unless-self-inside.ensures)
    (subst (λ (o : Option ℕ). IsLinked c.unlink.new.slots (end_unless node.prev c.self.inside.first node.next) o (without_key c.args.key items)) (sym c.end_unless-self-inside-2.ensures) hidden))

pub invariant_of-self : goal.invariant_of-self
invariant_of-self c = (closing c).linked

pub returns-clause-items : goal.returns-clause-items
returns-clause-items c = rw (← c.self.view_is) (closing c).items

pub returns-clause-apart : goal.returns-clause-apart
returns-clause-apart c = (closing c).apart
