use Rattle.std.proofs.Common.{◌≡◌, true, sym, subst}
use Rattle.hp_chain.specs.Chain.{has_key}
use Rattle.hp_elem.specs.Items.{Items, after_set}
use Rattle.hp_elem.specs.View.{ChainView}
use Rattle.hp_elem.specs.Links.{items_of}
use Rattle.hp_elem.proofs.LinkedLemmas.{Closes, closes, known}
use Rattle.hp_elem.proofs.ChainLemmas.{linked_set}
use Rattle.hp_elem.proofs.chain.Chain.set_state.Goals as goal

closing : (c : goal.After-set_state)
    → Closes c.set_state.new.slots c.self.inside.first c.self.inside.last (after_set c.args.key c.args.state (items_of c.self.inside.slots c.self.inside.first))
closing c =
    let items : Items = items_of c.self.inside.slots c.self.inside.first in
    let has = subst (λ (v : ChainView). has_key c.args.key v.items ≡ true) (sym c.self.view_is) c.requires.known in
    closes c.set_state.new.slots c.self.inside.first c.self.inside.last (after_set c.args.key c.args.state items)
    (linked_set c.self.inside.slots c.set_state.new.slots c.self.inside.first c.self.inside.last items c.args.key c.args.state c.self.invariant has c.set_state.ensures.keeps.len c.set_state.ensures.places)

pub set_state-requires : goal.set_state-requires
set_state-requires c = record {
  known = known c.self.inside.slots c.self.inside.first c.self.inside.last (items_of c.self.inside.slots c.self.inside.first) c.args.key c.self.invariant
      (subst (λ (v : ChainView). has_key c.args.key v.items ≡ true) (sym c.self.view_is) c.requires.known);
}

pub invariant_of-self : goal.invariant_of-self
invariant_of-self c = (closing c).linked

pub returns-clause-items : goal.returns-clause-items
returns-clause-items c = rw (← c.self.view_is) (closing c).items

pub returns-clause-apart : goal.returns-clause-apart
returns-clause-apart c = (closing c).apart
