use Rattle.std.proofs.Common.{◌≡◌, true, sym, subst}
use Rattle.hp_chain.specs.Chain.{has_key}
use Rattle.hp_elem.specs.Items.{Items, IsBetween}
use Rattle.hp_elem.specs.View.{ChainView}
use Rattle.hp_elem.specs.Links.{items_of}
use Rattle.hp_elem.proofs.LinkedLemmas.{known}
use Rattle.hp_elem.proofs.ChainLemmas.{between_last, between_at}
use Rattle.hp_elem.proofs.chain.Chain.prev_of.Goals as goal

has : (c : goal.In-Some) → has_key c.in-Some.next (items_of c.self.inside.slots c.self.inside.first) ≡ true
has c = subst (λ (v : ChainView). has_key c.in-Some.next v.items ≡ true) (sym c.self.view_is) (c.requires.next c.in-Some.next c.in-Some.is)

pub index-requires : goal.index-requires
index-requires c = known c.self.inside.slots c.self.inside.first c.self.inside.last (items_of c.self.inside.slots c.self.inside.first) c.in-Some.next c.self.invariant (has c)

pub returns-in-Some : goal.returns-in-Some
returns-in-Some c =
    let items : Items = items_of c.self.inside.slots c.self.inside.first in
    let has_it = subst (λ (v : ChainView). has_key c.in-Some.next v.items ≡ true) (sym c.self.view_is) (c.requires.next c.in-Some.next c.in-Some.is) in
    subst (λ (v : ChainView). IsBetween v.items c.index.result.now.prev c.args.next) c.self.view_is
    (between_at c.self.inside.slots c.self.inside.first c.self.inside.last items c.in-Some.next c.index.result.now c.args.next c.self.invariant c.in-Some.is has_it c.index.ensures)

pub returns-in-None : goal.returns-in-None
returns-in-None c =
    subst (λ (v : ChainView). IsBetween v.items c.self.inside.last c.args.next) c.self.view_is
    (between_last c.self.inside.slots c.self.inside.first c.self.inside.last (items_of c.self.inside.slots c.self.inside.first) c.args.next c.self.invariant c.in-None.is)
