use Rattle.std.proofs.Common.{◌≡◌, true, sym, subst}
use Rattle.hp_chain.specs.Chain.{has_key}
use Rattle.hp_elem.specs.Items.{Stands}
use Rattle.hp_elem.specs.View.{ChainView}
use Rattle.hp_elem.specs.Links.{items_of}
use Rattle.hp_elem.proofs.LinkedLemmas.{known, stands_at}
use Rattle.hp_elem.proofs.chain.Chain.get.Goals as goal

has : (c : goal.After-self) → has_key c.args.key (items_of c.self.inside.slots c.self.inside.first) ≡ true
has c = subst (λ (v : ChainView). has_key c.args.key v.items ≡ true) (sym c.self.view_is) c.requires.known

pub index-requires : goal.index-requires
index-requires c = known c.self.inside.slots c.self.inside.first c.self.inside.last (items_of c.self.inside.slots c.self.inside.first) c.args.key c.self.invariant (has c)

pub returns : goal.returns
returns c =
    let has_it = subst (λ (v : ChainView). has_key c.args.key v.items ≡ true) (sym c.self.view_is) c.requires.known in
    record {
      stands = subst (λ (v : ChainView). Stands v.items c.args.key c.index.result.now) c.self.view_is
          (stands_at c.self.inside.slots c.self.inside.first c.self.inside.last (items_of c.self.inside.slots c.self.inside.first) c.args.key c.index.result.now c.self.invariant has_it c.index.ensures);
    }
