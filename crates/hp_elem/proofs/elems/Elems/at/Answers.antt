use Rattle.std.proofs.Common.{◌≡◌, sym, subst}
use Rattle.hp_elem.specs.Items.{key_at}
use Rattle.hp_elem.specs.View.{ElemsView}
use Rattle.hp_elem.specs.Index.{IsWalkStart}
use Rattle.hp_elem.proofs.AtLemmas.{walk_finds}
use Rattle.hp_elem.proofs.elems.Elems.at.Goals as goal

pub find_address-requires : goal.find_address-requires
find_address-requires c =
    let start : IsWalkStart c.self.inside.chain.items c.args.addr c.walk_start.result = subst (λ (v : ElemsView). IsWalkStart v.items c.args.addr c.walk_start.result) (sym c.self.view_is) c.walk_start.ensures in
    record {
      from = record { front = start.front; back = start.back; is = start.is; first = start.first };
      ordered = c.self.invariant.0.ordered;
    }

pub returns : goal.returns
returns c =
    let start : IsWalkStart c.self.inside.chain.items c.args.addr c.walk_start.result = subst (λ (v : ElemsView). IsWalkStart v.items c.args.addr c.walk_start.result) (sym c.self.view_is) c.walk_start.ensures in
    subst (λ (v : ElemsView). c.find_address.result ≡ key_at c.args.addr v.items) c.self.view_is
    (walk_finds c.self.inside.chain.items c.args.addr c.walk_start.result c.find_address.result c.self.invariant.0.ordered.rising start c.find_address.ensures)
