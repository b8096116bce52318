use Rattle.std.proofs.Common.{◌≡◌, Some, nat_eq, sym, subst}
use Rattle.std.specs.HashMap.{get}
use Rattle.hp_elem.specs.Items.{key_at}
use Rattle.hp_elem.specs.View.{ElemsView}
use Rattle.hp_elem.proofs.AtLemmas.{held, has_start}
use Rattle.hp_elem.proofs.elems.Elems.holder.Goals as goal

pub get-requires : goal.get-requires
get-requires c = record {
  known = has_start c.self.inside.chain.items c.self.inside.chain.key_end (get nat_eq c.self.inside.starts) c.self.inside.gaps.items c.args.start c.in_ok-key.key c.self.invariant.0 (sym c.in_ok-key.ensures);
}

pub returns-then-addr-start : goal.returns-then-addr-start
returns-then-addr-start c =
    subst (λ (v : ElemsView). key_at c.args.addr v.items ≡ Some c.in_ok-key.key) c.self.view_is
    (held c.self.inside.chain.items c.self.inside.chain.key_end (get nat_eq c.self.inside.starts) c.self.inside.gaps.items c.args.start c.in_ok-key.key c.self.invariant.0 (sym c.in_ok-key.ensures)
    c.args.addr c.get.result.now c.get.ensures.stands c.requires.above c.if-addr-start.true)
