use Rattle.std.proofs.Common.{nat_eq, sym, ◌∙◌, subst}
use Rattle.std.specs.HashMap.{get}
use Rattle.hp_elem.specs.View.{ElemsView}
use Rattle.hp_elem.specs.Index.{IsWalkStart}
use Rattle.hp_elem.proofs.AtLemmas.{walk_from_some}
use Rattle.hp_elem.proofs.elems.Elems.walk_start.Goals as goal

pub returns-then-is_some : goal.returns-then-is_some
returns-then-is_some c =
    subst (λ (v : ElemsView). IsWalkStart v.items c.args.addr c.find-key.result) c.self.view_is
    (walk_from_some c.self.inside.chain.items c.self.inside.chain.key_end (get nat_eq c.self.inside.starts) c.self.inside.gaps.items c.index-start.result.now c.args.addr c.find-key.result c.self.invariant.0
    c.find-key.ensures (sym c.is_some.ensures ∙ c.if-is_some.true) c.if-start-addr.true)
