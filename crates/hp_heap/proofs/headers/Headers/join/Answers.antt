use Rattle.std.proofs.Common.{refl, sym, subst}
use Rattle.hp_elem.specs.Items.{AreAt}
use Rattle.hp_heap.specs.Headers.{HeadersView, CanJoin}
use Rattle.hp_heap.proofs.EditLemmas.{keeps-join}
use Rattle.hp_heap.proofs.headers.Headers.join.Goals as goal

pub invariant_of-self : goal.invariant_of-self
invariant_of-self c =
    keeps-join c.self.inside.elems c.join_next.new.self c.self.inside.lists c.self.inside.totals c.self.inside.totals c.self.invariant c.join_next.ensures.ordered.apart c.join_next.ensures.stamps refl refl
    c.args.key refl (subst (λ (v : HeadersView). AreAt CanJoin c.args.key v.items) (sym c.self.view_is) c.requires.busy) c.join_next.ensures.items
