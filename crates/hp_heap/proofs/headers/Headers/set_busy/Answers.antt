use Rattle.std.proofs.Common.{refl, sym, subst}
use Rattle.hp_elem.specs.Items.{IsAt}
use Rattle.hp_heap.specs.Headers.{HeadersView, IsBusy}
use Rattle.hp_heap.proofs.EditLemmas.{keeps-set}
use Rattle.hp_heap.proofs.headers.Headers.set_busy.Goals as goal

pub invariant_of-self : goal.invariant_of-self
invariant_of-self c =
    keeps-set c.self.inside.elems c.set_busy.new.self c.self.inside.lists c.self.inside.totals c.self.inside.totals c.self.invariant c.set_busy.ensures.ordered.apart c.set_busy.ensures.stamps refl refl c.args.key
    c.args.pad c.args.size c.args.tag refl (subst (λ (v : HeadersView). IsAt IsBusy c.args.key v.items) (sym c.self.view_is) c.requires.busy) c.set_busy.ensures.items
