use Rattle.std.proofs.Common.{◌-◌, refl, sym, subst, arith}
use Rattle.hp_elem.specs.Items.{IsAt}
use Rattle.hp_heap.specs.Headers.{HeadersView, IsBusy}
use Rattle.hp_heap.proofs.HistoryFacts.TotalsLemmas.{whole_within}
use Rattle.hp_heap.proofs.EditLemmas.{keeps-hide}
use Rattle.hp_heap.proofs.headers.Headers.hide.Goals as goal

pub invariant_of-self : goal.invariant_of-self
invariant_of-self c =
    let within = whole_within c.self.inside.totals c.self.inside.elems.items c.self.invariant.sums c.args.key c.get.result.now c.get.ensures.stands in
    keeps-hide c.self.inside.elems c.hide.new.self c.self.inside.lists c.self.inside.totals (record c.self.inside.totals { total = c.self.inside.totals.total - c.get.result.now.span.whole }) c.self.invariant
    c.hide.ensures.ordered.apart c.hide.ensures.stamps refl refl c.args.key c.get.result.now c.get.ensures.stands (omega (arith, within))
    (subst (λ (v : HeadersView). IsAt IsBusy c.args.key v.items) (sym c.self.view_is) c.requires.busy) c.hide.ensures.items
