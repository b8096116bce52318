use Rattle.std.proofs.Common.{◌-◌, refl, sym, subst, arith}
use Rattle.hp_elem.specs.Items.{IsAt}
use Rattle.hp_heap.specs.Headers.{HeadersView, IsFree}
use Rattle.hp_heap.proofs.TieLemmas.{free_listed}
use Rattle.hp_heap.proofs.EditLemmas.{keeps-take, taken_among}
use Rattle.hp_heap.proofs.headers.Headers.take.Goals as goal

pub remove-requires : goal.remove-requires
remove-requires c =
    free_listed c.self.inside.elems.items c.self.inside.lists.lists c.args.key c.self.invariant.tied.tied (subst (λ (v : HeadersView). IsAt IsFree c.args.key v.items) (sym c.self.view_is) c.requires.free)

pub overflow_sub-self : goal.overflow_sub-self
overflow_sub-self c =
    (taken_among c.self.inside.elems c.self.inside.lists c.self.inside.totals c.args.key c.get.result.now c.self.invariant
    (subst (λ (v : HeadersView). IsAt IsFree c.args.key v.items) (sym c.self.view_is) c.requires.free) c.get.ensures.stands).0

pub overflow_sub-self-2 : goal.overflow_sub-self-2
overflow_sub-self-2 c =
    (taken_among c.self.inside.elems c.self.inside.lists c.self.inside.totals c.args.key c.get.result.now c.self.invariant
    (subst (λ (v : HeadersView). IsAt IsFree c.args.key v.items) (sym c.self.view_is) c.requires.free) c.get.ensures.stands).1

pub invariant_of-self : goal.invariant_of-self
invariant_of-self c =
    let at = subst (λ (v : HeadersView). IsAt IsFree c.args.key v.items) (sym c.self.view_is) c.requires.free in
    let among = taken_among c.self.inside.elems c.self.inside.lists c.self.inside.totals c.args.key c.get.result.now c.self.invariant at c.get.ensures.stands in
    keeps-take c.self.inside.elems c.set_busy.new.self c.self.inside.lists c.remove.new.self c.self.inside.totals
    (record { total = c.self.inside.totals.total; free = c.self.inside.totals.free - c.get.result.now.span.whole; frees = c.self.inside.totals.frees - 1 })
    c.args.key c.args.pad c.args.size c.args.tag c.get.result.now c.self.invariant at c.get.ensures.stands
    c.set_busy.ensures.ordered.apart c.set_busy.ensures.stamps c.remove.ensures.lists c.remove.ensures.room c.remove.ensures.count c.set_busy.ensures.items
    refl (omega (arith, among.0)) (omega (arith, among.1))
