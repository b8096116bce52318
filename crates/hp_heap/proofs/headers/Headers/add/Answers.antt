use Rattle.std.proofs.Common.{◌+◌, ◌<◌, refl, sym, subst, arith}
use Rattle.hp_heap.specs.Headers.{HeadersView}
use Rattle.hp_heap.proofs.EditLemmas.{keeps-add, added_within, room_of}
use Rattle.hp_heap.proofs.headers.Headers.add.Goals as goal

pub overflow_add-self : goal.overflow_add-self
overflow_add-self c =
    omega (arith, added_within c.self.inside.elems c.add-key.new.self c.self.inside.totals c.self.invariant.sums c.add-key.result c.args.span c.add-key.ensures.items c.add-key.ensures.ordered.rising)

pub invariant_of-self : goal.invariant_of-self
invariant_of-self c =
    let some = subst (λ (v : HeadersView). 0 < v.spare) (sym c.self.view_is) c.requires.spare in
    keeps-add c.self.inside.elems c.add-key.new.self c.self.inside.lists c.self.inside.totals (record c.self.inside.totals { total = c.self.inside.totals.total + c.args.span.whole }) c.self.invariant
    c.add-key.ensures.ordered.apart c.add-key.ensures.stamps refl refl c.add-key.result c.args.span refl c.requires.busy
    (omega (arith, c.add-key.ensures.within, room_of c.self.inside.elems c.self.inside.lists some)) c.add-key.ensures.items
