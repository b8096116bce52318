use Rattle.std.proofs.Common.{◌<◌, refl, sym, subst, arith}
use Rattle.hp_elem.specs.Items.{IsAt}
use Rattle.hp_heap.specs.Headers.{HeadersView, CanSplit}
use Rattle.hp_heap.proofs.EditLemmas.{keeps-split, room_of}
use Rattle.hp_heap.proofs.headers.Headers.split.Goals as goal

pub invariant_of-self : goal.invariant_of-self
invariant_of-self c =
    let some = subst (λ (v : HeadersView). 0 < v.spare) (sym c.self.view_is) c.requires.spare in
    keeps-split c.self.inside.elems c.split.new.self c.self.inside.lists c.self.inside.totals c.self.inside.totals c.self.invariant c.split.ensures.ordered.apart c.split.ensures.stamps refl refl c.args.key
    c.args.at c.split.result refl (subst (λ (v : HeadersView). IsAt (CanSplit c.args.at) c.args.key v.items) (sym c.self.view_is) c.requires.busy)
    (omega (arith, c.split.ensures.within, room_of c.self.inside.elems c.self.inside.lists some)) c.split.ensures.items
