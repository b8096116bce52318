use Rattle.std.proofs.Common.{subst}
use Rattle.hp_elem.specs.Items.{IsAt}
use Rattle.hp_freelist.proofs.SearchLaw.{finds_first_of_least}
use Rattle.hp_heap.specs.Headers.{HeadersView, IsFree, FindsFirstFree}
use Rattle.hp_heap.proofs.FirstFree.{listed_free, finds_first_free}
use Rattle.hp_heap.proofs.headers.Headers.first_from.Goals as goal

pub first_from-requires-clause-callable : goal.first_from-requires-clause-callable
first_from-requires-clause-callable g c = λ key listed.
    c.requires.callable key (subst (λ (v : HeadersView). IsAt IsFree key v.items) c.self.view_is
    (listed_free c.self.inside.elems.items c.self.inside.lists.lists key c.self.invariant.tied.count c.self.invariant.tied.tied listed))

pub returns : goal.returns
returns g c =
    subst (λ (v : HeadersView). FindsFirstFree (goal.F-post g c.args.test) c.args.class v.items c.first_from.result) c.self.view_is
    (finds_first_free (goal.F-post g c.args.test) c.self.inside.elems.items c.self.inside.lists.lists c.self.invariant.tied.tied c.args.class c.first_from.result c.self.invariant.tied.count
    (finds_first_of_least (goal.F-post g c.args.test) c.self.inside.lists.lists c.args.class c.first_from.result c.first_from.ensures))
