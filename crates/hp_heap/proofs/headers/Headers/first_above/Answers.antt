use Rattle.std.proofs.Common.{◌≤◌, subst}
use Rattle.hp_elem.specs.Items.{IsAt}
use Rattle.hp_freelist.proofs.SearchLaw.{finds_first_of_least}
use Rattle.hp_heap.specs.Headers.{HeadersView, IsFree, FindsFirstFree}
use Rattle.hp_heap.proofs.AllocFacts.AboveLemmas.{small_fails}
use Rattle.hp_heap.proofs.FirstFree.{listed_free, finds_first_free}
use Rattle.hp_heap.proofs.headers.Headers.first_above.Goals as goal

pub first_above-requires-clause-callable : goal.first_above-requires-clause-callable
first_above-requires-clause-callable g c = λ key listed.
    c.requires.callable key (subst (λ (v : HeadersView). IsAt IsFree key v.items) c.self.view_is
    (listed_free c.self.inside.elems.items c.self.inside.lists.lists key c.self.invariant.tied.count c.self.invariant.tied.tied listed))

pub first_above-requires-clause-small : goal.first_above-requires-clause-small
first_above-requires-clause-small g c =
    small_fails (goal.F-post g c.args.test) c.args.most c.self.inside.elems.items
    (λ key at. c.requires.small key (subst (λ (v : HeadersView). IsAt (λ span. span.whole ≤ c.args.most) key v.items) c.self.view_is at))
    c.self.inside.lists.lists c.self.invariant.tied.count c.self.invariant.tied.tied

pub returns : goal.returns
returns g c =
    subst (λ (v : HeadersView). FindsFirstFree (goal.F-post g c.args.test) c.args.class v.items c.first_above.result) c.self.view_is
    (finds_first_free (goal.F-post g c.args.test) c.self.inside.elems.items c.self.inside.lists.lists c.self.invariant.tied.tied c.args.class c.first_above.result c.self.invariant.tied.count
    (finds_first_of_least (goal.F-post g c.args.test) c.self.inside.lists.lists c.args.class c.first_above.result c.first_above.ensures))
