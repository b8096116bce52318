use Rattle.std.proofs.Common.{◌≡◌, subst}
use Rattle.std.specs.List.{filter}
use Rattle.hp_elem.proofs.ChainLemmas.{has_at}
use Rattle.hp_heap.specs.PlainHeap.{is_free}
use Rattle.hp_heap.specs.Headers.{HeadersView, IsFree, spans_of}
use Rattle.hp_heap.specs.Statistics.{greatest_whole}
use Rattle.hp_heap.proofs.AllocFacts.GreatestLemmas.{none_greatest, greatest_at, greatest_is}
use Rattle.hp_heap.proofs.headers.Headers.greatest.Goals as goal

pub get-requires : goal.get-requires
get-requires c = record {
  known = has_at IsFree c.in-Some.key c.self.inside.elems.items
      (greatest_at c.self.inside.elems.items c.self.inside.lists.lists c.self.invariant.tied.count c.self.invariant.tied.tied c.in-Some.key c.in-Some.ensures.greatest);
}

pub returns-in-Some : goal.returns-in-Some
returns-in-Some c =
    subst (λ (v : HeadersView). c.get.result.now.span.whole ≡ greatest_whole (filter is_free (spans_of v.items))) c.self.view_is
    (greatest_is c.self.inside.elems.items c.self.inside.lists.lists c.self.invariant.tied.count c.self.invariant.tied.tied c.in-Some.key c.in-Some.ensures.greatest c.get.result.now
    c.self.invariant.tied.apart c.get.ensures.stands)

pub returns-in-None : goal.returns-in-None
returns-in-None c =
    subst (λ (v : HeadersView). 0 ≡ greatest_whole (filter is_free (spans_of v.items))) c.self.view_is
    (none_greatest c.self.inside.elems.items c.self.inside.lists.lists c.self.invariant.tied.count c.self.invariant.tied.tied c.in-None.ensures.none)
