use Rattle.std.proofs.Common.{ap, sym, ◌∙◌, arith}
use Rattle.std.specs.List.{filter}
use Rattle.hp_heap.specs.PlainHeap.{is_free}
use Rattle.hp_heap.specs.Headers.{HeadersView, spans_of}
use Rattle.hp_heap.specs.Statistics.{greatest_whole, statistics_of_ranges}
use Rattle.hp_heap.proofs.HistoryFacts.TotalsLemmas.{free_within, sums_stats}
use Rattle.hp_heap.proofs.headers.Headers.statistics.Goals as goal

pub overflow_sub-result : goal.overflow_sub-result
overflow_sub-result c = omega (arith, c.self.invariant.sums.total, c.self.invariant.sums.free, free_within (spans_of c.self.inside.elems.items))

pub returns : goal.returns
returns c =
    sums_stats c.self.inside.elems.items c.self.inside.totals c.greatest.result c.len.result c.self.invariant.sums
    (c.greatest.ensures ∙ sym (ap (λ (v : HeadersView). greatest_whole (filter is_free (spans_of v.items))) c.self.view_is)) c.len.ensures
    ∙ ap (λ (v : HeadersView). statistics_of_ranges (spans_of v.items)) c.self.view_is
