use Rattle.std.proofs.Common.{ap, ◌∙◌}
use Rattle.std.specs.List.{find}
use Rattle.hp_heap.specs.Tiling.{in_range, range_at}
use Rattle.hp_heap.proofs.HistoryFacts.HeapLaw.{of_heap}
use Rattle.hp_heap.proofs.body.Body.lookup.Goals as goal

pub span_at-requires : goal.span_at-requires
span_at-requires c = of_heap c.self.inside c.self.invariant

pub returns : goal.returns
unfolding range_at
returns c = c.span_at.ensures ∙ ap (λ zs. find (in_range c.args.addr) zs) (c.self.invariant.ranges ∙ ap (λ v. v.plain.ranges) c.self.view_is)
