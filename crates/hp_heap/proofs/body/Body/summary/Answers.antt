use Rattle.std.proofs.Common.{ap, ◌∙◌}
use Rattle.hp_heap.specs.Statistics.{statistics_of, statistics_of_ranges}
use Rattle.hp_heap.proofs.body.Body.summary.Goals as goal

pub returns : goal.returns
unfolding statistics_of
returns c = c.statistics.ensures ∙ ap (λ zs. statistics_of_ranges zs) (c.self.invariant.ranges ∙ ap (λ v. v.plain.ranges) c.self.view_is)
