use Rattle.std.proofs.Common.{◌≡◌, vec_len}
use Rattle.std.specs.List.{All}
use Rattle.hp_stats.specs.StatViews as stats
use Rattle.hp_threads.specs.Counting.{WerePublished}
use Rattle.hp_threads.proofs.counting.count_all.Given as goal

abbrev pub invariant-loop-pens : goal.invariant-loop-pens
invariant-loop-pens g l = record {
  pens : l.pens.items ≡ l.initial.pens.items;
  cells : All (λ (pass : stats.PassView). pass.cells ≡ l.cells) l.passes.items;
  met : All (WerePublished l.initial.pens.items) l.passes.items → All (WerePublished l.initial.pens.items) l.initial.passes.items;
}

abbrev pub decreases-loop-pens : goal.decreases-loop-pens
decreases-loop-pens g l = vec_len l.passes
