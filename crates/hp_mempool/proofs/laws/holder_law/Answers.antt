use Rattle.std.proofs.Common.{ℕ, set, sym, ◌∙◌, arith}
use Rattle.crossbeam_queue.proofs.Lists.{set_else}
use Rattle.hp_mempool.specs.declared.view.View.{View}
use Rattle.hp_mempool.specs.Views.{spent_view, times}
use Rattle.hp_mempool.proofs.Counts.{once_at_most, sum_set, within_sum}
use Rattle.hp_mempool.proofs.laws.holder_law.Goals as goal

pub returns : goal.returns
returns c = record {
  one = λ numbers views rule one other number v w at_one at_other apart some_times.
      let has : View → ℕ = λ u. times number u.has in
      let less = sum_set has views one v at_one spent_view in
      let there = set_else views one other spent_view (λ same. apart (sym same)) ∙ at_other in
      let within = within_sum has (set views one spent_view) other w there in
      let once = rule.each_once number in
      let most = once_at_most rule.hidden.total number in
      (omega (arith, less, within, once, most, some_times), omega (arith, less, within, once, most, some_times));
}
