use Rattle.std.proofs.Common.{◌≡◌, ◌+◌, ℕ, Some, sym, ap, ◌∙◌, arith}
use Rattle.hp_stats.specs.declared.stat_pair.StatPair.{StatPair}
use Rattle.hp_stats.specs.Pairs.{pair}
use Rattle.hp_stats.specs.StatViews.{PassView, PenView, last_count}
use Rattle.hp_stats.proofs.PairLemmas.{newest_of-push}
use Rattle.test_shared.proofs.tests.stats.threads.publish_all.Goals as goal

pub loop-entries-preserved : goal.loop-entries-preserved
loop-entries-preserved g c =
    let next : StatPair = pair (c.loop-entries.entries + 1) c.stats_of.result in
    let newest : last_count c.publish.new.pen ≡ c.loop-entries.entries + 1
    = ap last_count c.publish.ensures.published ∙ ap (λ (p : StatPair). p.entries) (newest_of-push c.loop-entries.pen.published next) in
    record {
      pen = c.loop-entries.invariant.pen ∙ ap (λ (p : PenView). Some p.cell) (sym c.publish.ensures.published);
      pass = ap (λ (p : PassView). p.cells) c.publish.ensures.told ∙ c.loop-entries.invariant.pass;
      count = omega (arith, newest);
    }
