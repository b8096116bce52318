use Rattle.std.proofs.Common.{rules}
use Rattle.std.proofs.lemmas.List.{drop_all}
use Rattle.hp_view.proofs.StepLemmas.{all_drawn, from_here, no_ticks, ticks_step}
use Rattle.hp_view.proofs.pages.draw_ticks.Goals as goal

pub loop-line-preserved : goal.loop-line-preserved
loop-line-preserved c =
    let line = c.line-item.result in
    let here = from_here c.args.lines.now c.loop-line.line-index line c.loop-line-test.true c.line-item.is in
    ticks_step _ _ _ _ _ _ _ _ _ line _ _ _ c.loop-line.invariant here (search rules) c.in_ok-draw_page.ensures (search rules)

pub returns : goal.returns
returns c = all_drawn _ _ _ c.loop-line.invariant (no_ticks _ _ _ _ _ _ (drop_all c.loop-line.line-index c.args.lines.now c.loop-line-test.false))
