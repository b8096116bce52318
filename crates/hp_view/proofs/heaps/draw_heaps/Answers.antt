use Rattle.std.proofs.Common.{◌∙◌, ap}
use Rattle.std.proofs.lemmas.List.{drop_all, drop_more}
use Rattle.hp_view.specs.declared.line.Line.TheVariants as line
use Rattle.hp_view.specs.Heaps.{key_of}
use Rattle.hp_view.proofs.StepLemmas.{all_drawn, heaps_step, item_is, no_heaps}
use Rattle.hp_view.proofs.heaps.draw_heaps.Goals as goal

pub loop-at-preserved : goal.loop-at-preserved
loop-at-preserved c =
    let lines = c.args.lines.now in
    let at = c.loop-at.at in
    let is = item_is lines at c.index-lines-at.result line.Other c.loop-at-test.true c.index-lines-at.is in
    heaps_step _ _ _ _ _ _ _ _ _ _ _ _ c.loop-at.invariant (drop_more lines at line.Other c.loop-at-test.true) (c.key_of-key.ensures ∙ ap key_of is)
    c.in_ok-draw_at.ensures c.below-y.ensures

pub returns : goal.returns
returns c = all_drawn _ _ _ c.loop-at.invariant (no_heaps _ _ _ _ _ (drop_all c.loop-at.at c.args.lines.now c.loop-at-test.false))
