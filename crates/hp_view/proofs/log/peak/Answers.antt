use Rattle.std.proofs.Common.{◌∙◌, sym, rules}
use Rattle.std.proofs.lemmas.List.{drop_all}
use Rattle.hp_view.proofs.StepLemmas.{from_here, no_peak, peak_step}
use Rattle.hp_view.proofs.log.peak.Goals as goal

pub loop-line-preserved : goal.loop-line-preserved
loop-line-preserved c =
    let line = c.line-item.result in
    let here = from_here c.args.lines.now c.loop-line.line-index line c.loop-line-test.true c.line-item.is in
    peak_step _ _ _ _ _ _ _ _ _ line c.loop-line.invariant here (search rules) (search rules)

pub returns : goal.returns
returns c = sym (no_peak _ _ _ _ _ (drop_all c.loop-line.line-index c.args.lines.now c.loop-line-test.false)) ∙ c.loop-line.invariant
