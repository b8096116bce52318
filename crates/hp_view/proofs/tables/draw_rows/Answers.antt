use Rattle.std.proofs.Common.{rules}
use Rattle.std.proofs.lemmas.List.{drop_all}
use Rattle.hp_view.proofs.StepLemmas.{all_drawn, from_here, no_tables, tables_step}
use Rattle.hp_view.proofs.tables.draw_rows.Goals as goal

pub loop-line-preserved : goal.loop-line-preserved
loop-line-preserved c =
    let line = c.line-item.result in
    let here = from_here c.args.lines.now c.loop-line.line-index line c.loop-line-test.true c.line-item.is in
    tables_step _ _ _ _ _ line _ _ _ c.loop-line.invariant here c.in_ok-draw_row.ensures (search rules)

pub returns : goal.returns
returns c = all_drawn _ _ _ c.loop-line.invariant (no_tables _ _ _ (drop_all c.loop-line.line-index c.args.lines.now c.loop-line-test.false))
