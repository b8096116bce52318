use Rattle.std.proofs.Common.{◌++◌}
use Rattle.std.proofs.lemmas.Result.{on_ok_weaker}
use Rattle.hp_view.specs.Legend.{remark_on_bands, remark_on_logs, swatches, title}
use Rattle.hp_view.proofs.StepLemmas.{and_then}
use Rattle.hp_view.proofs.legend.draw_legend.Goals as goal

pub returns : goal.returns
returns c =
    let page = c.args.page.now in
    let one = title c.args.lines.now in
    let two = one ++ remark_on_bands in
    let two_drawn = and_then page _ _ one remark_on_bands c.in_ok-draw_title.ensures c.in_ok-draw_remark.ensures in
    let three_drawn = and_then page _ _ two remark_on_logs two_drawn c.in_ok-draw_remark-2.ensures in
    on_ok_weaker c.draw_swatches.result (λ last. and_then page _ _ (two ++ remark_on_logs) swatches three_drawn last) c.draw_swatches.ensures
