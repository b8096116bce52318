use Rattle.std.proofs.lemmas.Result.{on_ok_weaker}
use Rattle.hp_view.proofs.StepLemmas.{below_drawn}
use Rattle.hp_view.proofs.heaps.draw_below.Goals as goal

pub returns : goal.returns
returns c =
    let lines = c.args.lines.now in
    let lists = c.args.lists.now in
    let most = c.peak-most.ensures in
    on_ok_weaker c.draw_caption.result
    (λ captioned. below_drawn lines lists c.args.records c.args.y c.args.key c.args.total c.peak-most.result c.plus.result c.plus-2.result c.plus-3.result
    _ _ _ _ c.plus.ensures most c.plus-2.ensures c.plus-3.ensures c.in_ok-draw_ticks.ensures c.in_ok-draw_steps.ensures captioned) c.draw_caption.ensures
