use Rattle.std.proofs.Common.{◌++◌}
use Rattle.std.specs.Prelude.{codes}
use Rattle.std.proofs.lemmas.Result.{on_ok_weaker}
use Rattle.hp_view.specs.declared.shape.Colour.TheVariants as colour
use Rattle.hp_view.specs.Legend.{swatch}
use Rattle.hp_view.proofs.StepLemmas.{and_then}
use Rattle.hp_view.proofs.legend.draw_swatches.Goals as goal

pub returns : goal.returns
returns c =
    let page = c.args.page.now in
    let one = swatch 20 colour.Busy (codes "a busy element") in
    let two = one ++ swatch 165 (colour.Free 0) (codes "a free one") in
    let three = two ++ swatch 275 colour.Many (codes "several small elements") in
    let four = three ++ swatch 470 colour.Grown (codes "pages came to the heap") in
    let five = four ++ swatch 675 colour.Shrunk (codes "pages went") in
    let six = five ++ swatch 795 colour.Stayed (codes "a record of another heap") in
    let two_drawn = and_then page _ _ one (swatch 165 (colour.Free 0) (codes "a free one")) c.in_ok-draw_swatch.ensures c.in_ok-draw_swatch-2.ensures in
    let three_drawn = and_then page _ _ two (swatch 275 colour.Many (codes "several small elements")) two_drawn c.in_ok-draw_swatch-3.ensures in
    let four_drawn = and_then page _ _ three (swatch 470 colour.Grown (codes "pages came to the heap")) three_drawn c.in_ok-draw_swatch-4.ensures in
    let five_drawn = and_then page _ _ four (swatch 675 colour.Shrunk (codes "pages went")) four_drawn c.in_ok-draw_swatch-5.ensures in
    let six_drawn = and_then page _ _ five (swatch 795 colour.Stayed (codes "a record of another heap")) five_drawn c.in_ok-draw_swatch-6.ensures in
    on_ok_weaker c.draw_swatch-7.result (λ last. and_then page _ _ six (swatch 1000 colour.Refused (codes "an ask was refused")) six_drawn last)
    c.draw_swatch-7.ensures
