use Rattle.std.proofs.Common.{◌≡◌, List, length, map, ap, ◌∙◌, arith}
use Rattle.std.proofs.lemmas.List.{take_all}
use Rattle.atomic_table.specs.Seated.{TableId}
use Rattle.hp_stats.specs.StatViews.{unread}
use Rattle.hp_stats.proofs.Readings.{new_pass_is}
use Rattle.hp_stats.proofs.opening.pass_to.Goals as goal

pub returns-clause-pass : goal.returns-clause-pass
returns-clause-pass c =
    let cells : List TableId = c.args.cells.now in
    let same : length c.cells.inside.cells.items ≡ length cells = ap length c.cells.view_is in
    new_pass_is c.loop-heap.readers.items cells
    (c.loop-heap.invariant.readers
    ∙ ap (map unread) (take_all c.loop-heap.heap cells (omega (arith, same, c.cells.inside.cells.ok.0, c.len-count.ensures, c.loop-heap-test.false))))
