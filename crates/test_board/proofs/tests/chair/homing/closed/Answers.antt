-- Both seats are home, and the pen of heap 0 is that of its cell.
use Rattle.std.proofs.Common.{◌<◌, List, length, refl, sym, subst, arith}
use Rattle.std.proofs.lemmas.Option.{slice_get_read}
use Rattle.hp_stats.specs.StatViews.{PenView}
use Rattle.hp_board.specs.Closing.{IsAmong}
use Rattle.hp_board.specs.SeatView.{SeatView}
use Rattle.test_board.proofs.Homes.{everyone, first_pen}
use Rattle.test_board.proofs.tests.chair.homing.closed.Goals as goal

pub close-closed-requires-clause-everyone : goal.close-closed-requires-clause-everyone
close-closed-requires-clause-everyone g c who may =
    subst (λ (l : List SeatView). IsAmong l who) (sym c.gathered.ensures)
    (everyone c.args.board c.args.first.seat c.args.second.seat c.requires.opened.two c.requires.first.whose c.requires.second.whose who may)

pub meet-requires-clause-pen : goal.meet-requires-clause-pen
meet-requires-clause-pen g c =
    let are = c.close-closed.ensures.heaps in
    let heaps = c.close-closed.result.heaps.items in
    let pens = c.close-closed.result.pens.items in
    let pen : PenView = c.index_mut.result.now in
    let below : 0 < length pens = omega (arith, are.pen_count) in
    let there = slice_get_read pens (length pens) 0 pen refl below c.index_mut.ensures.value in
    first_pen c.args.board c.args.boxes.now c.args.cells.now heaps pens pen c.requires.opened are there
