use Rattle.std.proofs.Common.{◌≡◌, ◌<◌, ℕ, List, length, set, slice_get, sym, ap, subst, ◌∙◌, arith}
use Rattle.std.proofs.lemmas.Option.{same_Some, slice_get_within}
use Rattle.atomic_table.specs.Seated.{TableId}
use Rattle.hp_stats.specs.declared.stat_pair.StatPair.{StatPair}
use Rattle.hp_stats.specs.Pairs.{pair}
use Rattle.hp_stats.specs.StatViews.{ReaderView, sees}
use Rattle.hp_stats.proofs.Readings.{pass_of, readers_fit, same_cell, sees_here, there}
use Rattle.hp_stats.proofs.stat_cells.StatCells.publish.Goals as goal

pub index-cell-requires : goal.index-cell-requires
index-cell-requires g c =
    let inside : c.args.heap < length c.self.inside.cells.items = subst (λ (l : List TableId). c.args.heap < length l) (sym c.self.view_is) (slice_get_within c.args.self.now c.args.heap c.args.pen.now.cell c.requires.pen) in
    omega (arith, inside, c.self.inside.cells.ok.0)

pub index_mut-reader-requires : goal.index_mut-reader-requires
index_mut-reader-requires g c =
    let inside : c.args.heap < length c.pass.inside.readers.items = subst (λ (n : ℕ). c.args.heap < n) (sym (readers_fit c.pass.inside.readers.items c.args.pass.now c.args.self.now c.pass.view_is c.requires.pass)) (slice_get_within c.args.self.now c.args.heap c.args.pen.now.cell c.requires.pen) in
    omega (arith, inside, c.pass.inside.readers.ok.0)

pub publish-requires-clause-cell : goal.publish-requires-clause-cell
publish-requires-clause-cell g c =
    same_Some c.args.pen.now.cell c.index-cell.result.now (sym c.requires.pen ∙ ap (λ (l : List TableId). slice_get l c.args.heap) (sym c.self.view_is) ∙ there c.self.inside.cells.items c.args.heap c.index-cell.result.now (subst (λ (l : List TableId). c.args.heap < length l) (sym c.self.view_is) (slice_get_within c.args.self.now c.args.heap c.args.pen.now.cell c.requires.pen)) c.index-cell.ensures)

pub publish-requires-clause-reader : goal.publish-requires-clause-reader
publish-requires-clause-reader g c =
    same_cell c.pass.inside.readers.items c.args.heap c.index_mut-reader.result.now c.args.pass.now c.args.self.now c.index-cell.result.now
    (there c.pass.inside.readers.items c.args.heap c.index_mut-reader.result.now (subst (λ (n : ℕ). c.args.heap < n) (sym (readers_fit c.pass.inside.readers.items c.args.pass.now c.args.self.now c.pass.view_is c.requires.pass)) (slice_get_within c.args.self.now c.args.heap c.args.pen.now.cell c.requires.pen)) c.index_mut-reader.ensures.value)
    c.pass.view_is c.requires.pass
    (ap (λ (l : List TableId). slice_get l c.args.heap) (sym c.self.view_is) ∙ there c.self.inside.cells.items c.args.heap c.index-cell.result.now (subst (λ (l : List TableId). c.args.heap < length l) (sym c.self.view_is) (slice_get_within c.args.self.now c.args.heap c.args.pen.now.cell c.requires.pen)) c.index-cell.ensures)

pub returns-clause-told : goal.returns-clause-told
returns-clause-told g c =
    let readers : List ReaderView = c.pass.inside.readers.items in
    let reader : ReaderView = c.index_mut-reader.result.now in
    let at = there c.pass.inside.readers.items c.args.heap c.index_mut-reader.result.now (subst (λ (n : ℕ). c.args.heap < n) (sym (readers_fit c.pass.inside.readers.items c.args.pass.now c.args.self.now c.pass.view_is c.requires.pass)) (slice_get_within c.args.self.now c.args.heap c.args.pen.now.cell c.requires.pen)) c.index_mut-reader.ensures.value in
    let new : StatPair = pair c.args.entries c.args.stats.now in
    ap (λ (r : ReaderView). pass_of (set readers c.args.heap r)) c.publish.ensures.reader
    ∙ sees_here readers c.args.heap reader at new
    ∙ ap (sees c.args.heap new) c.pass.view_is
