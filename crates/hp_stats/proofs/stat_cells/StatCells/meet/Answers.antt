use Rattle.std.proofs.Common.{◌≡◌, ◌<◌, ℕ, List, length, set, slice_get, sym, ap, subst, ◌∙◌, arith}
use Rattle.std.proofs.lemmas.Option.{same_Some, slice_get_within}
use Rattle.atomic_table.specs.Seated.{TableId}
use Rattle.hp_stats.specs.declared.stat_pair.StatPair.{StatPair}
use Rattle.hp_stats.specs.Pairs.{AreAmong}
use Rattle.hp_stats.specs.StatViews.{ReaderView, seen_of}
use Rattle.hp_stats.proofs.Readings.{pass_of, readers_fit, same_cell, seen_here, stays_here, there}
use Rattle.hp_stats.proofs.stat_cells.StatCells.meet.Goals as goal

pub index-cell-requires : goal.index-cell-requires
index-cell-requires g c =
    let inside : c.args.heap < length c.self.inside.cells.items = subst (λ (l : List TableId). c.args.heap < length l) (sym c.self.view_is) (slice_get_within c.args.self.now c.args.heap c.args.pen.now.cell c.requires.pen) in
    omega (arith, inside, c.self.inside.cells.ok.0)

pub index_mut-reader-requires : goal.index_mut-reader-requires
index_mut-reader-requires g c =
    let inside : c.args.heap < length c.pass.inside.readers.items = subst (λ (n : ℕ). c.args.heap < n) (sym (readers_fit c.pass.inside.readers.items c.args.pass.now c.args.self.now c.pass.view_is c.requires.pass)) (slice_get_within c.args.self.now c.args.heap c.args.pen.now.cell c.requires.pen) in
    omega (arith, inside, c.pass.inside.readers.ok.0)

pub meet-requires-clause-cell : goal.meet-requires-clause-cell
meet-requires-clause-cell g c =
    same_Some c.args.pen.now.cell c.index-cell.result.now (sym c.requires.pen ∙ ap (λ (l : List TableId). slice_get l c.args.heap) (sym c.self.view_is) ∙ there c.self.inside.cells.items c.args.heap c.index-cell.result.now (subst (λ (l : List TableId). c.args.heap < length l) (sym c.self.view_is) (slice_get_within c.args.self.now c.args.heap c.args.pen.now.cell c.requires.pen)) c.index-cell.ensures)

pub meet-requires-clause-reader : goal.meet-requires-clause-reader
meet-requires-clause-reader g c =
    same_cell c.pass.inside.readers.items c.args.heap c.index_mut-reader.result.now c.args.pass.now c.args.self.now c.index-cell.result.now
    (there c.pass.inside.readers.items c.args.heap c.index_mut-reader.result.now (subst (λ (n : ℕ). c.args.heap < n) (sym (readers_fit c.pass.inside.readers.items c.args.pass.now c.args.self.now c.pass.view_is c.requires.pass)) (slice_get_within c.args.self.now c.args.heap c.args.pen.now.cell c.requires.pen)) c.index_mut-reader.ensures.value)
    c.pass.view_is c.requires.pass
    (ap (λ (l : List TableId). slice_get l c.args.heap) (sym c.self.view_is) ∙ there c.self.inside.cells.items c.args.heap c.index-cell.result.now (subst (λ (l : List TableId). c.args.heap < length l) (sym c.self.view_is) (slice_get_within c.args.self.now c.args.heap c.args.pen.now.cell c.requires.pen)) c.index-cell.ensures)

pub returns-clause-among : goal.returns-clause-among
returns-clause-among g c =
    let readers : List ReaderView = c.pass.inside.readers.items in
    let reader : ReaderView = c.index_mut-reader.result.now in
    let at = there c.pass.inside.readers.items c.args.heap c.index_mut-reader.result.now (subst (λ (n : ℕ). c.args.heap < n) (sym (readers_fit c.pass.inside.readers.items c.args.pass.now c.args.self.now c.pass.view_is c.requires.pass)) (slice_get_within c.args.self.now c.args.heap c.args.pen.now.cell c.requires.pen)) c.index_mut-reader.ensures.value in
    subst (λ (l : List StatPair). AreAmong c.args.pen.now.published l)
    (sym (seen_here readers c.args.heap reader at) ∙ ap (seen_of c.args.heap) c.pass.view_is)
    c.meet.ensures.among

pub returns-clause-pass_same : goal.returns-clause-pass_same
returns-clause-pass_same g c =
    let readers : List ReaderView = c.pass.inside.readers.items in
    let reader : ReaderView = c.index_mut-reader.result.now in
    let at = there c.pass.inside.readers.items c.args.heap c.index_mut-reader.result.now (subst (λ (n : ℕ). c.args.heap < n) (sym (readers_fit c.pass.inside.readers.items c.args.pass.now c.args.self.now c.pass.view_is c.requires.pass)) (slice_get_within c.args.self.now c.args.heap c.args.pen.now.cell c.requires.pen)) c.index_mut-reader.ensures.value in
    ap (λ (r : ReaderView). pass_of (set readers c.args.heap r)) c.meet.ensures.reader
    ∙ stays_here readers c.args.heap reader at
    ∙ c.pass.view_is
