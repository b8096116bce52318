use Rattle.std.proofs.Common.{◌≡◌, ◌<◌, ℕ, List, length, set, slice_get, sym, ap, subst, ◌∙◌, arith}
use Rattle.atomic_table.specs.Seated.{TableId}
use Rattle.hp_stats.specs.declared.stat_pair.StatPair.{StatPair}
use Rattle.hp_stats.specs.Pairs.{IsNotBelow}
use Rattle.hp_stats.specs.StatViews.{ReaderView, seen_of, sees}
use Rattle.hp_stats.proofs.Readings.{pass_of, readers_fit, same_cell, seen_here, sees_here, there}
use Rattle.hp_stats.proofs.stat_cells.StatCells.read.Goals as goal

pub index-cell-requires : goal.index-cell-requires
index-cell-requires g c =
    let inside : c.args.heap < length c.self.inside.cells.items = subst (λ (l : List TableId). c.args.heap < length l) (sym c.self.view_is) (c.requires.heap) in
    omega (arith, inside, c.self.inside.cells.ok.0)

pub index_mut-reader-requires : goal.index_mut-reader-requires
index_mut-reader-requires g c =
    let inside : c.args.heap < length c.pass.inside.readers.items = subst (λ (n : ℕ). c.args.heap < n) (sym (readers_fit c.pass.inside.readers.items c.args.pass.now c.args.self.now c.pass.view_is c.requires.pass)) (c.requires.heap) in
    omega (arith, inside, c.pass.inside.readers.ok.0)

pub read-found-requires : goal.read-found-requires
read-found-requires g c = record {
  cell = same_cell c.pass.inside.readers.items c.args.heap c.index_mut-reader.result.now c.args.pass.now c.args.self.now c.index-cell.result.now
      (there c.pass.inside.readers.items c.args.heap c.index_mut-reader.result.now (subst (λ (n : ℕ). c.args.heap < n) (sym (readers_fit c.pass.inside.readers.items c.args.pass.now c.args.self.now c.pass.view_is c.requires.pass)) (c.requires.heap)) c.index_mut-reader.ensures.value)
      c.pass.view_is c.requires.pass
      (ap (λ (l : List TableId). slice_get l c.args.heap) (sym c.self.view_is) ∙ there c.self.inside.cells.items c.args.heap c.index-cell.result.now (subst (λ (l : List TableId). c.args.heap < length l) (sym c.self.view_is) (c.requires.heap)) c.index-cell.ensures);
}

pub returns-clause-read : goal.returns-clause-read
returns-clause-read g c =
    let readers : List ReaderView = c.pass.inside.readers.items in
    let reader : ReaderView = c.index_mut-reader.result.now in
    let at = there c.pass.inside.readers.items c.args.heap c.index_mut-reader.result.now (subst (λ (n : ℕ). c.args.heap < n) (sym (readers_fit c.pass.inside.readers.items c.args.pass.now c.args.self.now c.pass.view_is c.requires.pass)) (c.requires.heap)) c.index_mut-reader.ensures.value in
    let found : StatPair = c.read-found.result in
    ap (λ (r : ReaderView). pass_of (set readers c.args.heap r)) c.read-found.ensures.reader
    ∙ sees_here readers c.args.heap reader at found
    ∙ ap (sees c.args.heap found) c.pass.view_is

pub returns-clause-not_below : goal.returns-clause-not_below
returns-clause-not_below g c =
    let readers : List ReaderView = c.pass.inside.readers.items in
    let reader : ReaderView = c.index_mut-reader.result.now in
    let at = there c.pass.inside.readers.items c.args.heap c.index_mut-reader.result.now (subst (λ (n : ℕ). c.args.heap < n) (sym (readers_fit c.pass.inside.readers.items c.args.pass.now c.args.self.now c.pass.view_is c.requires.pass)) (c.requires.heap)) c.index_mut-reader.ensures.value in
    subst (λ (l : List StatPair). IsNotBelow l c.read-found.result.entries)
    (sym (seen_here readers c.args.heap reader at) ∙ ap (seen_of c.args.heap) c.pass.view_is)
    c.read-found.ensures.not_below
