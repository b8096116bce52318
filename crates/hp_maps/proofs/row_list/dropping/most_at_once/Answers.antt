-- The first row goes with the run, which has so many slots from there on.
use Rattle.std.proofs.Common.{◌∙◌, arith, get_or, sym}
use Rattle.hp_maps.proofs.MapLemmas.{no_row}
use Rattle.hp_maps.proofs.TogetherLemmas.{may_go, runs_on}
use Rattle.hp_maps.proofs.row_list.dropping.most_at_once.Goals as goal

pub returns-then-goes_with : goal.returns-then-goes_with
returns-then-goes_with c =
    let goes = sym c.goes_with.ensures ∙ c.if-goes_with.true in
    may_go c.args.run.now c.args.rows.now _ no_row (omega arith) goes (runs_on c.args.run.now (get_or c.args.rows.now 0 no_row) goes)
