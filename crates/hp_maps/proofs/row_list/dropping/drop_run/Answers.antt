-- All rows are held, so none of those that go lack.
use Rattle.std.proofs.Common.{◌∙◌, ap, filter}
use Rattle.hp_base.specs.Mapping.{without_rows}
use Rattle.hp_maps.specs.RowsView.{goes_with}
use Rattle.hp_maps.proofs.HeldLemmas.{without_passing}
use Rattle.hp_maps.proofs.row_list.dropping.drop_run.Goals as goal

pub drop_each-requires : goal.drop_each-requires
drop_each-requires g c =
    let rows = c.args.rows.now.items in
    let goes = goes_with c.args.run.now in
    ap (without_rows (filter goes rows)) c.requires.held ∙ without_passing goes rows
