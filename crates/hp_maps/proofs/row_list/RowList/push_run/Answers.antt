-- The rows of the run stand after the others.
use Rattle.std.proofs.Common.{◌++◌, ◌∙◌, ap, arith}
use Rattle.hp_log.specs.Rows.{rows_of}
use Rattle.hp_maps.specs.RowsView.{RowsView}
use Rattle.hp_maps.proofs.GapLemmas.{all_behind}
use Rattle.hp_maps.proofs.row_list.RowList.push_run.Goals as goal

pub returns-clause-items : goal.returns-clause-items
returns-clause-items c =
    let rows = c.make_room.new.rows in
    let more = rows_of c.args.run.now c.args.generation in
    all_behind c.make_room.new.gap rows.items _ more (omega (arith, c.make_room.ensures.gap, rows.ok.0)) c.replace_with.ensures.0
    ∙ (ap (λ l. l ++ more) c.make_room.ensures.items ∙ ap (λ (r : RowsView). r.items ++ more) c.self.view_is)
