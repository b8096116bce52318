-- The row stands after the others.
use Rattle.std.proofs.Common.{◌++◌, ◌∷◌, ◌∙◌, [], ap, arith}
use Rattle.hp_maps.specs.RowsView.{RowsView}
use Rattle.hp_maps.proofs.GapLemmas.{added_behind}
use Rattle.hp_maps.proofs.row_list.RowList.push.Goals as goal

pub returns-clause-items : goal.returns-clause-items
returns-clause-items c =
    let rows = c.make_room.new.rows in
    added_behind c.make_room.new.gap rows.items _ c.args.row (omega (arith, c.make_room.ensures.gap, rows.ok.0)) c.push_reserved.ensures.items
    ∙ (ap (λ l. l ++ c.args.row ∷ []) c.make_room.ensures.items ∙ ap (λ (r : RowsView). r.items ++ c.args.row ∷ []) c.self.view_is)
