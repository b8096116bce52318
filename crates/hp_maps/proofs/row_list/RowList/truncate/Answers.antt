-- The first ones after the gap.
use Rattle.std.proofs.Common.{◌∙◌, ap, drop, take}
use Rattle.std.proofs.lemmas.List.{drop-take}
use Rattle.hp_maps.specs.RowsView.{RowsView}
use Rattle.hp_maps.proofs.row_list.RowList.truncate.Goals as goal

pub returns-clause-items : goal.returns-clause-items
returns-clause-items c =
    ap (drop c.self.inside.gap) c.truncate.ensures.items
    ∙ (drop-take c.self.inside.gap c.args.n c.self.inside.rows.items ∙ ap (λ (rows : RowsView). take c.args.n rows.items) c.self.view_is)
