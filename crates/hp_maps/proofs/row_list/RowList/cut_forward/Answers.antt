-- Those after the wider gap are those before the ones that are taken out, and those after them.
use Rattle.std.proofs.Common.{◌-◌, ◌++◌, ◌∙◌, List, ap, drop, sym, take}
use Rattle.std.proofs.lemmas.List.{drop-drop}
use Rattle.hp_base.specs.declared.row.Row.{Row}
use Rattle.hp_maps.specs.RowsView.{RowsView}
use Rattle.hp_maps.proofs.row_list.RowList.cut_forward.Goals as goal

pub returns-clause-items : goal.returns-clause-items
returns-clause-items c =
    let rows = c.self.inside.rows in
    let gap = c.self.inside.gap in
    c.cut_front.ensures.items
    ∙ (drop-drop (c.args.to - c.args.from) gap c.move_behind.new.rows.items
    ∙ (c.move_behind.ensures.items
    ∙ (ap (λ (l : List Row). take c.args.from (drop gap rows.items) ++ l) (sym (drop-drop c.args.to gap rows.items))
    ∙ ap (λ (r : RowsView). take c.args.from r.items ++ drop c.args.to r.items) c.self.view_is)))
