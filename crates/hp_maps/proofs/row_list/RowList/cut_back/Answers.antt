-- Those after the gap without those that are taken out.
use Rattle.std.proofs.Common.{◌++◌, ◌∙◌, ap, arith, drop, length, length-drop, take}
use Rattle.hp_maps.specs.RowsView.{RowsView}
use Rattle.hp_maps.proofs.GapLemmas.{cut_behind}
use Rattle.hp_maps.proofs.row_list.RowList.cut_back.Goals as goal

pub returns-clause-items : goal.returns-clause-items
returns-clause-items c =
    let rows = c.self.inside.rows in
    let gap = c.self.inside.gap in
    cut_behind gap c.args.from c.args.to rows.items _
    (omega (
      arith,
      c.requires.from,
      c.requires.within,
      c.self.invariant,
      rows.ok.0,
      length-drop gap rows.items,
      ap (λ (r : RowsView). length r.items) c.self.view_is,
    ))
    c.cut_out.ensures.items
    ∙ ap (λ (r : RowsView). take c.args.from r.items ++ drop c.args.to r.items) c.self.view_is
