-- How a cell is kept. No public clause cites this module.
use Rattle.atomic_table.specs.Seated.{TableId}
use Rattle.hp_stats.specs.declared.stat_cell.StatCell.TheInside.{Inside}

abbrev pub cell_id : Inside → TableId
cell_id a = a.cell.table.shared.table_id
