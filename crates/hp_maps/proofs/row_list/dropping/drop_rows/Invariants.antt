-- Without what the records that are left drop, the rows are those that stay.
use Rattle.std.proofs.Common.{◌≡◌, drop}
use Rattle.hp_base.specs.Mapping.{owned}
use Rattle.hp_maps.specs.Catching.{kept}
use Rattle.hp_maps.specs.RowsView.{HaveOwnSlots}
use Rattle.hp_maps.proofs.row_list.dropping.drop_rows.Given as goal

abbrev pub invariant-loop-entry : goal.invariant-loop-entry
invariant-loop-entry g l = record {
  rows : kept (drop l.entry-index l.records) l.rows.items ≡ kept l.records l.initial.rows.items;
  once : HaveOwnSlots l.rows.items;
  memory : l.rows.memory ≡ l.initial.rows.memory;
  held : g.M.Mapper.held l.mapper ≡ owned l.rows.items;
  capacity : g.M.Mapper.capacity l.mapper ≡ g.M.Mapper.capacity l.initial.mapper;
  answers : g.M.Mapper.answers l.mapper ≡ g.M.Mapper.answers l.initial.mapper;
  faults : g.M.Mapper.faults l.mapper ≡ g.M.Mapper.faults l.initial.mapper;
  may_fail : g.M.Mapper.may_fail l.mapper ≡ g.M.Mapper.may_fail l.initial.mapper;
}
