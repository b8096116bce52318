-- Of the rows so far those that stay are in front, and what is held once the rest of those that records drop is unmapped too.
use Rattle.std.proofs.Common.{◌≡◌, ◌≤◌, drop, filter, length, not, take}
use Rattle.hp_maps.specs.RowsView.{goes_with}
use Rattle.hp_base.specs.Mapping.{without_rows}
use Rattle.hp_maps.proofs.row_list.dropping.unmap_going.Given as goal

abbrev pub invariant-loop-at : goal.invariant-loop-at
invariant-loop-at g l = record {
  before : l.stay ≤ l.at;
  long : length l.rows ≡ length l.initial.rows;
  front : take l.stay l.rows ≡ filter (λ row. not (goes_with l.run row)) (take l.at l.initial.rows);
  rest : drop l.at l.rows ≡ drop l.at l.initial.rows;
  held : without_rows (filter (goes_with l.run) (drop l.at l.initial.rows)) (g.M.Mapper.held l.mapper)
      ≡ without_rows (filter (goes_with l.run) l.initial.rows) (g.M.Mapper.held l.initial.mapper);
  capacity : g.M.Mapper.capacity l.mapper ≡ g.M.Mapper.capacity l.initial.mapper;
  answers : g.M.Mapper.answers l.mapper ≡ g.M.Mapper.answers l.initial.mapper;
  faults : g.M.Mapper.faults l.mapper ≡ g.M.Mapper.faults l.initial.mapper;
  may_fail : g.M.Mapper.may_fail l.mapper ≡ g.M.Mapper.may_fail l.initial.mapper;
}
