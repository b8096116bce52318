-- The rows so far go with the run, and are unmapped.
use Rattle.std.proofs.Common.{◌≡◌, ◌-◌, ◌≤◌, length, take, true}
use Rattle.std.specs.List.{All}
use Rattle.hp_base.specs.Mapping.{without_rows}
use Rattle.hp_maps.specs.RowsView.{goes_with}
use Rattle.hp_maps.proofs.row_list.dropping.unmap_together.Given as goal

abbrev pub invariant-loop-gone : goal.invariant-loop-gone
invariant-loop-gone g l = record {
  within : l.gone ≤ length l.rows;
  go : All (λ row. goes_with l.run row ≡ true) (take l.gone l.rows);
  held : g.M.Mapper.held l.mapper ≡ without_rows (take l.gone l.rows) (g.M.Mapper.held l.initial.mapper);
  capacity : g.M.Mapper.capacity l.mapper ≡ g.M.Mapper.capacity l.initial.mapper;
  answers : g.M.Mapper.answers l.mapper ≡ g.M.Mapper.answers l.initial.mapper;
  faults : g.M.Mapper.faults l.mapper ≡ g.M.Mapper.faults l.initial.mapper;
  may_fail : g.M.Mapper.may_fail l.mapper ≡ g.M.Mapper.may_fail l.initial.mapper;
}

abbrev pub decreases-loop-gone : goal.decreases-loop-gone
decreases-loop-gone g l = length l.rows - l.gone
