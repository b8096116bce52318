-- What is held once the rest is unmapped too.
use Rattle.std.proofs.Common.{◌≡◌, ◌-◌, ◌≤◌, drop, length}
use Rattle.hp_base.specs.Mapping.{without_rows}
use Rattle.hp_maps.proofs.mapping.unmap_rows.Given as goal

abbrev pub invariant-loop-at : goal.invariant-loop-at
invariant-loop-at g l = record {
  within : l.at ≤ length l.rows;
  held : without_rows (drop l.at l.rows) (g.M.Mapper.held l.mapper) ≡ without_rows l.rows (g.M.Mapper.held l.initial.mapper);
  capacity : g.M.Mapper.capacity l.mapper ≡ g.M.Mapper.capacity l.initial.mapper;
  answers : g.M.Mapper.answers l.mapper ≡ g.M.Mapper.answers l.initial.mapper;
  faults : g.M.Mapper.faults l.mapper ≡ g.M.Mapper.faults l.initial.mapper;
  may_fail : g.M.Mapper.may_fail l.mapper ≡ g.M.Mapper.may_fail l.initial.mapper;
}

abbrev pub decreases-loop-at : goal.decreases-loop-at
decreases-loop-at g l = length l.rows - l.at
