-- The rows so far are mapped, each at its own place.
use Rattle.std.proofs.Common.{◌≡◌, ◌-◌, ◌≤◌, ◌++◌, drop, length, take, map}
use Rattle.hp_base.specs.Mapping.{own_place, owned}
use Rattle.hp_maps.proofs.mapping.map_rows.Given as goal

abbrev pub invariant-loop-at : goal.invariant-loop-at
invariant-loop-at g l = record {
  from : l.start ≤ l.at;
  within : l.at ≤ length l.rows;
  held : g.M.Mapper.held l.mapper ≡ owned (take l.at l.rows);
  answered : g.M.Mapper.answers l.mapper ≡ g.M.Mapper.answers l.initial.mapper ++ map own_place (take (l.at - l.start) (drop l.start l.rows));
  capacity : g.M.Mapper.capacity l.mapper ≡ g.M.Mapper.capacity l.initial.mapper;
  faults : g.M.Mapper.faults l.mapper ≡ g.M.Mapper.faults l.initial.mapper;
  may_fail : g.M.Mapper.may_fail l.mapper ≡ g.M.Mapper.may_fail l.initial.mapper;
}

abbrev pub decreases-loop-at : goal.decreases-loop-at
decreases-loop-at g l = length l.rows - l.at
