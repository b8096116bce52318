-- What is held once the rest of those of the chunk is unmapped too.
use Rattle.std.proofs.Common.{◌≡◌, drop, filter}
use Rattle.hp_maps.specs.Chunks.{is_of_chunk}
use Rattle.hp_base.specs.Mapping.{without_rows}
use Rattle.hp_maps.proofs.chunks.unmap_chunk.Given as goal

abbrev pub invariant-loop-row : goal.invariant-loop-row
invariant-loop-row g l = record {
  held : without_rows (filter (is_of_chunk l.chunk) (drop l.row-index l.rows)) (g.M.Mapper.held l.mapper)
      ≡ without_rows (filter (is_of_chunk l.chunk) l.rows) (g.M.Mapper.held l.initial.mapper);
  capacity : g.M.Mapper.capacity l.mapper ≡ g.M.Mapper.capacity l.initial.mapper;
  answers : g.M.Mapper.answers l.mapper ≡ g.M.Mapper.answers l.initial.mapper;
  faults : g.M.Mapper.faults l.mapper ≡ g.M.Mapper.faults l.initial.mapper;
  may_fail : g.M.Mapper.may_fail l.mapper ≡ g.M.Mapper.may_fail l.initial.mapper;
}
