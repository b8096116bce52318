use Rattle.std.proofs.Common.{◌≡◌, Some, length}
use Rattle.std.specs.List.{All}
use Rattle.hp_base.specs.Mapping.{IsSteady, owned, refusals_at}
use Rattle.hp_base.specs.MemMapping.{MapperState}
use Rattle.hp_run.specs.Mappers.{IsUnused}
use Rattle.hp_run.proofs.mappers.mem_mappers.Given as goal

abbrev pub invariant-loop-participant : goal.invariant-loop-participant
invariant-loop-participant l = record {
  count : length l.mappers.items ≡ l._participant;
  unused : All (λ (mapper : MapperState). IsUnused (owned mapper.rows) mapper.answers mapper.capacity) l.mappers.items;
  steady : All (λ (mapper : MapperState). IsSteady (Some (refusals_at mapper.fails))) l.mappers.items;
}
