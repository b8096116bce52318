use Rattle.std.proofs.Common.{◌≡◌, Some, length}
use Rattle.std.specs.List.{All}
use Rattle.hp_base.specs.Mapping.{IsSteady, owned, refusals_at}
use Rattle.hp_run.specs.Mappers.{IsUnused}
use Rattle.hp_run.proofs.mappers.mem_kits.Given as goal

abbrev pub invariant-loop-participant : goal.invariant-loop-participant
invariant-loop-participant g l = record {
  count : length l.kits.items ≡ l._participant;
  unused : All (λ kit. IsUnused (owned kit.mapper.rows) kit.mapper.answers kit.mapper.capacity) l.kits.items;
  steady : All (λ kit. IsSteady (Some (refusals_at kit.mapper.fails))) l.kits.items;
}
