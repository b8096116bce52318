use Rattle.std.proofs.Common.{◌≡◌, ◌+◌, ◌≤◌, ◌++◌, map, vec_len, vec_capacity}
use Rattle.hp_run.proofs.kit.mappers_of.Given as goal

abbrev pub invariant-loop-kits : goal.invariant-loop-kits
invariant-loop-kits g l = record {
  given : l.mappers.items ++ map (λ kit. kit.mapper) l.kits.items ≡ map (λ kit. kit.mapper) l.initial.kits.items;
  long : vec_len l.mappers + vec_len l.kits ≡ vec_len l.initial.kits;
  room : vec_len l.initial.kits ≤ vec_capacity l.mappers;
}

abbrev pub decreases-loop-kits : goal.decreases-loop-kits
decreases-loop-kits g l = vec_len l.kits
