-- All lower indexes have names.
use Rattle.std.proofs.Common.{ℕ, ◌<◌}
use Rattle.hp_zone.specs.Directory.{IsUnnamed}
use Rattle.hp_external.proofs.creating.lowest_vacant.Given as goal

abbrev pub invariant-loop-index : goal.invariant-loop-index
invariant-loop-index l = (lower : ℕ) → lower < l.index → ¬ IsUnnamed l.names.heaps.plain lower
