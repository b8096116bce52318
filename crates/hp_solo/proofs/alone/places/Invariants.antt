use Rattle.std.proofs.Common.{◌≡◌, ◌≤◌, replicate, vec_capacity}
use Rattle.hp_solo.specs.Solo.{nobody}
use Rattle.hp_solo.proofs.alone.places.Given as goal

abbrev pub invariant-loop-place : goal.invariant-loop-place
invariant-loop-place g l = (l.servers.items ≡ replicate l._place nobody) × (l.count ≤ vec_capacity l.servers)
