use Rattle.std.proofs.Common.{◌≡◌, ◌+◌, ◌*◌, ◌^◌, ◌≤◌, drop}
use Rattle.hp_run.specs.Summary.{free_bytes}
use Rattle.hp_run.proofs.summary.free_bytes.Given as goal

-- what is summed up, and what is left
abbrev pub invariant-loop-heap : goal.invariant-loop-heap
invariant-loop-heap l = record {
  few : l.free ≤ l.heap-index * 2 ^ 64;
  on : l.free + free_bytes (drop l.heap-index l.heaps) ≡ free_bytes l.heaps;
}
