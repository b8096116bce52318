use Rattle.std.proofs.Common.{◌≡◌, ◌≤◌, vec_len, vec_capacity}
use Rattle.hp_threads.specs.Dealing.{all_passes_for}
use Rattle.hp_threads.proofs.dealing.boxes_for.Given as goal

abbrev pub invariant-loop-owner : goal.invariant-loop-owner
invariant-loop-owner l = record {
  passes : l.all_passes.items ≡ all_passes_for l.participants l.boxes.items;
  count : vec_len l.boxes ≡ l.owner;
  room : l.participants ≤ vec_capacity l.boxes;
}
