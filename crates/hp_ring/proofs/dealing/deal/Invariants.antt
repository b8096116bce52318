-- So many senders have a pass.
use Rattle.std.proofs.Common.{◌≡◌, ◌≤◌, map, vec_len, vec_capacity}
use Rattle.std.specs.List.{range_with_len}
use Rattle.crossbeam_queue.specs.Passes.{IsPassOf, IsSamePass, view}
use Rattle.hp_ring.specs.PassViews.{new_sender}
use Rattle.hp_ring.specs.Views.{IsLeft}
use Rattle.hp_ring.proofs.dealing.deal.Given as goal

abbrev pub invariant-loop-who : goal.invariant-loop-who
invariant-loop-who l = record {
  of : IsPassOf l.queue l.token;
  same : IsSamePass l.initial.token l.token;
  left : IsLeft l.who (view l.token);
  passes : l.passes.items ≡ map (new_sender l.queue.table.shared.table_id) (range_with_len 0 l.who);
  count : vec_len l.passes ≡ l.who;
  room : l.senders ≤ vec_capacity l.passes;
}
