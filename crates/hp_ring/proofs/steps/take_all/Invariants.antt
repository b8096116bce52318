-- What came so far is in the vector.
use Rattle.std.proofs.Common.{◌≤◌, ◌-◌, vec_capacity, vec_len}
use Rattle.crossbeam_queue.specs.Passes.{IsPassOf, ruled_capacity, view}
use Rattle.hp_ring.specs.Views.{HasTakenTo}
use Rattle.hp_ring.proofs.steps.take_all.Given as goal

abbrev pub invariant-loop-token : goal.invariant-loop-token
invariant-loop-token g l = record {
  of : IsPassOf l.queue l.token;
  taken : HasTakenTo (view l.initial.token) (view l.token) l.left.items;
  room : ruled_capacity l.queue ≤ vec_capacity l.left;
}

abbrev pub decreases-loop-token : goal.decreases-loop-token
decreases-loop-token g l = ruled_capacity l.queue - vec_len l.left
