-- The senders that went are in the view of the token.
use Rattle.std.proofs.Common.{◌≡◌, length}
use Rattle.std.specs.List.{Contains}
use Rattle.crossbeam_queue.specs.Passes.{IsPassOf, IsSamePass, view}
use Rattle.hp_ring.specs.PassViews.{SendView}
use Rattle.hp_ring.proofs.PassLemmas.{HasGathered}
use Rattle.hp_ring.proofs.dealing.gather.Given as goal

abbrev pub invariant-loop-pass : goal.invariant-loop-pass
invariant-loop-pass l = record {
  of : IsPassOf l.queue l.token;
  same : IsSamePass l.initial.token l.token;
  taken : ((view l.token).takes ≡ (view l.initial.token).takes) × ((view l.token).taken ≡ (view l.initial.token).taken);
  rest : (pass : SendView) → Contains l.senders.items pass → pass.ring ≡ l.queue.table.shared.table_id;
  gathered : HasGathered l.initial.senders.items l.senders.items (view l.token);
}

abbrev pub decreases-loop-pass : goal.decreases-loop-pass
decreases-loop-pass l = length l.senders.items
