-- What the first pass has, and the passes that are left, are the whole pool.
use Rattle.std.proofs.Common.{length}
use Rattle.hp_mempool.specs.Working.{AreWorkers}
use Rattle.hp_mempool.proofs.RoundLemmas.{HasGathered}
use Rattle.hp_mempool.proofs.sharing.gathered.Given as goal

abbrev pub invariant-loop-other : goal.invariant-loop-other
invariant-loop-other l = record {
  gathered : HasGathered l.pool l.first (length l.back.items);
  back : AreWorkers l.pool l.initial.first.places l.back.items;
}

abbrev pub decreases-loop-other : goal.decreases-loop-other
decreases-loop-other l = length l.back.items
