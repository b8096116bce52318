-- The rounds change the cache and what the pass has, and leave all in the cache.
use Rattle.std.proofs.Common.{◌≡◌}
use Rattle.hp_mempool.specs.Working.{HasAllCached}
use Rattle.hp_mempool.proofs.rounds.work.Given as goal

abbrev pub invariant-loop-round : goal.invariant-loop-round
invariant-loop-round g l = record {
  cached : HasAllCached l.pass;
  same : l.pass ≡ record l.initial.pass { cached = l.pass.cached; has = l.pass.has };
}
