-- What came so far is in the cache.
use Rattle.std.proofs.Common.{◌≡◌, ◌≤◌, ◌-◌, vec_capacity, vec_len}
use Rattle.crossbeam_queue.specs.Passes.{IsSamePass, ruled_capacity, view}
use Rattle.hp_mempool.specs.Views.{IsTotal, TakesIn}
use Rattle.hp_mempool.proofs.numbers.refill.Given as goal

abbrev pub invariant-loop-token : goal.invariant-loop-token
invariant-loop-token g l = record {
  same : IsSamePass l.initial.token l.token;
  total : IsTotal (ruled_capacity l.queue) (view l.token);
  takes : TakesIn (view l.initial.token) (view l.token) l.cache.items;
  few : vec_len l.cache ≤ l.most;
  capacity : vec_capacity l.cache ≡ vec_capacity l.initial.cache;
}

abbrev pub decreases-loop-token : goal.decreases-loop-token
decreases-loop-token g l = l.most - vec_len l.cache
