use Rattle.std.proofs.Common.{◌≡◌, ℕ, ◌<◌, ◌≤◌, true}
use Rattle.hp_freelist.specs.Lists.{is_listed}
use Rattle.bench_freelist.proofs.work.churn.Given as goal

abbrev pub invariant-loop-step : goal.invariant-loop-step
invariant-loop-step l = record {
  room : 20000 ≤ l.lists.room;
  listed : (k : ℕ) → k < 20000 → is_listed k l.lists.lists ≡ true;
}
