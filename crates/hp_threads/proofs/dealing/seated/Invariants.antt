use Rattle.std.proofs.Common.{◌≡◌, ◌+◌, ◌≤◌, ◌++◌, map, vec_len, vec_capacity}
use Rattle.hp_threads.specs.Workers.{WorkerView}
use Rattle.hp_threads.proofs.dealing.seated.Given as goal

abbrev pub invariant-loop-workers : goal.invariant-loop-workers
invariant-loop-workers g l = record {
  newcomers : map (λ (worker : WorkerView). worker.doer) l.workers.items ++ l.newcomers.items ≡ l.initial.newcomers.items;
  seats : map (λ (worker : WorkerView). worker.seat) l.workers.items ++ l.seats.items ≡ l.initial.seats.items;
  passes : map (λ (worker : WorkerView). worker.passes) l.workers.items ++ l.all_passes.items ≡ l.initial.all_passes.items;
  stats : map (λ (worker : WorkerView). worker.stats) l.workers.items ++ l.stats.items ≡ l.initial.stats.items;
  seats_long : vec_len l.seats ≡ vec_len l.newcomers;
  passes_long : vec_len l.all_passes ≡ vec_len l.newcomers;
  stats_long : vec_len l.stats ≡ vec_len l.newcomers;
  room : vec_len l.workers + vec_len l.newcomers ≤ vec_capacity l.workers;
}

abbrev pub decreases-loop-workers : goal.decreases-loop-workers
decreases-loop-workers g l = vec_len l.newcomers
