-- The workers of an exercise.
use Rattle.std.specs.Prelude.{◌≡◌, ℕ, ◌+◌, ◌<◌, ◌≤◌, List, [], length, slice_index_or}
use Rattle.hp_mempool.specs.declared.sharing.Job.{Job}
use Rattle.hp_mempool.specs.PassView.{IsOf, PassView, PoolView}
use Rattle.hp_mempool.specs.Views.{once_below, times}

-- all that a pass has is in its cache, each number once
pub record HasAllCached (pass : PassView) : Type 0 where
  pub once : (number : ℕ) → times number pass.has ≤ once_below pass.total number
  pub cached : (number : ℕ) → times number pass.has ≡ times number pass.cached

-- a pass of the pool that has no object
pub record IsFresh (pool : PoolView) (pass : PassView) : Type 0 where
  pub of : IsOf pass pool
  pub cached : pass.cached ≡ []
  pub has : pass.has ≡ []

-- The pass of a worker, by number: the first got half of the pool, the next half of what was left, and so on. It has no object.
abbrev pub worker_pass : PoolView → ℕ → ℕ → PassView
worker_pass pool places worker = record {
  pool = pool.id;
  total = pool.count;
  places = places;
  cached = [];
  has = [];
  part = 1;
  halvings = worker + 1;
}

-- what is left to the first pass when so many workers have one
abbrev pub left_pass : PoolView → ℕ → ℕ → PassView
left_pass pool places workers = record (worker_pass pool places workers) { halvings = workers }

-- they are the passes of the workers, by number
abbrev pub AreWorkers : PoolView → ℕ → List PassView → Type 0
AreWorkers pool places passes = (worker : ℕ) (d : PassView) → worker < length passes → slice_index_or passes worker d ≡ worker_pass pool places worker

-- they are the jobs of the workers, by number
abbrev pub AreJobs : PoolView → ℕ → List Job → Type 0
AreJobs pool places jobs = (worker : ℕ) (d : Job) → worker < length jobs → (slice_index_or jobs worker d).pass ≡ worker_pass pool places worker
