-- The rule of a pool, which holds between any two steps of any threads. `views` has the view of each pass of the queue.
use Rattle.std.specs.Prelude.{◌≡◌, ◌≢◌, ℕ, ◌+◌, ◌*◌, ◌-◌, ◌≤◌, ◌^◌, List, [], sum_by}
use Rattle.std.specs.List.{All}
use Rattle.hp_mempool.specs.declared.view.View.{View}
use Rattle.hp_mempool.specs.Views.{once_below, times}

-- what no pass sees alone: how many numbers the pool has, and how often parts were halved at most
pub record Hidden : Type 0 where
  pub total : ℕ
  pub depth : ℕ

-- what a pass knows is so: one with a part of the pool knows how many numbers there are, and one without a part has none
pub record IsKnown (x : Hidden) (v : View) : Type 0 where
  pub total : v.part ≢ 0 → v.total ≡ x.total
  pub spent : v.part ≡ 0 → v.has ≡ []
  pub deep : v.halvings ≤ x.depth

-- how often the passes have a number, in cache or out
abbrev pub held : ℕ → List View → ℕ
held number views = sum_by (λ v. times number v.has) views

-- a pass's part of the pool, in parts of 2^depth
abbrev pub part_of : ℕ → View → ℕ
part_of depth v = v.part * 2 ^ (depth - v.halvings)

-- The numbers in the queue and those that the passes have, in cache or out, are the numbers of the pool, each once; and the parts of all
-- passes are the whole pool.
pub record HaveEachOnce (numbers : List ℕ) (views : List View) : Type 0 where
  pub hidden : Hidden
  pub each_once : (number : ℕ) → times number numbers + held number views ≡ once_below hidden.total number
  pub known : All (IsKnown hidden) views
  pub whole : sum_by (part_of hidden.depth) views ≡ 2 ^ hidden.depth
