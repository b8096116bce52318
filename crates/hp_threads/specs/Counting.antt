-- That what all have read of statistics was published, as the pens show once all have come home: the rule "Threads" of docs/RUNS.md.
use Rattle.std.specs.Prelude.{◌≡◌, ℕ, ◌≤◌, List, Some, length, slice_get}
use Rattle.atomic_table.specs.Seated.{TableId}
use Rattle.hp_base.specs.declared.limits.TheConstants.{MAX_HEAPS}
use Rattle.hp_stats.specs.Pairs.{AreAmong}
use Rattle.hp_stats.specs.StatViews as stats
use Rattle.hp_stats.specs.StatViews.{IsPenOf, PenView, seen_of}

-- the pens of heaps, each at its heap's index
pub record ArePensOf (cells : List TableId) (pens : List PenView) : Type 0 where
  pub few : length pens ≤ MAX_HEAPS
  pub each : (heap : ℕ) (pen : PenView) → slice_get pens heap ≡ Some pen → IsPenOf cells heap pen

-- each pair that a pass has read or published of a heap was published by the heap's pen, or is the one with count 0
abbrev pub WerePublished : List PenView → stats.PassView → Type 0
WerePublished pens pass = (heap : ℕ) (pen : PenView) → slice_get pens heap ≡ Some pen → AreAmong pen.published (seen_of heap pass)
