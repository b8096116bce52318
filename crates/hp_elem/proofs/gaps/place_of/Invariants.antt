use Rattle.std.proofs.Common.{◌≡◌, ℕ, ◌-◌, ◌<◌, ◌≤◌, ◌++◌, List, length}
use Rattle.std.specs.List.{AllByRecursion}
use Rattle.hp_elem.proofs.gaps.place_of.Given as goal

abbrev pub invariant-loop-low : goal.invariant-loop-low
invariant-loop-low l = (l.low ≤ l.high) × (l.high ≤ length l.gaps)
    × ((low high : List ℕ) → l.gaps ≡ low ++ high → AllByRecursion (λ start. start < l.addr) low → AllByRecursion (λ start. l.addr ≤ start) high
    → (l.low ≤ length low) × (length low ≤ l.high))

abbrev pub decreases-loop-low : goal.decreases-loop-low
decreases-loop-low l = l.high - l.low
