-- Numbers that rise from one to another: one list of them after another, and what is left of them.
use Rattle.std.proofs.Common.{ℕ, zero, suc, ◌≤◌, List, [], ◌∷◌, ◌++◌, arith}
use Rattle.std.specs.List.{All}
use Rattle.std.specs.List.Sorted.{IsNonDecreasing}
use Rattle.std.proofs.lemmas.List.Elements.{All-cons, All-head, All-nil, All-tail}
use Rattle.hp_segs.proofs.InsertLemmas.{rising_cons}
use Rattle.hp_proc.specs.Seen.{AreSeen}

-- numbers that rise from one to another
abbrev pub Rises : ℕ → ℕ → List ℕ → Type 0
Rises floor most [] = floor ≤ most
Rises floor most (n ∷ ns) = (floor ≤ n) × Rises n most ns

pub above_floor : (floor most : ℕ) (ns : List ℕ) → Rises floor most ns → All (λ n. floor ≤ n) ns
above_floor floor most [] rises = All-nil (λ n. floor ≤ n)
above_floor floor most (n ∷ ns) rises =
    All-cons (λ n. floor ≤ n) n ns rises.0
    (λ k d within. let more = above_floor n most ns rises.1 k d within in omega (arith, rises.0, more))

-- the first is no more than the last
pub rises_within : (floor most : ℕ) (ns : List ℕ) → Rises floor most ns → floor ≤ most
rises_within floor most [] rises = rises
rises_within floor most (n ∷ ns) rises = let more = rises_within n most ns rises.1 in omega (arith, rises.0, more)

all_below : (floor most : ℕ) (ns : List ℕ) → Rises floor most ns → All (λ n. n ≤ most) ns
all_below floor most [] rises = All-nil (λ n. n ≤ most)
all_below floor most (n ∷ ns) rises = All-cons (λ n. n ≤ most) n ns (rises_within n most ns rises.1) (all_below n most ns rises.1)

all_rising : (floor most : ℕ) (ns : List ℕ) → Rises floor most ns → IsNonDecreasing ns
all_rising floor most [] rises = λ i j d le within. absurd (omega (arith, within))
all_rising floor most (n ∷ ns) rises =
    rising_cons (λ (n : ℕ). n) n ns (above_floor n most ns rises.1) (all_rising n most ns rises.1)

-- numbers that rise so are seen
pub seen_rising : (most : ℕ) (ns : List ℕ) → Rises 0 most ns → AreSeen most ns
seen_rising most ns rises = record { rising = all_rising 0 most ns rises; most = all_below 0 most ns rises }

-- and those that are seen rise so
rising_from : (floor most : ℕ) (ns : List ℕ) → floor ≤ most → All (λ n. floor ≤ n) ns → IsNonDecreasing ns → All (λ n. n ≤ most) ns
    → Rises floor most ns
rising_from floor most [] within above rising below = within
rising_from floor most (n ∷ ns) within above rising below = (
  All-head (λ other. floor ≤ other) n ns above,
  rising_from n most ns (All-head (λ other. other ≤ most) n ns below)
      (λ k d inside. rising zero (suc k) d (omega arith) (omega (arith, inside)))
      (λ i j d le inside. rising (suc i) (suc j) d (omega (arith, le)) (omega (arith, inside)))
      (All-tail (λ other. other ≤ most) n ns below),
)

pub rises_seen : (most : ℕ) (ns : List ℕ) → AreSeen most ns → Rises 0 most ns
rises_seen most ns seen = rising_from 0 most ns (omega arith) (λ k d within. omega arith) seen.rising seen.most

-- numbers that rise after others
pub rises_append : (floor mid most : ℕ) (ns more : List ℕ) → Rises floor mid ns → Rises mid most more → Rises floor most (ns ++ more)
rises_append floor mid most [] [] rises on = omega (arith, rises, on)
rises_append floor mid most [] (n ∷ more) rises on = (omega (arith, rises, on.0), on.1)
rises_append floor mid most (n ∷ ns) more rises on = (rises.0, rises_append n mid most ns more rises.1 on)

-- from a lower one
pub rises_lower : (lower floor most : ℕ) (ns : List ℕ) → lower ≤ floor → Rises floor most ns → Rises lower most ns
rises_lower lower floor most [] le rises = omega (arith, le, rises)
rises_lower lower floor most (n ∷ ns) le rises = (omega (arith, le, rises.0), rises.1)

-- what stands after others rises too, and what rises wherever that does may stand in its place
pub rises_behind : (floor most : ℕ) (ns more : List ℕ) → Rises floor most (ns ++ more) → Rises floor most more
rises_behind floor most [] more rises = rises
rises_behind floor most (n ∷ ns) more rises = rises_lower floor n most more rises.0 (rises_behind n most ns more rises.1)

pub rises_instead : (floor most : ℕ) (ns more other : List ℕ) → ((from : ℕ) → Rises from most more → Rises from most other)
    → Rises floor most (ns ++ more) → Rises floor most (ns ++ other)
rises_instead floor most [] more other instead rises = instead floor rises
rises_instead floor most (n ∷ ns) more other instead rises = (rises.0, rises_instead n most ns more other instead rises.1)
