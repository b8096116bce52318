-- Pairs of a count of entries and the statistics after them: the rule "Statistics without a lock" of docs/BOARD.md.
use Rattle.std.specs.Prelude.{◌≡◌, ℕ, ◌≤◌, ◌⊎◌, List, [], ◌∷◌, Contains}
use Rattle.hp_base.specs.declared.stats.Stats.{Stats}
use Rattle.hp_stats.specs.declared.stat_pair.StatPair.{StatPair}

abbrev pub pair : ℕ → Stats → StatPair
pair entries stats = record { entries = entries; stats = stats }

-- zeros with count 0, which stand before anything is published
abbrev pub no_pair : StatPair
no_pair = pair 0 (record { total = 0; free = 0; used = 0; greatest = 0; busy = 0; frees = 0 })

-- the last of some pairs, and another one where there is none
abbrev pub last_or : StatPair → List StatPair → StatPair
last_or other [] = other
last_or other (p ∷ pairs) = last_or p pairs

-- the newest of the pairs that were published, which are in their order
abbrev pub newest_of : List StatPair → StatPair
newest_of published = last_or no_pair published

-- a pair was published, or stands before anything is
abbrev pub IsOneOf : List StatPair → StatPair → Type 0
IsOneOf published p = (p ≡ no_pair) ⊎ Contains published p

-- each pair that was seen was published, or stands before anything is
abbrev pub AreAmong : List StatPair → List StatPair → Type 0
AreAmong published seen = (p : StatPair) → Contains seen p → IsOneOf published p

-- no pair has a greater count
abbrev pub IsNotBelow : List StatPair → ℕ → Type 0
IsNotBelow pairs count = (p : StatPair) → Contains pairs p → p.entries ≤ count
