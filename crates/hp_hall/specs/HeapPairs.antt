-- Pairs of a count of a heap's entries and the statistics after so many: the rule "Statistics" of docs/HALLS.md.
use Rattle.std.specs.Prelude.{◌≡◌, ◌≤◌, List, ◌++◌, Contains, length, take}
use Rattle.hp_heap.specs.History.{HeapView, opening_of, replay}
use Rattle.hp_heap.specs.Statistics.{statistics_of}
use Rattle.hp_stats.specs.Pairs.{pair}
use Rattle.hp_stats.specs.StatViews.{PenView}
use Rattle.hp_stats.specs.declared.stat_pair.StatPair.{StatPair}

-- the count of all entries of a heap, and its statistics
abbrev pub pair_of : HeapView → StatPair
pair_of heap = pair (length heap.history) (statistics_of heap.plain)

-- a pair is one of a heap: it has the statistics after the first of the heap's entries, as many as it counts
pub record IsPairOf (heap : HeapView) (p : StatPair) : Type 0 where
  pub count : p.entries ≤ length heap.history
  pub stats : p.stats ≡ statistics_of (replay (opening_of heap.plain) (take p.entries heap.history))

-- all that a pen has published are pairs of a heap
abbrev pub ArePairsOf : HeapView → PenView → Type 0
ArePairsOf heap pen = (p : StatPair) → Contains pen.published p → IsPairOf heap p

-- the pen of a heap is still that of before, what it has published goes on from what it had, and all that are pairs of the heap
pub record KeepsPen (before : PenView) (heap : HeapView) (pen : PenView) : Type 0 where
  pub cell : pen.cell ≡ before.cell
  pub more : List StatPair
  pub published : pen.published ≡ before.published ++ more
  pub pairs : ArePairsOf heap pen

-- a pen after a pair was published: it is the same pen, and after what it had published comes nothing but that pair
pub record IsPenAfter (p : StatPair) (old new : PenView) : Type 0 where
  pub cell : new.cell ≡ old.cell
  pub more : List StatPair
  pub published : new.published ≡ old.published ++ more
  pub only : (other : StatPair) → Contains more other → other ≡ p
