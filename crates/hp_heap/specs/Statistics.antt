-- The statistics of a heap: the rule "Statistics" of docs/HEAP.md.
use Rattle.std.specs.Prelude.{ℕ, ◌-◌, max, not, List, count_by}
use Rattle.std.specs.List.{filter, sum_by, fold}
use Rattle.hp_base.specs.declared.span.Span.{Span}
use Rattle.hp_base.specs.declared.stats.Stats.{Stats}
use Rattle.hp_heap.specs.PlainHeap.{PlainHeap, is_free}

-- the bytes of elements, headers counted
abbrev pub total_bytes : List Span → ℕ
total_bytes ranges = sum_by (λ range. range.whole) ranges

-- the greatest whole size of elements, 0 where there is none
abbrev pub greatest_whole : List Span → ℕ
greatest_whole ranges = fold (λ most range. max most range.whole) 0 ranges

-- the statistics of elements: bytes in all, free, used and of the greatest free one, and the numbers of busy and of free ones
abbrev pub statistics_of_ranges : List Span → Stats
statistics_of_ranges ranges =
    let free = filter is_free ranges in
    record {
      total = total_bytes ranges;
      free = total_bytes free;
      used = total_bytes ranges - total_bytes free;
      greatest = greatest_whole free;
      busy = count_by (λ range. not (is_free range)) ranges;
      frees = count_by is_free ranges;
    }

-- the statistics of a heap
unfoldable pub statistics_of : PlainHeap → Stats
statistics_of heap = statistics_of_ranges heap.ranges
