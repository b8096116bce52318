-- The sums that are kept beside the elements of a heap, for its statistics. No public clause cites this module.
use Rattle.std.specs.Prelude.{◌≡◌, ℕ, count_by}
use Rattle.std.specs.List.{filter}
use Rattle.hp_elem.specs.Items.{Items}
use Rattle.hp_elem.specs.View.{ElemsView}
use Rattle.hp_freelist.specs.Lists.{FreeLists}
use Rattle.hp_heap.specs.declared.totals.Totals.{Totals}
use Rattle.hp_heap.specs.PlainHeap.{is_free}
use Rattle.hp_heap.specs.Statistics.{total_bytes}
use Rattle.hp_heap.specs.Headers.{spans_of}
use Rattle.hp_heap.specs.Tie.{AreTied}

-- the bytes of elements, those of the free ones, and how many are free
abbrev pub bytes : Items → ℕ
bytes items = total_bytes (spans_of items)

abbrev pub free_bytes : Items → ℕ
free_bytes items = total_bytes (filter is_free (spans_of items))

abbrev pub free_count : Items → ℕ
free_count items = count_by is_free (spans_of items)

-- what is kept are these sums
pub record AreTotals (items : Items) (totals : Totals) : Type 0 where
  pub total : totals.total ≡ bytes items
  pub free : totals.free ≡ free_bytes items
  pub frees : totals.frees ≡ free_count items

-- free lists and sums are those of the elements
pub record AreKept (elems : ElemsView) (lists : FreeLists) (totals : Totals) : Type 0 where
  pub tied : AreTied elems lists
  pub sums : AreTotals elems.items totals
