-- The first busy element of a chunk has the lowest address of data.
use Rattle.std.proofs.Common.{◌≡◌, ℕ, ◌+◌, ◌^◌, ◌<◌, ◌≤◌, Bool, true, false, ◌&&◌, cond, List, [], ◌∷◌, Option, Some, None, refl, sym, ap, subst, ◌∙◌, arith, eqb}
use Rattle.std.specs.List.{AllByRecursion, find}
use Rattle.std.specs.Option.{IfNone, IfSome, option_map}
use Rattle.hp_base.specs.declared.span.Span.{Span}
use Rattle.hp_base.specs.declared.span.SpanState.{SpanState}
use Rattle.hp_base.specs.declared.span.SpanState.TheVariants.{Free, Busy}
use Rattle.hp_heap.specs.FreeSearch.{HasSpace}
use Rattle.hp_heap.specs.PlainHeap.{PlainHeap, data_address, end_of, pad_of_state, segments_of}
use Rattle.hp_heap.specs.Tiling.{HasRoomFor, IsElement, IsRisingFrom, IsTiled}
use Rattle.hp_heap.proofs.LaidLemmas.{tiled_limits}
use Rattle.hp_heap.proofs.Limits.{tiled_spaces}
use Rattle.hp_heap.proofs.Members.{find_none, find_some}
use Rattle.hp_heap.proofs.RangeLemmas.{AllByRecursion-weaker, rising_behind}
use Rattle.hp_external.specs.Elements.{IsLowestData, NonePasses}
use Rattle.hp_external.specs.Looking.{HasDataBelow}

-- the data of an element begin in it
data_state : (addr whole : ℕ) (state : SpanState) → HasRoomFor whole state → 192 ≤ whole → addr + pad_of_state state + 128 ≤ addr + whole
data_state addr whole (Free stamp) room least = omega (arith, least)
data_state addr whole (Busy pad size tag) room least = omega (arith, room.room)

data_within : (insertions : ℕ) (range : Span) → IsElement insertions range → data_address range ≤ end_of range
data_within insertions range is = data_state range.addr range.whole range.state is.busy is.size.least

data_behind : (range : Span) → range.addr ≤ data_address range
data_behind range = omega arith

-- so they are within the addresses
below_by : (insertions : ℕ) (ranges : List Span) → AllByRecursion (IsElement insertions) ranges → AllByRecursion HasSpace ranges
    → AllByRecursion HasDataBelow ranges
below_by insertions [] elements spaces = tt
below_by insertions (range ∷ ranges) elements spaces = (
  omega (arith, data_within insertions range elements.0, spaces.0.end),
  below_by insertions ranges elements.1 spaces.1,
)

pub data_below : (heap : PlainHeap) → IsTiled heap → AllByRecursion HasDataBelow heap.ranges
data_below heap tiled =
    below_by heap.insertions heap.ranges tiled.tiling.elements
    (tiled_spaces (segments_of heap) heap.insertions heap.ranges tiled.tiling (tiled_limits heap tiled))

module _ (test : Span → Bool) (insertions : ℕ) where
  abbrev IsLow : Span → Span → Type 0
  IsLow found other = test other ≡ true → data_address found ≤ data_address other

  lowest_by : (from : ℕ) (ranges : List Span) (found : Span) → IsRisingFrom from ranges → AllByRecursion (IsElement insertions) ranges
      → find test ranges ≡ Some found → AllByRecursion (IsLow found) ranges
  lowest_by from [] found rising elements is = tt
  lowest_by from (range ∷ ranges) found rising elements is = by_test (test range) refl is (λ rest. lowest_by (end_of range) ranges found rising.1 elements.1 rest)
    where
      by_test : (b : Bool) → test range ≡ b → cond b (Some range) (find test ranges) ≡ Some found
          → (find test ranges ≡ Some found → AllByRecursion (IsLow found) ranges) → AllByRecursion (IsLow found) (range ∷ ranges)
      by_test true passes here rest =
          let same : range ≡ found = cc in
          let its_data : data_address range ≡ data_address found = ap data_address same in (
            λ _. omega (arith, its_data),
            AllByRecursion-weaker (λ (other : Span). end_of range ≤ other.addr) (IsLow found)
                (λ other behind _. omega (arith, its_data, behind, data_within insertions range elements.0, data_behind other))
                ranges (rising_behind (end_of range) ranges rising.1),
          )
      by_test false fails here rest = (λ passes. (let wrong : true ≡ false = sym passes ∙ fails in cc), rest here)

-- the first that passes has the lowest data
pub lowest_data : (test : Span → Bool) (heap : PlainHeap) (found : Span) → IsTiled heap → find test heap.ranges ≡ Some found
    → IsLowestData test heap.ranges (data_address found)
lowest_data test heap found tiled is =
    let there = find_some test heap.ranges found is in
    record {
      range = found;
      there = there.1;
      passes = there.0;
      data_is = refl;
      lowest = lowest_by test heap.insertions 0 heap.ranges found tiled.tiling.rising tiled.tiling.elements is;
    }

pub no_data : (test : Span → Bool) (heap : PlainHeap) → find test heap.ranges ≡ None → NonePasses test heap.ranges
no_data test heap is = find_none test heap.ranges is

-- the same, of the address that a search gives
pub lowest_data_by : (test : Span → Bool) (heap : PlainHeap) (result : Option ℕ) → IsTiled heap → result ≡ option_map data_address (find test heap.ranges)
    → IfSome result (IsLowestData test heap.ranges)
lowest_data_by test heap result tiled is = subst (λ o. IfSome o (IsLowestData test heap.ranges)) (sym is) (by_found (find test heap.ranges) refl)
  where
    by_found : (o : Option Span) → find test heap.ranges ≡ o → IfSome (option_map data_address o) (IsLowestData test heap.ranges)
    by_found None found = tt
    by_found (Some range) found = lowest_data test heap range tiled found

pub none_by : (test : Span → Bool) (heap : PlainHeap) (result : Option ℕ) → result ≡ option_map data_address (find test heap.ranges)
    → IfNone result (NonePasses test heap.ranges)
none_by test heap result is = subst (λ o. IfNone o (NonePasses test heap.ranges)) (sym is) (by_found (find test heap.ranges) refl)
  where
    by_found : (o : Option Span) → find test heap.ranges ≡ o → IfNone (option_map data_address o) (NonePasses test heap.ranges)
    by_found None found = no_data test heap found
    by_found (Some range) found = tt
