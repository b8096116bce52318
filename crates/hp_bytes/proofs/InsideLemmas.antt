-- Where the segments of a heap lie in a store, so do the data of its elements.
use Rattle.std.proofs.Common.{◌≡◌, ℕ, ◌+◌, ◌-◌, ◌<◌, ◌≤◌, ◌&&◌, Bool, true, false, List, Contains, length, count_by, Option, Some, None, refl, sym, ap, subst, ◌∙◌, arith, leb, ltb}
use Rattle.std.proofs.lemmas.Bool.{and_parts, and_from, leb-true, ltb-true, le-leb}
use Rattle.hp_base.specs.declared.span.Span.{Span}
use Rattle.hp_heap.specs.PlainHeap.{PlainHeap, Extent, size_of_state, segments_of}
use Rattle.hp_heap.specs.Tiling.{IsTiled, in_range, in_segment}
use Rattle.hp_heap.specs.Joining.{busy_at}
use Rattle.hp_heap.proofs.Members.{counted_some, some_counted}
use Rattle.hp_bytes.specs.StoreView.{StoreView}
use Rattle.hp_bytes.specs.Stores.{lies_in, byte_fault}
use Rattle.hp_bytes.specs.Zeroed.{LieIn}
use Rattle.hp_bytes.proofs.ElementLemmas.{HasData, busy_is, data_in}

module _ (store : StoreView) (heap : PlainHeap) (tiled : IsTiled heap) (inside : LieIn store heap) where
  -- a byte of an element is in a segment, and so in the store
  byte_inside : (byte : ℕ) (range : Span) → Contains heap.ranges range → in_range byte range ≡ true
      → (store.base ≤ byte) × (byte < store.base + length store.bytes)
  byte_inside byte range among is =
      let some = some_counted (in_range byte) heap.ranges range is among in
      let (segment, holds) = counted_some (in_segment byte) (segments_of heap) (omega (arith, some, tiled.tiling.once byte)) in
      let (from, to) = and_parts (leb segment.addr byte) (ltb byte (segment.addr + segment.len)) holds.0 in
      let bounds = inside segment holds.1 in
      (omega (arith, leb-true segment.addr byte from, bounds.0), omega (arith, ltb-true byte (segment.addr + segment.len) to, bounds.1))

  -- the data of a busy element lie in the store
  pub data_inside : (addr : ℕ) (range : Span) → busy_at addr heap ≡ Some range
      → (store.base ≤ addr) × (addr + size_of_state range.state ≤ store.base + length store.bytes)
  data_inside addr range is =
      let its = busy_is heap tiled addr range is in
      let some = its.data_is.some in
      let last : ℕ = addr + size_of_state range.state - 1 in
      let first_in = byte_inside addr range its.among (data_in heap tiled addr addr range its.data_is (omega arith) (omega (arith, some))) in
      let last_in = byte_inside (addr + size_of_state range.state - 1) range its.among
      (data_in heap tiled addr (addr + size_of_state range.state - 1) range its.data_is (omega (arith, some)) (omega (arith, some))) in
      (first_in.0, omega (arith, some, last_in.1))

  pub data_lies : (addr : ℕ) (range : Span) → busy_at addr heap ≡ Some range → lies_in addr (size_of_state range.state) store ≡ true
  data_lies addr range is =
      let both = data_inside addr range is in
      and_from (leb store.base addr) (leb (addr + size_of_state range.state) (store.base + length store.bytes))
      (le-leb store.base addr both.0) (le-leb (addr + size_of_state range.state) (store.base + length store.bytes) both.1)

  -- so they are not refused
  pub no_fault : (addr : ℕ) (range : Span) → busy_at addr heap ≡ Some range → byte_fault addr store heap ≡ None
  unfolding byte_fault
  no_fault addr range is = rw (is, data_lies addr range is) refl
