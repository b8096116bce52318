-- Laws of what calls leave of the busy elements, of all heaps, which docs/HEAP.md states under "Tiling" and "Cutting an element".
use Rattle.std.specs.Prelude.{◌≡◌, ℕ, Bool, true, false, not, ◌==◌, Some, None}
use Rattle.std.specs.List.{filter}
use Rattle.hp_base.specs.declared.request.Request.{Request}
use Rattle.hp_base.specs.declared.tag.Tag.{Tag}
use Rattle.hp_heap.specs.declared.entry.HeapCall.{HeapCall}
use Rattle.hp_heap.specs.declared.entry.HeapCall.TheVariants as call
use Rattle.hp_heap.specs.PlainHeap.{PlainHeap, data_address}
use Rattle.hp_heap.specs.Tiling.{IsTiled}
use Rattle.hp_heap.specs.Placing.{after_alloc, allocated}
use Rattle.hp_heap.specs.Joining.{busy_ranges, zone_ranges, tag_at}
use Rattle.hp_heap.specs.Step.{after}
use Rattle.hp_heap.specs.Allowed.{IsAllowed}

-- whether a call is none of those that make elements busy or free, or give busy ones another size
abbrev pub names_none : HeapCall → Bool
names_none (call.Alloc request tag) = false
names_none (call.Find tag) = true
names_none (call.Free addr zone) = false
names_none (call.Resize addr size) = false
names_none (call.Grow run) = true
names_none (call.Cut addr) = true
names_none call.Stats = true
names_none (call.Name name socket) = true
names_none call.Unname = true
names_none (call.Chunk chunk) = true
names_none (call.Unchunk addr len) = true
names_none (call.Share addr len) = true
names_none (call.Unshare addr len) = true

-- a heap has the busy elements of another, in their order, and so its zones
pub record BusyKept (old new : PlainHeap) : Type 0 where
  pub busy : busy_ranges new ≡ busy_ranges old
  pub zones : zone_ranges new ≡ zone_ranges old

-- a call that is none of an allocation, a free and a resize leaves every busy element and every zone of a tiled heap ("Tiling")
abbrev pub LeavesBusy : Type 0
LeavesBusy = (participant : ℕ) (step : HeapCall) (heap : PlainHeap) → IsTiled heap → IsAllowed participant step heap → names_none step ≡ true
    → BusyKept heap (after participant step heap)

-- what an allocation from a tiled heap leaves as it was ("Cutting an element")
pub record AllocatesAlone (participant : ℕ) (request : Request) (tag : Tag) (heap : PlainHeap) : Type 0 where
  -- where it is given an address, the busy elements besides the one with its data there are those that were busy before
  pub busy : (address : ℕ) → allocated participant request heap ≡ Some address
      → filter (λ range. not (data_address range == address)) (busy_ranges (after_alloc participant request tag heap)) ≡ busy_ranges heap
  -- the one that was allocated has the tag
  pub tagged : (address : ℕ) → allocated participant request heap ≡ Some address
      → tag_at address (after_alloc participant request tag heap) ≡ Some tag
  -- where it is given no address, the heap
  pub refused : allocated participant request heap ≡ None → after_alloc participant request tag heap ≡ heap
