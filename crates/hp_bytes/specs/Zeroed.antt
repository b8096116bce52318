-- What an allocation of zeroed data leaves: the rule "Zeroed data" of docs/BYTES.md.
use Rattle.std.specs.Prelude.{◌≡◌, ℕ, ◌+◌, ◌≤◌, length, Contains, IsSome}
use Rattle.hp_heap.specs.PlainHeap.{PlainHeap, Extent, segments_of}
use Rattle.hp_heap.specs.Joining.{busy_at}
use Rattle.hp_bytes.specs.StoreView.{StoreView}
use Rattle.hp_bytes.specs.Stores.{data_at}

-- the segments of a heap lie in a store
abbrev pub LieIn : StoreView → PlainHeap → Type 0
LieIn store heap = (segment : Extent) → Contains (segments_of heap) segment
    → (store.base ≤ segment.addr) × (segment.addr + segment.len ≤ store.base + length store.bytes)

-- the data of each element that was busy are as before
abbrev pub KeepsData : StoreView → StoreView → PlainHeap → PlainHeap → Type 0
KeepsData store store' heap heap' = (addr : ℕ) → IsSome (busy_at addr heap) → data_at addr store' heap' ≡ data_at addr store heap
