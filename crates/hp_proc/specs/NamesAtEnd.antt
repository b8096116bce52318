-- How names agree with heaps, at the end of a run and where a line is handed both: the rules "Memzones", "The directory of heaps" and "The
-- tie" of docs/HEAP.md.
use Rattle.std.specs.Prelude.{◌≡◌, ℕ, ◌+◌, ◌<◌, ◌==◌, List, [], ◌∷◌, filter, length, map, Option, Some, Contains, slice_get}
use Rattle.std.specs.List.{All, flat_map, range_with_len}
use Rattle.std.specs.List.Sorted.{IsPermutation}
use Rattle.std.specs.Option.{option_and_then, option_map, option_map_or}
use Rattle.hp_base.specs.declared.chunk.Chunk.{Chunk}
use Rattle.hp_base.specs.declared.limits.TheConstants.{MAX_HEAPS}
use Rattle.hp_base.specs.declared.pool_line.PoolLine.{PoolLine}
use Rattle.hp_external.specs.Tie.{AreClaimed, AreListed, claim_of}
use Rattle.hp_hall.specs.Named.{IsAllocated}
use Rattle.hp_heap.specs.History.{HeapView, replay}
use Rattle.hp_heap.specs.Joining.{zone_ranges}
use Rattle.hp_heap.specs.PlainHeap.{PlainHeap, data_address, opening_heap}
use Rattle.hp_heap.specs.declared.entry.Entry.{Entry}
use Rattle.hp_script.specs.declared.workload.Workload.{Workload}
use Rattle.hp_segs.specs.declared.external_range.ExternalRange.{ExternalRange}
use Rattle.hp_zone.specs.Directory.{heap_at}
use Rattle.hp_zone.specs.declared.heap_name.HeapName.{HeapName}
use Rattle.hp_zone.specs.declared.zone.Zone.{Zone}
use Rattle.hp_zone.specs.declared.zone.ZoneChange.TheVariants.{Put}
use Rattle.hp_proc.specs.Awaits.{calls_within}
use Rattle.hp_proc.specs.Courses.{OwnCall, calls_in}
use Rattle.hp_proc.specs.Doing.{Done}
use Rattle.hp_proc.specs.Doing.Done.{HeapSeen, NamesRead}
use Rattle.hp_proc.specs.Heaps.{sockets_of}
use Rattle.hp_proc.specs.Histories.{entry_for}
use Rattle.hp_proc.specs.LinesDone.{Course, courses_of}
use Rattle.hp_proc.specs.SharedNames.{SharedNames, directory_in, zones_in}

-- how a heap is called: its name and its socket number, where it has a name
abbrev pub called : PlainHeap → Option HeapName
called heap = option_map (λ name. record { name = name; socket = heap.socket }) heap.name

-- the directory is exactly the heaps' names and chunks: what it says of each index is how the heap there is called, and the ranges at each
-- index are that heap's chunks, each of which is claimed under its list
pub record IsDirectoryOf (workload : Workload) (names : SharedNames) (claims : List ExternalRange) (heaps : List HeapView) : Type 0 where
  pub names_are : (index : ℕ) → index < MAX_HEAPS → heap_at (directory_in workload.pools.items names) index
      ≡ option_and_then (λ heap. called heap.plain) (slice_get heaps index)
  pub chunks_are : All (λ heap. AreListed (directory_in workload.pools.items names).ranges heap.plain) heaps
  pub no_other : All (λ range. range.index < MAX_HEAPS) (directory_in workload.pools.items names).ranges
  pub claimed : All (λ heap. AreClaimed claims heap.plain.chunks) heaps

-- the chunks of the heap with that index
abbrev pub chunks_at : List HeapView → ℕ → List Chunk
chunks_at heaps index = option_map_or (λ heap. heap.plain.chunks) (slice_get heaps index) []

-- the external memory that is claimed is that of the heaps' chunks, in some order
abbrev pub AreClaimsOf : List HeapView → List ExternalRange → Type 0
AreClaimsOf heaps claims = IsPermutation (flat_map (λ index. map claim_of (chunks_at heaps index)) (range_with_len 0 MAX_HEAPS)) claims

-- the heap of an index, as its history leaves it
abbrev pub heap_by : List PoolLine → ℕ → List Entry → PlainHeap
heap_by pools index history = replay (opening_heap index (slice_get (sockets_of pools) index)) history

-- the directory says so of a heap with this index and this history: how it is called, and which chunks it has
pub record SaysOf (pools : List PoolLine) (names : SharedNames) (index : ℕ) (history : List Entry) : Type 0 where
  pub called : heap_at (directory_in pools names) index ≡ called (heap_by pools index history)
  pub listed : AreListed (directory_in pools names).ranges (heap_by pools index history)

-- a line that is handed the names and then a heap has both in one hold, so that they agree
abbrev pub AreHandedTogether : List PoolLine → Course → Type 0
AreHandedTogether pools course = (names : SharedNames) (index : ℕ) (history : List Entry) (rest : List Done)
    → course.trace ≡ NamesRead names ∷ (HeapSeen index history ∷ rest) → SaysOf pools names index history

-- and the one call that it makes then, of that heap, stands directly after the state that it was handed
abbrev pub StandsNext : List HeapView → List Course → Type 0
StandsNext heaps courses = (who place : ℕ) (course : Course) (names : SharedNames) (index : ℕ) (history : List Entry) (rest : List Done)
    (own : OwnCall) (heap : HeapView) → slice_get (courses_of who courses) place ≡ Some course
    → course.trace ≡ NamesRead names ∷ (HeapSeen index history ∷ rest) → calls_in rest ≡ own ∷ [] → own.heap ≡ index
    → slice_get heaps index ≡ Some heap
    → slice_get heap.history (length history) ≡ Some (entry_for who (calls_within who place courses + 1) own)

-- a memzone was reserved: an allocation was answered its address, by an entry of its heap's history
pub record IsReserved (heaps : List HeapView) (zone : Zone) : Type 0 where
  pub heap : HeapView
  pub there : slice_get heaps zone.heap ≡ Some heap
  pub allocated : IsAllocated zone.addr heap.history

-- the memzones of the heap with that index lie at the data addresses of its busy elements of memzones, in some order
abbrev pub AreElementsOf : SharedNames → ℕ → PlainHeap → Type 0
AreElementsOf names index heap = IsPermutation (map (λ zone. zone.addr) (filter (λ zone. zone.heap == index) (zones_in names)))
    (map data_address (zone_ranges heap))

-- the memzones are exactly the busy elements of memzones, heap by heap; each is one of a heap; and each memzone of the log was reserved
pub record AreZonesOf (names : SharedNames) (heaps : List HeapView) : Type 0 where
  pub elements : (index : ℕ) (heap : HeapView) → slice_get heaps index ≡ Some heap → AreElementsOf names index heap.plain
  pub few : All (λ zone. zone.heap < MAX_HEAPS) (zones_in names)
  pub reserved : (zone : Zone) → Contains names.zones (Put zone) → IsReserved heaps zone
