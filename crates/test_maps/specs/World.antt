-- What is known of the values that the calls are over.
use Rattle.std.specs.Prelude.{◌≡◌, ◌≢◌, ℕ, ◌<◌, Bool, not, ◌&&◌, nat_lt, nat_le, List}
use Rattle.hp_base.specs.Flags.{has_bit}
use Rattle.hp_base.specs.declared.chunk.Chunk.{Chunk}
use Rattle.hp_base.specs.declared.row.Row.{Row}
use Rattle.hp_heap.specs.Chunks.{is_chunk_at}
use Rattle.hp_heap.specs.History.{HeapView}
use Rattle.hp_heap.specs.PlainHeap.{PlainHeap}
use Rattle.hp_maps.specs.MapsView.{MapsView}
use Rattle.hp_segs.specs.SegsView.{SegsView}
use Rattle.hp_segs.specs.declared.external_range.ExternalRange.{ExternalRange}
use Rattle.hp_zone.specs.Directory.{DirectoryView}
use Rattle.hp_zone.specs.declared.heap_name.HeapRange.{HeapRange}
use Rattle.hp_external.specs.Naming.{IsThatHeap}
use Rattle.hp_external.specs.Tie.{IsTiedHeap}

-- the heap is tied to the directory, to the segment value and to both tables, which have room for 2,048 rows
pub record IsWorld (names : DirectoryView) (heap : HeapView) (segs : SegsView) (one other : MapsView) : Type 0 where
  pub first : IsTiedHeap names.plain.ranges segs.ranges 0 one.rows heap.plain
  pub second : IsTiedHeap names.plain.ranges segs.ranges 1 other.rows heap.plain
  pub first_room : one.capacity ≡ 2048
  pub second_room : other.capacity ≡ 2048

-- a call by that name may be made
pub record IsReady (names : DirectoryView) (heap : HeapView) (text : List ℕ) : Type 0 where
  pub room : 0 < heap.spare
  pub that : IsThatHeap names.plain text heap.plain

-- a participant's call keeps the tie to its table and to those of others, whatever is claimed, and the room of its table
pub record KeepsTies (participant : ℕ) (directory : List HeapRange) (heap heap' : PlainHeap) (maps maps' : MapsView) : Type 0 where
  pub own : (claims : List ExternalRange) → IsTiedHeap directory claims participant maps.rows heap
      → IsTiedHeap directory claims participant maps'.rows heap'
  pub others : (claims : List ExternalRange) (other : ℕ) (rows : List Row) → other ≢ participant
      → IsTiedHeap directory claims other rows heap → IsTiedHeap directory claims other rows heap'
  pub room : maps'.capacity ≡ maps.capacity

-- a chunk has an address and a length, and no mark of a participant
abbrev pub is_unmarked_at : ℕ → ℕ → ℕ → Chunk → Bool
is_unmarked_at participant addr len chunk = is_chunk_at addr len chunk && not (has_bit chunk.attached participant)

-- a row begins from an address on, and before another
abbrev pub is_in : ℕ → ℕ → Row → Bool
is_in addr end row = nat_le addr row.addr && nat_lt row.addr end
