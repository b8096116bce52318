-- What ties a heap for external memory to the directory, to the segment value and to the table of a participant: the rule "The tie" of
-- docs/HEAP.md.
use Rattle.std.specs.Prelude.{◌≡◌, ℕ, ◌+◌, ◌<◌, ◌≤◌, Bool, ◌&&◌, ◌==◌, List, [], filter, count_by, Contains, if◌then◌else◌}
use Rattle.std.specs.List.{AllByRecursion}
use Rattle.hp_base.specs.Flags.{has_bit}
use Rattle.hp_base.specs.declared.chunk.Chunk.{Chunk}
use Rattle.hp_base.specs.declared.row.Row.{Row}
use Rattle.hp_heap.specs.PlainHeap.{PlainHeap}
use Rattle.hp_maps.specs.Chunks.{is_of_chunk, rows_of_chunk}
use Rattle.hp_segs.specs.declared.external_range.ExternalRange.{ExternalRange}
use Rattle.hp_zone.specs.declared.heap_name.HeapRange.{HeapRange}

-- whether a range of the directory is that of the heap of an index, at an address, of a length and in pages of a size
abbrev pub is_range_of : ℕ → ℕ → ℕ → ℕ → HeapRange → Bool
is_range_of index addr len page range =
    (range.index == index) && ((range.addr == addr) && ((range.len == len) && (range.page == page)))

-- whether a chunk has an address, a length and pages of a size
abbrev pub is_memory : ℕ → ℕ → ℕ → Chunk → Bool
is_memory addr len page chunk = (chunk.addr == addr) && ((chunk.len == len) && (chunk.page == page))

-- the ranges of a directory at the index of a heap are exactly the heap's chunks: each address, length and page size is that of as many
-- ranges as chunks
abbrev pub AreListed : List HeapRange → PlainHeap → Type 0
AreListed ranges heap = (addr len page : ℕ)
    → count_by (is_range_of heap.index addr len page) ranges ≡ count_by (is_memory addr len page) heap.chunks

-- the external memory that the segment value has for a chunk: under the chunk's list, with the chunk's bytes, pages and socket
abbrev pub claim_of : Chunk → ExternalRange
claim_of chunk = record { list = chunk.list; addr = chunk.addr; len = chunk.len; page = chunk.page; socket = chunk.socket }

-- each chunk is claimed under its list
abbrev pub AreClaimed : List ExternalRange → List Chunk → Type 0
AreClaimed claims chunks = AllByRecursion (λ chunk. Contains claims (claim_of chunk)) chunks

-- a participant's mark is on a chunk exactly where its table has attached it: then the table has the chunk's rows, and else no row of its
-- list
abbrev pub IsMarked : ℕ → List Row → Chunk → Type 0
IsMarked participant rows chunk =
    filter (is_of_chunk chunk) rows ≡ (if has_bit chunk.attached participant then rows_of_chunk chunk else [])

abbrev pub AreMarked : ℕ → List Row → List Chunk → Type 0
AreMarked participant rows chunks = AllByRecursion (IsMarked participant rows) chunks

-- a row begins in memory that is claimed under its list
pub record IsClaimedRow (claims : List ExternalRange) (row : Row) : Type 0 where
  pub claim : ExternalRange
  pub there : Contains claims claim
  pub list_is : claim.list ≡ row.list
  pub from : claim.addr ≤ row.addr
  pub within : row.addr < claim.addr + claim.len

-- a row of a chunk, which has generation 0, begins in memory that is claimed under its list
abbrev pub IsOfClaim : List ExternalRange → Row → Type 0
IsOfClaim claims row = row.generation ≡ 0 → IsClaimedRow claims row

-- a heap for external memory is tied to the directory, to the external memory of the segment value, and to the table of a participant
pub record IsTiedHeap (directory : List HeapRange) (claims : List ExternalRange) (participant : ℕ) (rows : List Row) (heap : PlainHeap)
    : Type 0 where
  -- its chunks are exactly the directory's ranges at its index
  pub listed : AreListed directory heap
  -- each of them is claimed under its list
  pub claimed : AreClaimed claims heap.chunks
  -- the participant's marks are on exactly those that its table has attached
  pub marked : AreMarked participant rows heap.chunks
  -- beside the rows of the log the table has rows of claimed memory alone
  pub known : AllByRecursion (IsOfClaim claims) rows
