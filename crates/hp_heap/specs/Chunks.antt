-- Chunks, and the marks of the participants that have attached them: the rule "External memory" of docs/HEAP.md.
use Rattle.std.specs.Prelude.{◌≡◌, ◌≢◌, ℕ, ◌+◌, ◌-◌, ◌^◌, ◌<◌, ◌≤◌, Bool, true, not, IsSome, IsSomeAnd, count_by, ◌&&◌, ◌==◌, nat_lt, List, ◌∷◌, ◌++◌, map, Option, Some, None, if◌then◌else◌}
use Rattle.std.specs.List.{filter, find, AllByRecursion}
use Rattle.hp_base.specs.declared.span.Span.{Span}
use Rattle.hp_base.specs.declared.chunk.Chunk.{Chunk}
use Rattle.hp_heap.specs.PlainHeap.{PlainHeap, free_range, is_free, segments_of}
use Rattle.hp_heap.specs.LaidOut.{IsChunk}
use Rattle.hp_heap.specs.Tiling.{in_segment}
use Rattle.hp_base.specs.Flags.{has_bit}
use Rattle.hp_heap.specs.Joining.{below, above}

-- elements with one more at its address
abbrev pub with_range : Span → List Span → List Span
with_range range ranges = below range.addr ranges ++ (range ∷ above range.addr ranges)

-- chunks with one more at its address
abbrev pub with_chunk : Chunk → List Chunk → List Chunk
with_chunk chunk chunks =
    filter (λ other. nat_lt other.addr chunk.addr) chunks ++ (chunk ∷ filter (λ other. nat_lt chunk.addr other.addr) chunks)

-- the heap after a chunk came: it is one free element
unfoldable pub after_chunk : Chunk → PlainHeap → PlainHeap
after_chunk chunk heap = record heap {
  chunks = with_chunk chunk heap.chunks;
  ranges = with_range (free_range chunk.addr chunk.len chunk.list chunk.page (heap.insertions + 1)) heap.ranges;
  insertions = heap.insertions + 1;
}

-- whether a chunk has an address and a length
abbrev pub is_chunk_at : ℕ → ℕ → Chunk → Bool
is_chunk_at addr len chunk = (chunk.addr == addr) && (chunk.len == len)

-- the chunk with an address and a length, and the chunk of a segment list
unfoldable pub chunk_at : ℕ → ℕ → PlainHeap → Option Chunk
chunk_at addr len heap = find (is_chunk_at addr len) heap.chunks

unfoldable pub chunk_of : ℕ → PlainHeap → Option Chunk
chunk_of list heap = find (λ chunk. chunk.list == list) heap.chunks

abbrev pub without_chunk : Option Chunk → PlainHeap → PlainHeap
without_chunk None heap = heap
without_chunk (Some chunk) heap = record heap {
  chunks = filter (λ other. not (other.list == chunk.list)) heap.chunks;
  ranges = filter (λ range. not (range.list == chunk.list)) heap.ranges;
}

-- the heap after a chunk went, with its one element
unfoldable pub after_unchunk : ℕ → ℕ → PlainHeap → PlainHeap
after_unchunk addr len heap = without_chunk (chunk_at addr len heap) heap

-- marks with that of a participant, and without it
abbrev pub with_mark : ℕ → ℕ → ℕ
with_mark participant marks = if has_bit marks participant then marks else marks + 2 ^ participant

abbrev pub without_mark : ℕ → ℕ → ℕ
without_mark participant marks = if has_bit marks participant then marks - 2 ^ participant else marks

-- the heap with other marks on the chunk at an address
abbrev pub with_marks : (ℕ → ℕ) → ℕ → ℕ → PlainHeap → PlainHeap
with_marks marks addr len heap = record heap {
  chunks = map (λ chunk.
      if is_chunk_at addr len chunk then record chunk { attached = marks chunk.attached } else chunk) heap.chunks;
}

-- the heap after a participant attached a chunk, and after it left one
unfoldable pub after_share : ℕ → ℕ → ℕ → PlainHeap → PlainHeap
after_share participant addr len heap = with_marks (with_mark participant) addr len heap

unfoldable pub after_unshare : ℕ → ℕ → ℕ → PlainHeap → PlainHeap
after_unshare participant addr len heap = with_marks (without_mark participant) addr len heap

-- a chunk may come to a heap for external memory: without marks, with a list of its own, and no byte of it is in the heap
pub record CanAddChunk (chunk : Chunk) (heap : PlainHeap) : Type 0 where
  pub external : heap.serves ≡ None
  pub memory : IsChunk chunk
  pub unmarked : chunk.attached ≡ 0
  pub own_list : AllByRecursion (λ other. other.list ≢ chunk.list) heap.chunks
  pub fresh : (byte : ℕ) → chunk.addr ≤ byte → byte < chunk.addr + chunk.len
      → count_by (in_segment byte) (segments_of heap) ≡ 0

-- a heap for external memory has a chunk with an address and a length
pub record HasChunk (addr len : ℕ) (heap : PlainHeap) : Type 0 where
  pub external : heap.serves ≡ None
  pub found : IsSome (chunk_at addr len heap)

-- a chunk is without marks, and wholly free
pub record IsUnused (heap : PlainHeap) (chunk : Chunk) : Type 0 where
  pub unmarked : chunk.attached ≡ 0
  pub free : AllByRecursion (λ range. range.list ≡ chunk.list → is_free range ≡ true) heap.ranges

-- a chunk may go from a heap for external memory
pub record CanRemoveChunk (addr len : ℕ) (heap : PlainHeap) : Type 0 where
  pub external : heap.serves ≡ None
  pub unused : IsSomeAnd (chunk_at addr len heap) (IsUnused heap)
