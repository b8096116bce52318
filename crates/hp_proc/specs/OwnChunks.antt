-- The chunks that a participant has attached, as it notes them: by heap and by address.
use Rattle.std.specs.Prelude.{◌≡◌, ℕ, ◌<◌, Bool, not, ◌&&◌, ◌||◌, ◌==◌, nat_lt, true, List, [], ◌∷◌, ◌++◌, filter, map, Option, Some, None, Contains, ⊤}
use Rattle.std.specs.List.{AllByRecursion}
use Rattle.hp_base.specs.declared.chunk.Chunk.{Chunk}
use Rattle.hp_base.specs.declared.limits.TheConstants.{MAX_HEAPS}
use Rattle.hp_external.specs.Attaching.{IsOwnChunkAt}
use Rattle.hp_heap.specs.PlainHeap.{PlainHeap}
use Rattle.hp_proc.specs.declared.own_chunk.OwnChunk.{OwnChunk}

-- a chunk stands before another: in a heap of a lower index, or in the same at a lower address
abbrev pub is_before : OwnChunk → OwnChunk → Bool
is_before first second =
    nat_lt first.heap second.heap || ((first.heap == second.heap) && nat_lt first.addr second.addr)

-- chunks with one more at its place, and without one
abbrev pub with_own_chunk : OwnChunk → List OwnChunk → List OwnChunk
with_own_chunk chunk chunks =
    filter (λ other. is_before other chunk) chunks ++ (chunk ∷ filter (λ other. is_before chunk other) chunks)

abbrev pub without_own_chunk : OwnChunk → List OwnChunk → List OwnChunk
without_own_chunk chunk chunks = filter (λ other. is_before other chunk || is_before chunk other) chunks

-- the first of them
abbrev pub first_of : List OwnChunk → Option OwnChunk
first_of [] = None
first_of (chunk ∷ chunks) = Some chunk

-- those of a heap, and those of others
abbrev pub chunks_of : ℕ → List OwnChunk → List OwnChunk
chunks_of heap chunks = filter (λ chunk. chunk.heap == heap) chunks

abbrev pub chunks_beside : ℕ → List OwnChunk → List OwnChunk
chunks_beside heap chunks = filter (λ chunk. not (chunk.heap == heap)) chunks

-- each stands before those after it
abbrev pub AreRising : List OwnChunk → Type 0
AreRising [] = ⊤
AreRising (chunk ∷ chunks) = AllByRecursion (λ other. is_before chunk other ≡ true) chunks × AreRising chunks

-- they lie in heaps, and each stands before those after it
pub record AreOwnChunks (chunks : List OwnChunk) : Type 0 where
  pub few : AllByRecursion (λ chunk. chunk.heap < MAX_HEAPS) chunks
  pub rising : AreRising chunks

-- those of that heap stand first
abbrev pub AreFirstOf : ℕ → List OwnChunk → Type 0
AreFirstOf heap chunks = chunks ≡ chunks_of heap chunks ++ chunks_beside heap chunks

-- a chunk of the heap with that index, as its participant notes it
abbrev pub own_chunk : ℕ → Chunk → OwnChunk
own_chunk heap chunk = record { heap = heap; addr = chunk.addr; len = chunk.len }

-- what a participant notes of a heap are exactly the chunks there that have its mark, by address
abbrev pub AreMarkedAs : ℕ → List Chunk → List OwnChunk → Type 0
AreMarkedAs heap marked chunks = map (own_chunk heap) marked ≡ chunks_of heap chunks

-- the chunks of a heap that a participant notes are there, and have its mark
abbrev pub AreOwnIn : ℕ → PlainHeap → List OwnChunk → Type 0
AreOwnIn who heap chunks = (chunk : OwnChunk) → Contains (chunks_of heap.index chunks) chunk → IsOwnChunkAt who chunk.addr chunk.len heap
