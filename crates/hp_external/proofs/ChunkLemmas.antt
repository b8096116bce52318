-- The chunk that is named, among the chunks of its heap.
use Rattle.std.proofs.Common.{◌≡◌, ◌≢◌, ℕ, ◌+◌, ◌<◌, ◌≤◌, Bool, true, false, ◌&&◌, cond, not, List, [], ◌∷◌, ◌++◌, map, filter, Option, Some, None, IsSome, Contains, count_by, refl, sym, ap, subst, ◌∙◌, arith, eqb, eq-eqb, ltb, leb}
use Rattle.std.specs.Option.{IsSomeAnd}
use Rattle.std.specs.List.{AllByRecursion, find, list_any}
use Rattle.std.proofs.lemmas.Bool.{and_from, and_parts, eqb-true, eqb-false, le-leb, lt-ltb}
use Rattle.std.proofs.lemmas.List.Elements.{Contains-append_right}
use Rattle.hp_base.specs.declared.chunk.Chunk.{Chunk}
use Rattle.hp_heap.specs.ChunkOrder.{AreInOrder}
use Rattle.hp_heap.specs.Chunks.{CanAddChunk, CanRemoveChunk, HasChunk, IsUnused, chunk_at, chunk_of, is_chunk_at, with_chunk}
use Rattle.hp_heap.specs.LaidOut.{IsChunk}
use Rattle.hp_heap.specs.PlainHeap.{Extent, PlainHeap, chunk_extent, page_extent, segments_of}
use Rattle.hp_heap.specs.Tiling.{IsTiled, in_range, in_segment}
use Rattle.hp_heap.proofs.AllocFacts.ChoiceLaw.{AllByRecursion-contains, Contains-filter}
use Rattle.hp_heap.proofs.ChunkFacts.ChunkListLemmas.{find_alike, same_tests}
use Rattle.hp_heap.proofs.ChunkFacts.ChunkTiling.{elsewhere}
use Rattle.hp_heap.proofs.HistoryFacts.Counting.{count_by-append, count_by-cons}
use Rattle.hp_heap.proofs.Members.{AllByRecursion-each, Contains-image, IsFound, count_filtered, counted_once, filter_alike, find_some}

module _ (heap : PlainHeap) (tiled : IsTiled heap) (chunk : Chunk) (has : Contains heap.chunks chunk) where
  pub its_memory : IsChunk chunk
  its_memory = AllByRecursion-contains IsChunk heap.chunks chunk tiled.laid.each_chunk has

  -- a chunk of its list is this one
  pub one_of_list : (other : Chunk) → Contains heap.chunks other → other.list ≡ chunk.list → other ≡ chunk
  one_of_list other among same =
      counted_once (λ (c : Chunk). eqb c.list chunk.list) heap.chunks other chunk (tiled.laid.own_lists chunk.list)
      (eq-eqb other.list chunk.list same, among) (eq-eqb chunk.list chunk.list refl, has)

  its_extent : (other : Chunk) → Contains heap.chunks other → Contains (segments_of heap) (chunk_extent other)
  its_extent other among =
      Contains-append_right (map page_extent heap.pages) (map chunk_extent heap.chunks) (chunk_extent other)
      (Contains-image chunk_extent heap.chunks other among)

  begins : (other : Chunk) → Contains heap.chunks other → other.addr ≡ chunk.addr → in_segment chunk.addr (chunk_extent other) ≡ true
  begins other among same =
      let memory = AllByRecursion-contains IsChunk heap.chunks other tiled.laid.each_chunk among in
      and_from _ _ (le-leb other.addr chunk.addr (omega (arith, same))) (lt-ltb chunk.addr (other.addr + other.len) (omega (arith, same, memory.some)))

  -- a chunk that begins where it does has its length and its pages
  pub one_of_address : (other : Chunk) → Contains heap.chunks other → other.addr ≡ chunk.addr → chunk_extent other ≡ chunk_extent chunk
  one_of_address other among same =
      counted_once (in_segment chunk.addr) (segments_of heap) (chunk_extent other) (chunk_extent chunk)
      (omega (arith, tiled.tiling.once chunk.addr, tiled.tiling.single chunk.addr))
      (begins other among same, its_extent other among) (begins chunk has refl, its_extent chunk has)

module _ (heap : PlainHeap) (addr len : ℕ) (chunk : Chunk) (there : chunk_at addr len heap ≡ Some chunk) where
  found : IsFound (is_chunk_at addr len) heap.chunks chunk
  unfolding chunk_at
  found = find_some (is_chunk_at addr len) heap.chunks chunk there

  pub among_chunks : Contains heap.chunks chunk
  among_chunks = found.1

  pub its_addr : chunk.addr ≡ addr
  its_addr = eqb-true chunk.addr addr (and_parts (eqb chunk.addr addr) (eqb chunk.len len) found.0).0

  pub its_len : chunk.len ≡ len
  its_len = eqb-true chunk.len len (and_parts (eqb chunk.addr addr) (eqb chunk.len len) found.0).1

  module _ (tiled : IsTiled heap) (order : AreInOrder heap.chunks) where
    -- the chunks with its address and length are those of its list
    pub at_is_of : AllByRecursion (λ (c : Chunk). is_chunk_at addr len c ≡ eqb c.list chunk.list) heap.chunks
    at_is_of =
        subst (λ (a : ℕ). AllByRecursion (λ (c : Chunk). is_chunk_at a len c ≡ eqb c.list chunk.list) heap.chunks) its_addr
        (subst (λ (l : ℕ). AllByRecursion (λ (c : Chunk). is_chunk_at chunk.addr l c ≡ eqb c.list chunk.list) heap.chunks) its_len
        (same_tests heap.chunks chunk order.rising tiled.laid.own_lists among_chunks))

    pub found_of : find (λ (c : Chunk). eqb c.list chunk.list) heap.chunks ≡ Some chunk
    unfolding chunk_at
    found_of = sym (find_alike (λ (c : Chunk). eqb c.list chunk.list) (is_chunk_at addr len) heap.chunks at_is_of) ∙ there

    -- it is the chunk of its list
    pub its_list : chunk_of chunk.list heap ≡ Some chunk
    unfolding chunk_of
    its_list = found_of

    -- what is asked of the chunk of its list is so where it is of this one
    pub of_its_list : (P : Chunk → Type 0) → P chunk → IsSomeAnd (chunk_of chunk.list heap) P
    of_its_list P holds = subst (λ (o : Option Chunk). IsSomeAnd o P) (sym its_list) holds

  -- it is there
  pub has_chunk : heap.serves ≡ None → HasChunk addr len heap
  has_chunk external = record { external = external; found = rw there refl }

-- a chunk comes: its heap's chunks, counted
module _ (heap : PlainHeap) (chunk : Chunk) (tiled : IsTiled heap) (can : CanAddChunk chunk heap) where
  opposite : (a b : ℕ) → (a ≡ b → ⊥) → ltb b a ≡ not (ltb a b)
  opposite a b differs = grind (arith, Rattle.std.proofs.lemmas.Bool.Decides.nat_tests)

  pub count_more : (test : Chunk → Bool) → count_by test (with_chunk chunk heap.chunks) ≡ count_by test heap.chunks + cond (test chunk) 1 0
  count_more test =
      let low : List Chunk = filter (λ other. ltb other.addr chunk.addr) heap.chunks in
      let high : List Chunk = filter (λ other. ltb chunk.addr other.addr) heap.chunks in
      let rest : high ≡ filter (λ other. not (ltb other.addr chunk.addr)) heap.chunks =
      filter_alike (λ other. ltb chunk.addr other.addr) (λ other. not (ltb other.addr chunk.addr)) heap.chunks
      (AllByRecursion-each (λ other. ltb chunk.addr other.addr ≡ not (ltb other.addr chunk.addr)) heap.chunks
      (λ other has. opposite other.addr chunk.addr (elsewhere heap chunk tiled can other has))) in
      omega (
        arith,
        count_by-append test low (chunk ∷ high),
        count_by-cons test chunk high,
        ap (λ cs. count_by test cs) rest,
        count_filtered (λ other. ltb other.addr chunk.addr) test heap.chunks,
      )
