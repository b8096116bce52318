-- Marks on chunks keep the tiling.
use Rattle.std.proofs.Common.{◌≡◌, ℕ, cond, List, [], ◌∷◌, ◌++◌, map, refl, sym, ap, subst, ◌∙◌, arith, None, count_by, eqb}
use Rattle.std.proofs.lemmas.Bool.{cond_both}
use Rattle.std.specs.List.{AllByRecursion}
use Rattle.hp_base.specs.declared.chunk.Chunk.{Chunk}
use Rattle.hp_heap.specs.PlainHeap.{PlainHeap, Extent, page_extent, chunk_extent}
use Rattle.hp_heap.specs.LaidOut.{IsChunk}
use Rattle.hp_heap.specs.Tiling.{IsTiling, IsTiled}
use Rattle.hp_heap.specs.Chunks.{is_chunk_at, with_marks}
use Rattle.hp_heap.proofs.Members.{AllByRecursion-each, count_map, count_alike}
use Rattle.hp_heap.proofs.ChunkFacts.ChunkTiling.{kind_kept}

-- other marks on chunks leave their segments
module _ (marks : ℕ → ℕ) (addr len : ℕ) where
  abbrev marked : Chunk → Chunk
  marked chunk = cond (is_chunk_at addr len chunk) (record chunk { attached = marks chunk.attached }) chunk

  same_extent : (chunk : Chunk) → chunk_extent (marked chunk) ≡ chunk_extent chunk
  same_extent chunk = cond_both (is_chunk_at addr len chunk) (record chunk { attached = marks chunk.attached }) chunk (λ (c : Chunk). chunk_extent c ≡ chunk_extent chunk) (λ here. refl) (λ other. refl)

  same_extents : (chunks : List Chunk) → map chunk_extent (map marked chunks) ≡ map chunk_extent chunks
  same_extents [] = refl
  same_extents (chunk ∷ chunks) = rw (same_extent chunk, same_extents chunks) refl

  marked_chunks : (chunks : List Chunk) → AllByRecursion IsChunk chunks → AllByRecursion IsChunk (map marked chunks)
  marked_chunks [] all = tt
  marked_chunks (chunk ∷ chunks) all =
      (cond_both (is_chunk_at addr len chunk) (record chunk { attached = marks chunk.attached }) chunk IsChunk (λ here. all.0) (λ other. all.0), marked_chunks chunks all.1)

  marked_lists : (list : ℕ) (chunks : List Chunk) → count_by (λ (c : Chunk). eqb c.list list) (map marked chunks) ≡ count_by (λ (c : Chunk). eqb c.list list) chunks
  marked_lists list chunks = count_map marked (λ (c : Chunk). eqb c.list list) chunks
      ∙ count_alike (λ c. eqb (marked c).list list) (λ (c : Chunk). eqb c.list list) chunks (AllByRecursion-each (λ c. eqb (marked c).list list ≡ eqb c.list list) chunks
      (λ c has. ap (λ (e : Extent). eqb e.list list) (same_extent c)))

  pub marks-tiled : (heap : PlainHeap) → IsTiled heap → heap.serves ≡ None → IsTiled (with_marks marks addr len heap)
  marks-tiled heap tiled external = record {
    kind = kind_kept heap.serves heap.pages heap.chunks (map marked heap.chunks) external tiled.kind;
    laid = record {
      each_page = tiled.laid.each_page;
      alike = tiled.laid.alike;
      each_chunk = marked_chunks heap.chunks tiled.laid.each_chunk;
      own_lists = λ list. omega (arith, marked_lists list heap.chunks, tiled.laid.own_lists list);
    };
    tiling = subst (λ es. IsTiling (map page_extent heap.pages ++ es) heap.insertions heap.ranges) (sym (same_extents heap.chunks)) tiled.tiling;
  }
