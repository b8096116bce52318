-- A chunk that goes keeps the tiling.
use Rattle.std.proofs.Common.{◌≡◌, ℕ, ◌<◌, ◌⊎◌, Bool, true, false, not, ◌&&◌, List, [], ◌∷◌, ◌++◌, map, refl, sym, ap, ◌∙◌, inl, inr, arith, Option, Some, None, Contains, count_by, eqb}
use Rattle.std.proofs.lemmas.Bool.{and_parts, and_from, cond_both, eqb-true, eqb-false, eq-eqb, ne_eqb, not_from_true}
use Rattle.std.proofs.lemmas.List.Elements.{Contains-append_right}
use Rattle.std.specs.List.{AllByRecursion, filter, find}
use Rattle.hp_base.specs.declared.span.Span.{Span}
use Rattle.hp_base.specs.declared.chunk.Chunk.{Chunk}
use Rattle.hp_heap.specs.PlainHeap.{PlainHeap, Extent, end_of, segments_of, page_extent, chunk_extent}
use Rattle.hp_heap.specs.LaidOut.{IsChunk}
use Rattle.hp_heap.specs.Tiling.{IsTiled, IsElement, IsRisingFrom, IsApart, IsApartFrom, joins, in_range, in_segment, in_range_of, in_segment_of, has_stamp}
use Rattle.hp_heap.specs.Chunks.{is_chunk_at, chunk_at, without_chunk, after_unchunk}
use Rattle.hp_heap.proofs.RangeLemmas.{AllByRecursion-weaker, IsApartFrom-back}
use Rattle.hp_heap.proofs.AllocFacts.ChoiceLaw.{Contains-filter}
use Rattle.hp_heap.proofs.AllocFacts.PlaceLemmas.{filter-rising}
use Rattle.hp_heap.proofs.Members.{AllByRecursion-each, AllByRecursion-kept, count_map, count_filtered, count_fewer, count_all_kept, count_none_kept, count_alike, find_some, Contains-image}
use Rattle.hp_heap.proofs.LaidLemmas.{one_paged, element_segment, first_byte, element_of}
use Rattle.hp_heap.proofs.FreeFacts.FreeTiling.{joins_gap}
use Rattle.hp_heap.proofs.ChunkFacts.ChunkTiling.{kind_kept, no_pages}

-- elements that a filter keeps are apart as they were
kept_from : (keep : Span → Bool) (p : Span) (from : ℕ) (qs : List Span) → IsRisingFrom from qs → AllByRecursion (λ (q : Span). 0 < q.whole) qs → IsApart qs
    → (end_of p < from) ⊎ ((from ≡ end_of p) × IsApartFrom p qs) → IsApartFrom p (filter keep qs)
kept_from keep p from [] rising sizes apart before = tt
kept_from keep p from (q ∷ qs) rising sizes apart before =
    cond_both (keep q) (q ∷ filter keep qs) (filter keep qs) (λ zs. IsApartFrom p zs)
    (λ kept. (touch before, kept_from keep q (end_of q) qs rising.1 sizes.1 (IsApartFrom-back q [] qs apart) (inr (refl, apart))))
    (λ gone. kept_from keep p (end_of q) qs rising.1 sizes.1 (IsApartFrom-back q [] qs apart) (inl (far before)))
  where
    touch : (end_of p < from) ⊎ ((from ≡ end_of p) × IsApartFrom p (q ∷ qs)) → joins p q ≡ false
    touch (inl gap) = joins_gap p q (omega (arith, gap, rising.0))
    touch (inr next) = next.1.0

    far : (end_of p < from) ⊎ ((from ≡ end_of p) × IsApartFrom p (q ∷ qs)) → end_of p < end_of q
    far (inl gap) = omega (arith, gap, rising.0, sizes.0)
    far (inr next) = omega (arith, next.0, rising.0, sizes.0)

filter_apart : (keep : Span → Bool) (from : ℕ) (qs : List Span) → IsRisingFrom from qs → AllByRecursion (λ (q : Span). 0 < q.whole) qs → IsApart qs → IsApart (filter keep qs)
filter_apart keep from [] rising sizes apart = tt
filter_apart keep from (q ∷ qs) rising sizes apart =
    cond_both (keep q) (q ∷ filter keep qs) (filter keep qs) IsApart
    (λ kept. kept_from keep q (end_of q) qs rising.1 sizes.1 (IsApartFrom-back q [] qs apart) (inr (refl, apart)))
    (λ gone. filter_apart keep (end_of q) qs rising.1 sizes.1 (IsApartFrom-back q [] qs apart))

module _ (heap : PlainHeap) (chunk : Chunk) (tiled : IsTiled heap) (external : heap.serves ≡ None) (has : Contains heap.chunks chunk) where
  abbrev l : ℕ
  l = chunk.list

  none : heap.pages ≡ []
  none = no_pages heap.serves heap.pages heap.chunks external tiled.kind

  own_segment : Contains (segments_of heap) (chunk_extent chunk)
  own_segment = Contains-append_right (map page_extent heap.pages) (map chunk_extent heap.chunks) (chunk_extent chunk) (Contains-image chunk_extent heap.chunks chunk has)

  -- elements and chunks of its list have its page size
  element_page : (q : Span) → Contains heap.ranges q → q.list ≡ l → q.page ≡ chunk.page
  element_page q there same =
      let s = element_segment heap q q.addr tiled there (first_byte q (element_of heap q tiled there).size.least) in
      sym s.page ∙ one_paged heap (chunk_extent chunk) s.segment tiled.kind tiled.laid own_segment s.among (s.list ∙ same)

  chunk_page : (c : Chunk) → Contains heap.chunks c → c.list ≡ l → c.page ≡ chunk.page
  chunk_page c there same = one_paged heap (chunk_extent chunk) (chunk_extent c) tiled.kind tiled.laid own_segment
      (Contains-append_right (map page_extent heap.pages) (map chunk_extent heap.chunks) (chunk_extent c) (Contains-image chunk_extent heap.chunks c there)) same

  abbrev ranges_left : List Span
  ranges_left = filter (λ range. not (eqb range.list l)) heap.ranges

  abbrev chunks_left : List Chunk
  chunks_left = filter (λ other. not (eqb other.list l)) heap.chunks

  abbrev segments_left : List Extent
  segments_left = map page_extent heap.pages ++ map chunk_extent chunks_left

  -- segments counted as chunks
  of_chunks : (test : Extent → Bool) → count_by test (segments_of heap) ≡ count_by (λ c. test (chunk_extent c)) heap.chunks
  of_chunks test = omega (
    arith,
    ap (λ ps. count_by test (map page_extent ps ++ map chunk_extent heap.chunks)) none,
    count_map chunk_extent test heap.chunks,
  )

  of_left : (test : Extent → Bool) → count_by test segments_left ≡ count_by (λ c. test (chunk_extent c)) chunks_left
  of_left test = omega (
    arith,
    ap (λ ps. count_by test (map page_extent ps ++ map chunk_extent chunks_left)) none,
    count_map chunk_extent test chunks_left,
  )

  -- the bytes of its list, in elements and in chunks
  list_ranges : (byte : ℕ) → count_by (in_range byte) (filter (λ q. eqb q.list l) heap.ranges) ≡ count_by (in_range_of l chunk.page byte) heap.ranges
  list_ranges byte =
      count_alike (in_range byte) (in_range_of l chunk.page byte) (filter (λ q. eqb q.list l) heap.ranges) (AllByRecursion-each (λ q. in_range byte q ≡ in_range_of l chunk.page byte q) (filter (λ q. eqb q.list l) heap.ranges)
      (λ q kept. (let one = Contains-filter (λ (q : Span). eqb q.list l) heap.ranges q kept in with_it (in_range byte q) _ (and_from _ _ one.0 (eq-eqb q.page chunk.page (element_page q one.1 (eqb-true q.list l one.0)))))))
      ∙ count_all_kept (λ q. eqb q.list l) (in_range_of l chunk.page byte) heap.ranges (AllByRecursion-each (λ q. in_range_of l chunk.page byte q ≡ true → eqb q.list l ≡ true) heap.ranges
      (λ q there inside. (and_parts (eqb q.list l) (eqb q.page chunk.page) (and_parts (in_range byte q) (eqb q.list l && eqb q.page chunk.page) inside).1).0))
    where
      with_it : (a b : Bool) → b ≡ true → a ≡ (a && b)
      with_it true b holds = sym holds
      with_it false b holds = refl

  list_chunks : (byte : ℕ) → count_by (λ c. in_segment byte (chunk_extent c)) (filter (λ c. eqb c.list l) heap.chunks) ≡ count_by (λ c. in_segment_of l chunk.page byte (chunk_extent c)) heap.chunks
  list_chunks byte =
      count_alike (λ c. in_segment byte (chunk_extent c)) (λ c. in_segment_of l chunk.page byte (chunk_extent c)) (filter (λ c. eqb c.list l) heap.chunks)
      (AllByRecursion-each (λ c. in_segment byte (chunk_extent c) ≡ in_segment_of l chunk.page byte (chunk_extent c)) (filter (λ c. eqb c.list l) heap.chunks)
      (λ c kept. (let one = Contains-filter (λ (c : Chunk). eqb c.list l) heap.chunks c kept in with_it (in_segment byte (chunk_extent c)) _ (and_from _ _ one.0 (eq-eqb c.page chunk.page (chunk_page c one.1 (eqb-true c.list l one.0)))))))
      ∙ count_all_kept (λ c. eqb c.list l) (λ c. in_segment_of l chunk.page byte (chunk_extent c)) heap.chunks (AllByRecursion-each (λ c. in_segment_of l chunk.page byte (chunk_extent c) ≡ true → eqb c.list l ≡ true) heap.chunks
      (λ c there inside. (and_parts (eqb c.list l) (eqb c.page chunk.page) (and_parts (in_segment byte (chunk_extent c)) (eqb c.list l && eqb c.page chunk.page) inside).1).0))
    where
      with_it : (a b : Bool) → b ≡ true → a ≡ (a && b)
      with_it true b holds = sym holds
      with_it false b holds = refl

  once_left : (byte : ℕ) → count_by (in_range byte) ranges_left ≡ count_by (in_segment byte) segments_left
  once_left byte = omega (
    arith,
    count_filtered (λ q. eqb q.list l) (in_range byte) heap.ranges,
    list_ranges byte,
    tiled.tiling.one_list l chunk.page byte,
    of_chunks (in_segment_of l chunk.page byte),
    list_chunks byte,
    count_filtered (λ c. eqb c.list l) (λ c. in_segment byte (chunk_extent c)) heap.chunks,
    of_chunks (in_segment byte),
    of_left (in_segment byte),
    tiled.tiling.once byte,
  )

  one_list_left : (list page byte : ℕ) → count_by (in_range_of list page byte) ranges_left ≡ count_by (in_segment_of list page byte) segments_left
  one_list_left list page byte = by_list (eqb list l) refl
    where
      range_list : (q : Span) → in_range_of list page byte q ≡ true → q.list ≡ list
      range_list q inside = eqb-true q.list list (and_parts (eqb q.list list) (eqb q.page page) (and_parts (in_range byte q) (eqb q.list list && eqb q.page page) inside).1).0

      chunk_list : (c : Chunk) → in_segment_of list page byte (chunk_extent c) ≡ true → c.list ≡ list
      chunk_list c inside = eqb-true c.list list (and_parts (eqb c.list list) (eqb c.page page) (and_parts (in_segment byte (chunk_extent c)) (eqb c.list list && eqb c.page page) inside).1).0

      by_list : (b : Bool) → eqb list l ≡ b → count_by (in_range_of list page byte) ranges_left ≡ count_by (in_segment_of list page byte) segments_left
      by_list true same =
          let is : list ≡ l = eqb-true list l same in
          let no_range = count_none_kept (λ (q : Span). not (eqb q.list l)) (in_range_of list page byte) heap.ranges (AllByRecursion-each (λ q. in_range_of list page byte q ≡ true → not (eqb q.list l) ≡ false) heap.ranges
          (λ q there inside. not_from_true (eqb q.list l) (eq-eqb q.list l (range_list q inside ∙ is)))) in
          let no_chunk = count_none_kept (λ (c : Chunk). not (eqb c.list l)) (λ c. in_segment_of list page byte (chunk_extent c)) heap.chunks (AllByRecursion-each (λ c. in_segment_of list page byte (chunk_extent c) ≡ true → not (eqb c.list l) ≡ false) heap.chunks
          (λ c there inside. not_from_true (eqb c.list l) (eq-eqb c.list l (chunk_list c inside ∙ is)))) in
          omega (arith, no_range, no_chunk, of_left (in_segment_of list page byte))
      by_list false other =
          let all_ranges = count_all_kept (λ (q : Span). not (eqb q.list l)) (in_range_of list page byte) heap.ranges (AllByRecursion-each (λ q. in_range_of list page byte q ≡ true → not (eqb q.list l) ≡ true) heap.ranges
          (λ q there inside. rw (ne_eqb q.list l (λ is. eqb-false list l other (sym (range_list q inside) ∙ is))) refl)) in
          let all_chunks = count_all_kept (λ (c : Chunk). not (eqb c.list l)) (λ c. in_segment_of list page byte (chunk_extent c)) heap.chunks (AllByRecursion-each (λ c. in_segment_of list page byte (chunk_extent c) ≡ true → not (eqb c.list l) ≡ true) heap.chunks
          (λ c there inside. rw (ne_eqb c.list l (λ is. eqb-false list l other (sym (chunk_list c inside) ∙ is))) refl)) in
          omega (arith, all_ranges, all_chunks, of_left (in_segment_of list page byte), of_chunks (in_segment_of list page byte), tiled.tiling.one_list list page byte)

  -- a chunk that goes leaves the heap tiled
  pub gone_tiled : IsTiled (without_chunk (Some chunk) heap)
  gone_tiled = record {
    kind = kind_kept heap.serves heap.pages heap.chunks chunks_left external tiled.kind;
    laid = record {
      each_page = tiled.laid.each_page;
      alike = tiled.laid.alike;
      each_chunk = AllByRecursion-kept IsChunk (λ (c : Chunk). not (eqb c.list l)) heap.chunks tiled.laid.each_chunk;
      own_lists = λ list. omega (arith, count_fewer (λ (c : Chunk). not (eqb c.list l)) (λ c. eqb c.list list) heap.chunks, tiled.laid.own_lists list);
    };
    tiling = record {
      rising = filter-rising (λ (q : Span). not (eqb q.list l)) 0 heap.ranges tiled.tiling.rising;
      once = once_left;
      single = λ byte. omega (arith, count_fewer (λ (q : Span). not (eqb q.list l)) (in_range byte) heap.ranges, tiled.tiling.single byte);
      one_list = one_list_left;
      elements = AllByRecursion-kept (IsElement heap.insertions) (λ (q : Span). not (eqb q.list l)) heap.ranges tiled.tiling.elements;
      stamps = λ stamp. omega (arith, count_fewer (λ (q : Span). not (eqb q.list l)) (has_stamp stamp) heap.ranges, tiled.tiling.stamps stamp);
      apart = filter_apart (λ (q : Span). not (eqb q.list l)) 0 heap.ranges tiled.tiling.rising
          (AllByRecursion-weaker (IsElement heap.insertions) (λ (q : Span). 0 < q.whole) (λ q is. omega (arith, is.size.least)) heap.ranges tiled.tiling.elements) tiled.tiling.apart;
    };
  }

pub unchunk-tiled : (addr len : ℕ) (heap : PlainHeap) → IsTiled heap → heap.serves ≡ None → IsTiled (after_unchunk addr len heap)
unfolding after_unchunk chunk_at
unchunk-tiled addr len heap tiled external = by_search (find (is_chunk_at addr len) heap.chunks) refl
  where
    by_search : (o : Option Chunk) → find (is_chunk_at addr len) heap.chunks ≡ o → IsTiled (without_chunk o heap)
    by_search None is = tiled
    by_search (Some chunk) is = gone_tiled heap chunk tiled external (find_some (is_chunk_at addr len) heap.chunks chunk is).1
