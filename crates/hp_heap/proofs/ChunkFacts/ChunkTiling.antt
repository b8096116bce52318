-- A chunk that comes keeps the tiling.
use Rattle.std.proofs.Common.{◌≡◌, ◌≢◌, ℕ, ◌+◌, ◌%◌, ◌<◌, ◌≤◌, ◌⊎◌, Bool, true, false, cond, not, List, [], ◌∷◌, ◌++◌, map, refl, sym, ap, subst, ◌∙◌, inl, inr, arith, Option, Some, None, Contains, count_by, eqb, ltb, leb}
use Rattle.std.proofs.Math.Nat.{mul-mod_left}
use Rattle.std.proofs.lemmas.Bool.{and_parts, and_from, and_left, and_right, cases_lt, eqb-true, ne_eqb, le-leb, leb-true, lt-ltb, le-ltb, ltb-true}
use Rattle.std.proofs.lemmas.Bool.Decides.{nat_tests}
use Rattle.std.proofs.lemmas.List.Elements.{Contains-append_right}
use Rattle.std.specs.List.{AllByRecursion, filter}
use Rattle.hp_base.proofs.Rounding.{aligned_apart}
use Rattle.hp_base.proofs.Powers.{power_of, line_is_power, multiple_of_power}
use Rattle.hp_base.specs.declared.span.Span.{Span}
use Rattle.hp_base.specs.declared.chunk.Chunk.{Chunk}
use Rattle.hp_heap.specs.PlainHeap.{PlainHeap, HeapPage, Extent, free_range, segments_of, page_extent, chunk_extent, HasKind}
use Rattle.hp_heap.specs.LaidOut.{IsChunk, IsLaidOut}
use Rattle.hp_heap.specs.Tiling.{IsTiling, IsTiled, IsElement, IsRisingFrom, IsApart, IsApartFrom, joins, in_range, in_segment, in_range_of, in_segment_of, has_stamp}
use Rattle.hp_heap.specs.Chunks.{with_range, with_chunk, after_chunk, CanAddChunk}
use Rattle.hp_heap.proofs.RangeLemmas.{AllByRecursion-append, AllByRecursion-back, AllByRecursion-weaker, last_end, rising-back, IsApartFrom-back}
use Rattle.hp_heap.proofs.HistoryFacts.Counting.{IsOfList, count_by-append, count_by-cons}
use Rattle.hp_heap.proofs.AllocFacts.ChoiceLaw.{Contains-none, AllByRecursion-contains}
use Rattle.hp_heap.proofs.CutFacts.Stretches.{below-parts, above-parts}
use Rattle.hp_heap.proofs.CutFacts.GapTiling.{IsPartedAt, parted_at}
use Rattle.hp_heap.proofs.GrowLaw.{ends_before, begins_behind, behind_run, multiple_through}
use Rattle.hp_heap.proofs.Members.{AllByRecursion-each, AllByRecursion-kept, some_counted, count_map, count_filtered, filter_alike, Contains-image}
use Rattle.hp_heap.proofs.LaidLemmas.{segment_cases, element_segment, first_byte, element_of}
use Rattle.hp_heap.proofs.CutFacts.WindowTiling.{window_tiling}

-- a heap for external memory has no pages, whatever its chunks
pub kind_kept : (serves : Option ℕ) (pages : List HeapPage) (chunks others : List Chunk) → serves ≡ None → HasKind serves pages chunks → HasKind serves pages others
kind_kept None pages chunks others external none = none
kind_kept (Some socket) pages chunks others external none = absurd (some_none external)
  where
    some_none : Some socket ≡ None → ⊥
    some_none is = cc

pub no_pages : (serves : Option ℕ) (pages : List HeapPage) (chunks : List Chunk) → serves ≡ None → HasKind serves pages chunks → pages ≡ []
no_pages None pages chunks external none = none
no_pages (Some socket) pages chunks external none = absurd (some_none external)
  where
    some_none : Some socket ≡ None → ⊥
    some_none is = cc

-- elements of two lists do not join
pub joins_lists : (p x : Span) → (p.list ≡ x.list → ⊥) → joins p x ≡ false
joins_lists p x other = and_right _ _ (and_left _ _ (ne_eqb p.list x.list other))

apart_insert_from : (p : Span) (xs : List Span) (x : Span) (ys : List Span) → (p.list ≡ x.list → ⊥) → AllByRecursion (λ q. q.list ≡ x.list → ⊥) xs → AllByRecursion (λ q. q.list ≡ x.list → ⊥) ys
    → IsApartFrom p (xs ++ ys) → IsApartFrom p (xs ++ (x ∷ ys))
apart_insert_from p [] x [] other first last apart = (joins_lists p x other, tt)
apart_insert_from p [] x (y ∷ ys) other first last apart = (joins_lists p x other, (joins_lists x y (λ same. last.0 (sym same)), apart.1))
apart_insert_from p (z ∷ zs) x ys other first last apart = (apart.0, apart_insert_from z zs x ys first.0 first.1 last apart.1)

-- an element of a list of its own is apart from all others
apart_insert : (xs : List Span) (x : Span) (ys : List Span) → AllByRecursion (λ q. q.list ≡ x.list → ⊥) xs → AllByRecursion (λ q. q.list ≡ x.list → ⊥) ys → IsApart (xs ++ ys) → IsApart (xs ++ (x ∷ ys))
apart_insert [] x [] first last apart = tt
apart_insert [] x (y ∷ ys) first last apart = (joins_lists x y (λ same. last.0 (sym same)), apart)
apart_insert (z ∷ zs) x ys first last apart = apart_insert_from z zs x ys first.0 first.1 last apart

module _ (heap : PlainHeap) (chunk : Chunk) (tiled : IsTiled heap) (can : CanAddChunk chunk heap) where
  abbrev x : Span
  x = free_range chunk.addr chunk.len chunk.list chunk.page (heap.insertions + 1)

  page_lines : chunk.page % 64 ≡ 0
  page_lines =
      let (m, is) = multiple_of_power 64 chunk.page (power_of 64 line_is_power) (power_of chunk.page can.memory.power) (omega (arith, can.memory.least)) in
      ap (λ (n : ℕ). n % 64) is ∙ mul-mod_left m 64

  pub least_len : 192 ≤ chunk.len
  least_len = by_order (cases_lt chunk.len chunk.page)
    where
      by_order : (chunk.len < chunk.page) ⊎ (chunk.page ≤ chunk.len) → 192 ≤ chunk.len
      by_order (inl less) = absurd (omega (
        arith,
        can.memory.some,
        aligned_apart chunk.len 0 chunk.page (omega (arith, can.memory.least)) can.memory.whole (Rattle.std.proofs.Math.Nat.zero-mod chunk.page) (omega (arith, less)),
      ))
      by_order (inr more) = omega (arith, more, can.memory.least)

  -- no chunk begins there
  pub elsewhere : (other : Chunk) → Contains heap.chunks other → other.addr ≡ chunk.addr → ⊥
  elsewhere other has same =
      let memory = AllByRecursion-contains IsChunk heap.chunks other tiled.laid.each_chunk has in
      let inside : in_segment chunk.addr (chunk_extent other) ≡ true = and_from _ _ (le-leb other.addr chunk.addr (omega (arith, same))) (lt-ltb chunk.addr (other.addr + other.len) (omega (arith, same, memory.some))) in
      let some = some_counted (in_segment chunk.addr) (segments_of heap) (chunk_extent other) inside
      (Contains-append_right (map page_extent heap.pages) (map chunk_extent heap.chunks) (chunk_extent other) (Contains-image chunk_extent heap.chunks other has)) in
      absurd (omega (arith, some, can.fresh chunk.addr (omega arith) (omega (arith, least_len))))

  -- the chunks with it, counted
  count_chunks : (test : Chunk → Bool) → count_by test (with_chunk chunk heap.chunks) ≡ count_by test heap.chunks + cond (test chunk) 1 0
  count_chunks test =
      let low : List Chunk = filter (λ other. ltb other.addr chunk.addr) heap.chunks in
      let high : List Chunk = filter (λ other. ltb chunk.addr other.addr) heap.chunks in
      let rest : high ≡ filter (λ other. not (ltb other.addr chunk.addr)) heap.chunks =
      filter_alike (λ other. ltb chunk.addr other.addr) (λ other. not (ltb other.addr chunk.addr)) heap.chunks
      (AllByRecursion-each (λ other. ltb chunk.addr other.addr ≡ not (ltb other.addr chunk.addr)) heap.chunks (λ other has. opposite other.addr chunk.addr (elsewhere other has))) in
      omega (
        arith,
        count_by-append test low (chunk ∷ high),
        count_by-cons test chunk high,
        ap (λ cs. count_by test cs) rest,
        count_filtered (λ other. ltb other.addr chunk.addr) test heap.chunks,
      )
    where
      opposite : (a b : ℕ) → (a ≡ b → ⊥) → ltb b a ≡ not (ltb a b)
      opposite a b differ = elim (cases_lt a b) [
        | inl less ↦ rw (lt-ltb a b less, le-ltb b a (omega (arith, less))) refl
        | inr more ↦ elim (cases_lt b a) [
          | inl above ↦ rw (lt-ltb b a above, le-ltb a b (omega (arith, above))) refl
          | inr level ↦ absurd (differ (omega (arith, more, level)))
        ]
      ]

  abbrev more : List Extent
  more = map page_extent heap.pages ++ map chunk_extent (with_chunk chunk heap.chunks)

  gained : (test : Extent → Bool) → count_by test more ≡ count_by test (segments_of heap) + cond (test (chunk_extent chunk)) 1 0
  gained test = omega (
    arith,
    count_by-append test (map page_extent heap.pages) (map chunk_extent (with_chunk chunk heap.chunks)),
    count_by-append test (map page_extent heap.pages) (map chunk_extent heap.chunks),
    count_map chunk_extent test (with_chunk chunk heap.chunks),
    count_map chunk_extent test heap.chunks,
    count_chunks (λ c. test (chunk_extent c)),
  )

  -- no element is of its list
  other_lists : (q : Span) → Contains heap.ranges q → q.list ≡ chunk.list → ⊥
  other_lists q has same =
      let s = element_segment heap q q.addr tiled has (first_byte q (element_of heap q tiled has).size.least) in
      elim (segment_cases heap s.segment s.among) [
        | inl p ↦ Contains-none p.page (subst (λ ps. Contains ps p.page) (no_pages heap.serves heap.pages heap.chunks can.external tiled.kind) p.among)
        | inr c ↦ AllByRecursion-contains (λ (other : Chunk). other.list ≢ chunk.list) heap.chunks c.chunk can.own_list c.among (ap (λ (e : Extent). e.list) c.is ∙ s.list ∙ same)
      ]

  single_more : (byte : ℕ) → count_by (in_segment byte) more ≤ 1
  single_more byte = by_test (in_segment byte (chunk_extent chunk)) refl
    where
      by_test : (b : Bool) → in_segment byte (chunk_extent chunk) ≡ b → count_by (in_segment byte) more ≤ 1
      by_test true inside =
          let tests = and_parts (leb chunk.addr byte) (ltb byte (chunk.addr + chunk.len)) inside in
          let weight : cond {A = ℕ} (in_segment byte (chunk_extent chunk)) 1 0 ≡ 1 = rw inside refl in
          omega (arith, gained (in_segment byte), can.fresh byte (leb-true chunk.addr byte tests.0) (ltb-true byte (chunk.addr + chunk.len) tests.1), weight)
      by_test false outside =
          let weight : cond {A = ℕ} (in_segment byte (chunk_extent chunk)) 1 0 ≡ 0 = rw outside refl in
          omega (arith, gained (in_segment byte), weight, tiled.tiling.once byte, tiled.tiling.single byte)

  laid_more : IsLaidOut heap.pages (with_chunk chunk heap.chunks)
  laid_more = record {
    each_page = tiled.laid.each_page;
    alike = tiled.laid.alike;
    each_chunk = AllByRecursion-append IsChunk (filter (λ other. ltb other.addr chunk.addr) heap.chunks) (chunk ∷ filter (λ other. ltb chunk.addr other.addr) heap.chunks)
        (AllByRecursion-kept IsChunk (λ (other : Chunk). ltb other.addr chunk.addr) heap.chunks tiled.laid.each_chunk)
        (can.memory, AllByRecursion-kept IsChunk (λ (other : Chunk). ltb chunk.addr other.addr) heap.chunks tiled.laid.each_chunk);
    own_lists = λ list. by_list list (eqb chunk.list list) refl;
  }
    where
      by_list : (list : ℕ) (b : Bool) → eqb chunk.list list ≡ b → count_by (λ (c : Chunk). eqb c.list list) (with_chunk chunk heap.chunks) ≤ 1
      by_list list true same =
          let weight : cond {A = ℕ} (eqb chunk.list list) 1 0 ≡ 1 = rw same refl in
          let none = Rattle.hp_heap.proofs.HistoryFacts.Counting.count_none (λ (c : Chunk). eqb c.list list) heap.chunks
          (AllByRecursion-weaker (λ (c : Chunk). c.list ≢ chunk.list) (λ c. eqb c.list list ≡ false) (λ c other. ne_eqb c.list list (λ is. other (is ∙ sym (eqb-true chunk.list list same)))) heap.chunks can.own_list) in
          omega (arith, count_chunks (λ (c : Chunk). eqb c.list list), weight, none)
      by_list list false other =
          let weight : cond {A = ℕ} (eqb chunk.list list) 1 0 ≡ 0 = rw other refl in
          omega (arith, count_chunks (λ (c : Chunk). eqb c.list list), weight, tiled.laid.own_lists list)

  -- it lies between the elements
  module _ (xs ys : List Span) (part : IsPartedAt heap.ranges chunk.addr xs ys) where
    tiling_part : IsTiling (segments_of heap) heap.insertions (xs ++ ys)
    tiling_part = subst (λ zs. IsTiling (segments_of heap) heap.insertions zs) part.ranges tiled.tiling

    empty : (byte : ℕ) → chunk.addr ≤ byte → byte < chunk.addr + chunk.len → count_by (in_range byte) xs + count_by (in_range byte) ys ≡ 0
    empty byte from to = omega (arith, tiling_part.once byte, can.fresh byte from to, count_by-append (in_range byte) xs ys)

    pub low : last_end 0 xs ≤ chunk.addr
    low = ends_before chunk.addr 0 xs (omega arith) part.below (omega (arith, empty chunk.addr (omega arith) (omega (arith, least_len))))

    pub high : IsRisingFrom (chunk.addr + chunk.len) ys
    high =
        let sizes = AllByRecursion-weaker (IsElement heap.insertions) (λ (y : Span). 192 ≤ y.whole) (λ y is. is.size.least) ys (AllByRecursion-back (IsElement heap.insertions) xs ys tiling_part.elements) in
        begins_behind chunk.addr chunk.len (last_end 0 xs) ys part.behind sizes (rising-back 0 xs ys tiling_part.rising) (λ byte from to. omega (arith, empty byte from to))

    pub others : AllByRecursion (λ q. q.list ≡ chunk.list → ⊥) (xs ++ ys)
    others = AllByRecursion-each (λ (q : Span). q.list ≡ chunk.list → ⊥) (xs ++ ys) (λ q has. other_lists q (subst (λ zs. Contains zs q) (sym part.ranges) has))

    chunk_tiling : IsTiling more (heap.insertions + 1) (xs ++ (x ∷ ys))
    chunk_tiling = window_tiling (segments_of heap) more heap.insertions (heap.insertions + 1) xs [] (x ∷ []) ys (record {
      tiling = tiling_part;
      more_insertions = omega arith;
      front = (low, tt);
      back = high;
      bytes = λ byte. omega (arith, gained (in_segment byte), count_by-cons (in_range byte) x []);
      lists = λ l p byte. omega (arith, gained (in_segment_of l p byte), count_by-cons (in_range_of l p byte) x []);
      single = single_more;
      elements = (record { line = multiple_through chunk.addr chunk.page page_lines can.memory.aligned; size = record { lines = multiple_through chunk.len chunk.page page_lines can.memory.whole; least = least_len }; busy = tt; stamp = omega arith }, tt);
      late_stamps = λ stamp late. grind (arith, nat_tests);
      old_stamps = λ stamp old. (let none : count_by (has_stamp stamp) (x ∷ []) ≡ 0 = rw (ne_eqb (heap.insertions + 1) stamp (λ same. omega (arith, same, old))) refl in omega (arith, none));
      apart = apart_insert xs x ys (Rattle.hp_heap.proofs.RangeLemmas.AllByRecursion-front (λ (q : Span). q.list ≡ chunk.list → ⊥) xs ys others) (AllByRecursion-back (λ (q : Span). q.list ≡ chunk.list → ⊥) xs ys others) tiling_part.apart;
    })

    pub ranges_more : with_range x heap.ranges ≡ xs ++ (x ∷ ys)
    ranges_more =
        let over = behind_run chunk.len chunk.addr ys (omega (arith, least_len)) high in
        ap (λ zs. with_range x zs) part.ranges
        ∙ ap (λ zs. zs ++ (x ∷ Rattle.hp_heap.specs.Joining.above chunk.addr (xs ++ ys))) (below-parts chunk.addr xs ys part.below over)
        ∙ ap (λ zs. xs ++ (x ∷ zs)) (above-parts chunk.addr xs ys part.below over)

  -- a chunk that comes leaves the heap tiled
  pub chunk-tiled : IsTiled (after_chunk chunk heap)
  unfolding after_chunk
  chunk-tiled =
      let (xs, ys, part) = parted_at chunk.addr 0 heap.ranges tiled.tiling.rising in
      record {
        kind = kind_kept heap.serves heap.pages heap.chunks (with_chunk chunk heap.chunks) can.external tiled.kind;
        laid = laid_more;
        tiling = subst (λ zs. IsTiling more (heap.insertions + 1) zs) (sym (ranges_more xs ys part)) (chunk_tiling xs ys part);
      }
