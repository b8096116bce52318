-- A chunk that may go is one free element.
use Rattle.std.proofs.Common.{◌≡◌, ℕ, ◌+◌, ◌-◌, ◌<◌, ◌≤◌, Bool, true, false, cond, not, ◌&&◌, List, [], ◌∷◌, ◌++◌, map, refl, sym, ap, subst, ◌∙◌, inl, inr, arith, Option, Some, None, Contains, IsSomeAnd, count_by, eqb}
use Rattle.std.proofs.lemmas.Bool.{and_parts, and_from, cases_lt, eqb-true, eqb-false, eq-eqb, le-leb, lt-ltb, leb-true, ltb-true, false≢true}
use Rattle.std.proofs.lemmas.List.Elements.{Contains-append_right}
use Rattle.std.specs.List.{AllByRecursion, filter, find}
use Rattle.hp_base.specs.declared.span.Span.{Span}
use Rattle.hp_base.specs.declared.chunk.Chunk.{Chunk}
use Rattle.hp_heap.specs.PlainHeap.{PlainHeap, Extent, end_of, is_free, segments_of, page_extent, chunk_extent}
use Rattle.hp_heap.specs.Tiling.{IsTiled, IsElement, IsRisingFrom, IsApart, joins, in_range, in_segment, in_range_of, in_segment_of}
use Rattle.hp_heap.specs.LaidOut.{IsChunk}
use Rattle.hp_heap.specs.Chunks.{IsUnused}
use Rattle.hp_heap.specs.ChunkKeeping.{IsFreeFrom}
use Rattle.hp_heap.proofs.RangeLemmas.{AllByRecursion-weaker, IsApart-back, rising_behind}
use Rattle.hp_heap.proofs.AllocFacts.ChoiceLaw.{Contains-none, Contains-cases, AllByRecursion-contains}
use Rattle.hp_heap.proofs.Members.{AllByRecursion-each, IsFound, find-is, some_counted, counted_some, counted_once, filter_alike, Contains-image}
use Rattle.hp_heap.proofs.LaidLemmas.{segment_cases, element_segment, first_byte, element_of}
use Rattle.hp_heap.proofs.ChunkFacts.ChunkTiling.{no_pages}

-- of two elements that are apart, the second does not touch the first
apart_members : (from : ℕ) (xs : List Span) (r q : Span) → IsRisingFrom from xs → AllByRecursion (λ (x : Span). 0 < x.whole) xs → IsApart xs → Contains xs r → Contains xs q
    → end_of r ≡ q.addr → joins r q ≡ false
apart_members from [] r q rising sizes apart first second touch = absurd (Contains-none r first)
apart_members from (x ∷ xs) r q rising sizes apart first second touch = elim (Contains-cases x r xs first) [
  | inl here ↦ elim (Contains-cases x q xs second) [
    | inl there ↦ absurd (omega (arith, touch, ap (λ (s : Span). s.addr) here, ap (λ (s : Span). s.whole) here, ap (λ (s : Span). s.addr) there, sizes.0))
    | inr behind ↦ subst (λ (s : Span). joins s q ≡ false) here (next_to x xs (ap end_of here ∙ touch) rising.1 sizes.1 apart behind)
  ]
  | inr later ↦ elim (Contains-cases x q xs second) [
    | inl there ↦
        let low : end_of x ≤ r.addr = AllByRecursion-contains (λ (s : Span). end_of x ≤ s.addr) xs r (rising_behind (end_of x) xs rising.1) later in
        absurd (omega (arith, touch, low, ap (λ (s : Span). s.addr) there, sizes.0))
    | inr behind ↦ apart_members (end_of x) xs r q rising.1 sizes.1 (IsApart-back (x ∷ []) xs apart) later behind touch
  ]
]
  where
    next_to : (x : Span) (xs : List Span) → end_of x ≡ q.addr → IsRisingFrom (end_of x) xs → AllByRecursion (λ (s : Span). 0 < s.whole) xs → IsApart (x ∷ xs) → Contains xs q → joins x q ≡ false
    next_to x [] touch rising sizes apart has = absurd (Contains-none q has)
    next_to x (y ∷ ys) touch rising sizes apart has = elim (Contains-cases y q ys has) [
      | inl is ↦ subst (λ (s : Span). joins x s ≡ false) is apart.0
      | inr rest ↦
          let low : end_of y ≤ q.addr = AllByRecursion-contains (λ (s : Span). end_of y ≤ s.addr) ys q (rising_behind (end_of y) ys rising.1) rest in
          absurd (omega (arith, touch, low, rising.0, sizes.0))
    ]

module _ (heap : PlainHeap) (chunk : Chunk) (tiled : IsTiled heap) (external : heap.serves ≡ None) (has : Contains heap.chunks chunk) (unused : IsUnused heap chunk) where
  own_segment : Contains (segments_of heap) (chunk_extent chunk)
  own_segment = Contains-append_right (map page_extent heap.pages) (map chunk_extent heap.chunks) (chunk_extent chunk) (Contains-image chunk_extent heap.chunks chunk has)

  -- each byte of the chunk is in an element of its list
  element_there : (byte : ℕ) → chunk.addr ≤ byte → byte < chunk.addr + chunk.len → (q : Span) × IsFound (in_range_of chunk.list chunk.page byte) heap.ranges q
  element_there byte from to =
      let inside : in_segment_of chunk.list chunk.page byte (chunk_extent chunk) ≡ true =
      and_from _ _ (and_from _ _ (le-leb chunk.addr byte from) (lt-ltb byte (chunk.addr + chunk.len) to)) (and_from _ _ (eq-eqb chunk.list chunk.list refl) (eq-eqb chunk.page chunk.page refl)) in
      let some = some_counted (in_segment_of chunk.list chunk.page byte) (segments_of heap) (chunk_extent chunk) inside own_segment in
      counted_some (in_range_of chunk.list chunk.page byte) heap.ranges (omega (arith, some, tiled.tiling.one_list chunk.list chunk.page byte))

  sizes : AllByRecursion (λ (q : Span). 0 < q.whole) heap.ranges
  sizes = AllByRecursion-weaker (IsElement heap.insertions) (λ (q : Span). 0 < q.whole) (λ q is. omega (arith, is.size.least)) heap.ranges tiled.tiling.elements

  -- an element of its list begins in the chunk
  begins_inside : (q : Span) → Contains heap.ranges q → q.list ≡ chunk.list → in_segment q.addr (chunk_extent chunk) ≡ true
  begins_inside q among own =
      let s = element_segment heap q q.addr tiled among (first_byte q (element_of heap q tiled among).size.least) in
      elim (segment_cases heap s.segment s.among) [
        | inl p ↦ absurd (Contains-none p.page (subst (λ ps. Contains ps p.page) (no_pages heap.serves heap.pages heap.chunks external tiled.kind) p.among))
        | inr c ↦
            let list : c.chunk.list ≡ chunk.list = ap (λ (e : Extent). e.list) c.is ∙ s.list ∙ own in
            let one : c.chunk ≡ chunk = counted_once (λ (d : Chunk). eqb d.list chunk.list) heap.chunks c.chunk chunk (tiled.laid.own_lists chunk.list) (eq-eqb c.chunk.list chunk.list list, c.among) (eq-eqb chunk.list chunk.list refl, has) in
            subst (λ (e : Extent). in_segment q.addr e ≡ true) (sym c.is ∙ ap chunk_extent one) s.inside
      ]

  free_in : (q : Span) → Contains heap.ranges q → q.list ≡ chunk.list → is_free q ≡ true
  free_in q among own = AllByRecursion-contains (λ (r : Span). r.list ≡ chunk.list → is_free r ≡ true) heap.ranges q unused.free among own

  -- it begins where the chunk does
  begins_at : (q : Span) → Contains heap.ranges q → q.list ≡ chunk.list → q.addr ≡ chunk.addr
  begins_at q among own =
      let tests = and_parts _ _ (begins_inside q among own) in
      let low : chunk.addr ≤ q.addr = leb-true chunk.addr q.addr tests.0 in
      let high : q.addr < chunk.addr + chunk.len = ltb-true q.addr (chunk.addr + chunk.len) tests.1 in
      elim (cases_lt chunk.addr q.addr) [
        | inr level ↦ omega (arith, low, level)
        | inl above ↦
            let before = element_there (q.addr - 1) (omega (arith, above)) (omega (arith, high, above)) in
            absurd (no_gap q among own above before.0 before.1.1 (and_parts _ _ before.1.0).0 (eqb-true before.0.list chunk.list (and_parts _ _ (and_parts _ _ before.1.0).1).0))
      ]
    where
      no_gap : (q : Span) → Contains heap.ranges q → q.list ≡ chunk.list → chunk.addr < q.addr → (r : Span) → Contains heap.ranges r → in_range (q.addr - 1) r ≡ true → r.list ≡ chunk.list → ⊥
      no_gap q among own above r there inside list =
          let tests = and_parts _ _ inside in
          let from : r.addr ≤ q.addr - 1 = leb-true r.addr (q.addr - 1) tests.0 in
          let to : q.addr - 1 < end_of r = ltb-true (q.addr - 1) (end_of r) tests.1 in
          elim (cases_lt q.addr (end_of r)) [
            | inl over ↦
                let both : r ≡ q = counted_once (in_range q.addr) heap.ranges r q (tiled.tiling.single q.addr)
                (and_from _ _ (le-leb r.addr q.addr (omega (arith, from, above))) (lt-ltb q.addr (end_of r) over), there) (first_byte q (element_of heap q tiled among).size.least, among) in
                omega (arith, from, above, ap (λ (s : Span). s.addr) both)
            | inr ends ↦
                let touch : end_of r ≡ q.addr = omega (arith, to, ends, above) in
                let apart = apart_members 0 heap.ranges r q tiled.tiling.rising sizes tiled.tiling.apart there among touch in
                let one : joins r q ≡ true = and_from _ _ (and_from _ _ (free_in r there list) (free_in q among own)) (and_from _ _ (eq-eqb r.list q.list (list ∙ sym own)) (eq-eqb (end_of r) q.addr touch)) in
                false≢true (sym apart ∙ one)
          ]

  -- what begins where the chunk does is of its list
  of_list : (q : Span) → Contains heap.ranges q → q.addr ≡ chunk.addr → q.list ≡ chunk.list
  of_list q among at =
      let s = element_segment heap q q.addr tiled among (first_byte q (element_of heap q tiled among).size.least) in
      let len : 0 < chunk.len = (AllByRecursion-contains IsChunk heap.chunks chunk tiled.laid.each_chunk has).some in
      let inside : in_segment q.addr (chunk_extent chunk) ≡ true = and_from _ _ (le-leb chunk.addr q.addr (omega (arith, at))) (lt-ltb q.addr (chunk.addr + chunk.len) (omega (arith, at, len))) in
      let few : count_by (in_segment q.addr) (segments_of heap) ≤ 1 = omega (arith, tiled.tiling.once q.addr, tiled.tiling.single q.addr) in
      let one : s.segment ≡ chunk_extent chunk = counted_once (in_segment q.addr) (segments_of heap) s.segment (chunk_extent chunk) few (s.inside, s.among) (inside, own_segment) in
      sym s.list ∙ ap (λ (e : Extent). e.list) one

  same_test : (q : Span) → Contains heap.ranges q → not (eqb q.addr chunk.addr) ≡ not (eqb q.list chunk.list)
  same_test q among = by_list (eqb q.list chunk.list) refl (eqb q.addr chunk.addr) refl
    where
      by_list : (b : Bool) → eqb q.list chunk.list ≡ b → (a : Bool) → eqb q.addr chunk.addr ≡ a → not (eqb q.addr chunk.addr) ≡ not (eqb q.list chunk.list)
      by_list true own a at = ap not (eq-eqb q.addr chunk.addr (begins_at q among (eqb-true q.list chunk.list own)) ∙ sym own)
      by_list false other true at = absurd (eqb-false q.list chunk.list other (of_list q among (eqb-true q.addr chunk.addr at)))
      by_list false other false at = ap not (at ∙ sym other)

  -- the elements of other lists are those that begin elsewhere
  pub others_left : filter (λ (q : Span). not (eqb q.addr chunk.addr)) heap.ranges ≡ filter (λ (q : Span). not (eqb q.list chunk.list)) heap.ranges
  others_left = filter_alike (λ (q : Span). not (eqb q.addr chunk.addr)) (λ (q : Span). not (eqb q.list chunk.list)) heap.ranges
      (AllByRecursion-each (λ (q : Span). not (eqb q.addr chunk.addr) ≡ not (eqb q.list chunk.list)) heap.ranges same_test)

  -- at its address the free element is found
  pub found_whole : IsSomeAnd (find (in_range chunk.addr) heap.ranges) (IsFreeFrom chunk.addr)
  found_whole = by_search (find (in_range chunk.addr) heap.ranges) (find-is (in_range chunk.addr) heap.ranges)
    where
      len : 0 < chunk.len
      len = (AllByRecursion-contains IsChunk heap.chunks chunk tiled.laid.each_chunk has).some

      first : (q : Span) × IsFound (in_range_of chunk.list chunk.page chunk.addr) heap.ranges q
      first = element_there chunk.addr (omega arith) (omega (arith, len))

      own : first.0.list ≡ chunk.list
      own = eqb-true first.0.list chunk.list (and_parts (eqb first.0.list chunk.list) (eqb first.0.page chunk.page) (and_parts (in_range chunk.addr first.0) (eqb first.0.list chunk.list && eqb first.0.page chunk.page) first.1.0).1).0

      here : in_range chunk.addr first.0 ≡ true
      here = (and_parts (in_range chunk.addr first.0) (eqb first.0.list chunk.list && eqb first.0.page chunk.page) first.1.0).0

      by_search : (o : Option Span) → Rattle.std.proofs.Common.MatchOption o (AllByRecursion (λ (x : Span). in_range chunk.addr x ≡ false) heap.ranges) (IsFound (in_range chunk.addr) heap.ranges)
          → IsSomeAnd o (IsFreeFrom chunk.addr)
      by_search None none = absurd (false≢true (sym (AllByRecursion-contains (λ (x : Span). in_range chunk.addr x ≡ false) heap.ranges first.0 none first.1.1) ∙ here))
      by_search (Some r) found =
          let one : first.0 ≡ r = counted_once (in_range chunk.addr) heap.ranges first.0 r (tiled.tiling.single chunk.addr) (here, first.1.1) found in
          subst (λ (q : Span). IsFreeFrom chunk.addr q) one (record { begins = begins_at first.0 first.1.1 own; free = free_in first.0 first.1.1 own })
