-- Segment lists of a tiled heap: each has pages of one size, and an element lies in segments of its list.
use Rattle.std.proofs.Common.{◌≡◌, ℕ, ◌+◌, ◌^◌, ◌≤◌, ◌⊎◌, true, List, map, refl, sym, ap, subst, ◌∙◌, inl, inr, arith, Option, Some, None, Contains, eqb}
use Rattle.std.proofs.lemmas.Bool.{and_parts, and_from, eqb-true, eq-eqb, le-leb, lt-ltb}
use Rattle.std.proofs.lemmas.List.Elements.{Contains-append_cases}
use Rattle.std.specs.List.{AllByRecursion}
use Rattle.hp_base.specs.declared.span.Span.{Span}
use Rattle.hp_base.specs.declared.chunk.Chunk.{Chunk}
use Rattle.hp_heap.specs.PlainHeap.{PlainHeap, HeapPage, Extent, end_of, segments_of, page_extent, chunk_extent, HasKind}
use Rattle.hp_heap.specs.LaidOut.{IsPage, IsChunk, IsLaidOut}
use Rattle.hp_heap.specs.Tiling.{IsTiled, IsElement, in_range, in_range_of, in_segment, in_segment_of}
use Rattle.hp_heap.proofs.AllocFacts.ChoiceLaw.{Contains-none, AllByRecursion-contains}
use Rattle.hp_heap.proofs.Members.{AllByRecursion-each, counted_some, some_counted, counted_once, Contains-imaged}

-- a segment is that of a page, or that of a chunk
pub record IsPageOf (heap : PlainHeap) (segment : Extent) : Type 0 where
  pub page : HeapPage
  pub among : Contains heap.pages page
  pub is : page_extent page ≡ segment

pub record IsChunkOf (heap : PlainHeap) (segment : Extent) : Type 0 where
  pub chunk : Chunk
  pub among : Contains heap.chunks chunk
  pub is : chunk_extent chunk ≡ segment

pub segment_cases : (heap : PlainHeap) (segment : Extent) → Contains (segments_of heap) segment → IsPageOf heap segment ⊎ IsChunkOf heap segment
segment_cases heap segment has = elim (Contains-append_cases (map page_extent heap.pages) (map chunk_extent heap.chunks) segment has) [
  | inl page ↦ (let one = Contains-imaged page_extent heap.pages segment page in inl (record { page = one.0; among = one.1; is = one.2 }))
  | inr chunk ↦ (let one = Contains-imaged chunk_extent heap.chunks segment chunk in inr (record { chunk = one.0; among = one.1; is = one.2 }))
]

-- a heap has not both pages and chunks
one_kind : (serves : Option ℕ) (pages : List HeapPage) (chunks : List Chunk) (page : HeapPage) (chunk : Chunk) → HasKind serves pages chunks → Contains pages page → Contains chunks chunk → ⊥
one_kind None pages chunks page chunk none has other = Contains-none page (subst (λ ps. Contains ps page) none has)
one_kind (Some socket) pages chunks page chunk none has other = Contains-none chunk (subst (λ cs. Contains cs chunk) none other)

-- two segments of one list have pages of one size
pub one_paged : (heap : PlainHeap) (s t : Extent) → HasKind heap.serves heap.pages heap.chunks → IsLaidOut heap.pages heap.chunks
    → Contains (segments_of heap) s → Contains (segments_of heap) t → t.list ≡ s.list → t.page ≡ s.page
one_paged heap s t kind laid first second same = elim (segment_cases heap s first) [
  | inl p ↦ elim (segment_cases heap t second) [
    | inl q ↦ pages_alike p q
    | inr d ↦ absurd (one_kind heap.serves heap.pages heap.chunks p.page d.chunk kind p.among d.among)
  ]
  | inr c ↦ elim (segment_cases heap t second) [
    | inl q ↦ absurd (one_kind heap.serves heap.pages heap.chunks q.page c.chunk kind q.among c.among)
    | inr d ↦ chunks_alike c d
  ]
]
  where
    pages_alike : IsPageOf heap s → IsPageOf heap t → t.page ≡ s.page
    pages_alike p q =
        let list : q.page.list ≡ p.page.list = ap (λ (x : Extent). x.list) q.is ∙ same ∙ sym (ap (λ (x : Extent). x.list) p.is) in
        sym (ap (λ (x : Extent). x.page) q.is) ∙ (laid.alike p.page q.page p.among q.among list).size ∙ ap (λ (x : Extent). x.page) p.is

    chunks_alike : IsChunkOf heap s → IsChunkOf heap t → t.page ≡ s.page
    chunks_alike c d =
        let first_list : c.chunk.list ≡ s.list = ap (λ (x : Extent). x.list) c.is in
        let second_list : d.chunk.list ≡ s.list = ap (λ (x : Extent). x.list) d.is ∙ same in
        let one : d.chunk ≡ c.chunk = counted_once (λ (chunk : Chunk). eqb chunk.list s.list) heap.chunks d.chunk c.chunk (laid.own_lists s.list)
        (eq-eqb d.chunk.list s.list second_list, d.among) (eq-eqb c.chunk.list s.list first_list, c.among) in
        sym (ap (λ (x : Extent). x.page) d.is) ∙ ap (λ (chunk : Chunk). chunk.page) one ∙ ap (λ (x : Extent). x.page) c.is

-- the first byte of an element is in it
pub first_byte : (r : Span) → 192 ≤ r.whole → in_range r.addr r ≡ true
first_byte r size = and_from _ _ (le-leb r.addr r.addr (omega arith)) (lt-ltb r.addr (end_of r) (omega arith))

-- a byte of an element is one of its own list
of_itself : (byte : ℕ) (r : Span) → in_range byte r ≡ true → in_range_of r.list r.page byte r ≡ true
of_itself byte r inside = and_from _ _ inside (and_from _ _ (eq-eqb r.list r.list refl) (eq-eqb r.page r.page refl))

-- an element lies in segments of its list and page size
pub record HasSegment (heap : PlainHeap) (r : Span) (byte : ℕ) : Type 0 where
  pub segment : Extent
  pub among : Contains (segments_of heap) segment
  pub inside : in_segment byte segment ≡ true
  pub list : segment.list ≡ r.list
  pub page : segment.page ≡ r.page

pub element_segment : (heap : PlainHeap) (r : Span) (byte : ℕ) → IsTiled heap → Contains heap.ranges r → in_range byte r ≡ true → HasSegment heap r byte
element_segment heap r byte tiled has inside =
    let some = some_counted (in_range_of r.list r.page byte) heap.ranges r (of_itself byte r inside) has in
    let found = counted_some (in_segment_of r.list r.page byte) (segments_of heap) (omega (arith, some, tiled.tiling.one_list r.list r.page byte)) in
    let tests = and_parts _ _ found.1.0 in
    let kinds = and_parts _ _ tests.1 in
    record {
      segment = found.0;
      among = found.1.1;
      inside = tests.0;
      list = eqb-true found.0.list r.list kinds.0;
      page = eqb-true found.0.page r.page kinds.1;
    }

-- an element of a tiled heap is one by itself
pub element_of : (heap : PlainHeap) (r : Span) → IsTiled heap → Contains heap.ranges r → IsElement heap.insertions r
element_of heap r tiled has = AllByRecursion-contains (IsElement heap.insertions) heap.ranges r tiled.tiling.elements has

-- two elements of one list have pages of one size
pub one_page : (heap : PlainHeap) (r q : Span) → IsTiled heap → Contains heap.ranges r → Contains heap.ranges q → q.list ≡ r.list → q.page ≡ r.page
one_page heap r q tiled first second same =
    let s = element_segment heap r r.addr tiled first (first_byte r (element_of heap r tiled first).size.least) in
    let t = element_segment heap q q.addr tiled second (first_byte q (element_of heap q tiled second).size.least) in
    sym t.page ∙ one_paged heap s.segment t.segment tiled.kind tiled.laid s.among t.among (t.list ∙ same ∙ sym s.list) ∙ s.page

-- a segment ends in the lower half of the addresses
abbrev pub IsInLimits : Extent → Type 0
IsInLimits segment = segment.addr + segment.len ≤ 2 ^ 63

-- the segments of a tiled heap end in the lower half of the addresses
pub tiled_limits : (heap : PlainHeap) → IsTiled heap → AllByRecursion IsInLimits (segments_of heap)
tiled_limits heap tiled = AllByRecursion-each IsInLimits (segments_of heap) (λ s has. elim (segment_cases heap s has) [
  | inl p ↦ subst (λ (x : Extent). x.addr + x.len ≤ 2 ^ 63) p.is (AllByRecursion-contains IsPage heap.pages p.page tiled.laid.each_page p.among).end
  | inr c ↦ subst (λ (x : Extent). x.addr + x.len ≤ 2 ^ 63) c.is (AllByRecursion-contains IsChunk heap.chunks c.chunk tiled.laid.each_chunk c.among).end
])
