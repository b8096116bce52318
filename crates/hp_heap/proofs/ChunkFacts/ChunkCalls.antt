-- What the calls for chunks make of a heap's fields.
use Rattle.std.proofs.Common.{◌≡◌, ◌≢◌, ℕ, ◌+◌, ◌≤◌, not, List, [], ◌∷◌, ◌++◌, refl, sym, ap, subst, ◌∙◌, inl, inr, arith, Option, Some, None, IsSome, IsSomeAnd, eqb}
use Rattle.std.proofs.lemmas.Bool.{eqb-true}
use Rattle.std.specs.List.{AllByRecursion, filter, find}
use Rattle.hp_base.specs.declared.span.Span.{Span}
use Rattle.hp_base.specs.declared.chunk.Chunk.{Chunk}
use Rattle.hp_elem.specs.Order.{FitsBeside, AreDisjoint}
use Rattle.hp_heap.specs.declared.body.Body.TheInside.{Inside}
use Rattle.hp_heap.specs.PlainHeap.{PlainHeap, end_of, free_range}
use Rattle.hp_heap.specs.Tiling.{IsTiled, IsApart, joins}
use Rattle.hp_heap.specs.Joining.{with_stretch, stretch_up, stretch_down}
use Rattle.hp_heap.specs.Headers.{spans_of}
use Rattle.hp_heap.specs.Chunks.{with_range, is_chunk_at, chunk_at, chunk_of, without_chunk, with_marks, after_chunk, after_unchunk, CanAddChunk, IsUnused}
use Rattle.hp_heap.specs.ChunkKeeping.{is_of, marked, with_marks_of, HaveOwnLists, IsFreeFrom}
use Rattle.hp_heap.specs.Inside.{plain_of, IsHeap}
use Rattle.hp_heap.proofs.RangeLemmas.{AllByRecursion-append, AllByRecursion-front, AllByRecursion-back, AllByRecursion-weaker, rising-front, rising_before, rising_behind}
use Rattle.hp_heap.proofs.Members.{AllByRecursion-each, IsFound, find_some}
use Rattle.hp_heap.proofs.CutFacts.Stretches.{with_stretch-parts}
use Rattle.hp_heap.proofs.CutFacts.GapTiling.{parted_at}
use Rattle.hp_heap.proofs.GrowLaw.{behind_run}
use Rattle.hp_heap.proofs.ChunkFacts.ChunkTiling.{least_len, low, high, others, ranges_more, elsewhere, joins_lists}
use Rattle.hp_heap.proofs.AddingLemmas.{keyed_all}
use Rattle.hp_heap.proofs.ChunkFacts.ChunkListLemmas.{set_is, find_alike, map_alike, same_tests}
use Rattle.hp_heap.proofs.ChunkFacts.WholeChunk.{others_left, found_whole}

-- what is said of something that is there
pub there_is : {X : Type 0} (P : X → Type 0) (o : Option X) → IsSomeAnd o P → (x : X) × (o ≡ Some x) × P x
there_is P None is = absurd is
there_is P (Some x) is = (x, refl, is)

-- an element of a list of its own joins none
down_alone : (x : Span) (xs : List Span) → AllByRecursion (λ (q : Span). q.list ≡ x.list → ⊥) xs → stretch_down xs x ≡ record { left = xs; range = x }
down_alone x [] other = refl
down_alone x (p ∷ []) other = rw (joins_lists p x other.0) refl
down_alone x (p ∷ o ∷ os) other = rw (down_alone x (o ∷ os) other.1) refl

up_alone : (x : Span) (ys : List Span) → AllByRecursion (λ (q : Span). q.list ≡ x.list → ⊥) ys → stretch_up x ys ≡ x ∷ ys
up_alone x [] other = refl
up_alone x (y ∷ ys) other = rw (joins_lists x y (λ same. other.0 (sym same))) refl

-- a chunk comes
module _ (heap : PlainHeap) (chunk : Chunk) (tiled : IsTiled heap) (can : CanAddChunk chunk heap) where
  abbrev x : Span
  x = free_range chunk.addr chunk.len chunk.list chunk.page (heap.insertions + 1)

  -- it joins nothing
  pub joins_none : with_stretch x heap.ranges ≡ with_range x heap.ranges
  joins_none =
      let (xs, ys, part) = parted_at chunk.addr 0 heap.ranges tiled.tiling.rising in
      let over = behind_run chunk.len chunk.addr ys (omega (arith, least_len heap chunk tiled can)) (high heap chunk tiled can xs ys part) in
      let all = others heap chunk tiled can xs ys part in
      ap (λ zs. with_stretch x zs) part.ranges
      ∙ with_stretch-parts x xs ys part.below over
      ∙ rw (down_alone x xs (AllByRecursion-front (λ (q : Span). q.list ≡ chunk.list → ⊥) xs ys all))
      (rw (up_alone x ys (AllByRecursion-back (λ (q : Span). q.list ≡ chunk.list → ⊥) xs ys all)) (sym (ranges_more heap chunk tiled can xs ys part)))

  pub begins_elsewhere : AllByRecursion (λ (other : Chunk). other.addr ≢ chunk.addr) heap.chunks
  begins_elsewhere = AllByRecursion-each (λ (other : Chunk). other.addr ≢ chunk.addr) heap.chunks (elsewhere heap chunk tiled can)

module _ (a : Inside) (heap : IsHeap a) where
  -- a chunk comes beside the elements
  pub chunk_fits : (chunk : Chunk) (range : Span) → CanAddChunk chunk (plain_of a) → range.addr ≡ chunk.addr → range.whole ≡ chunk.len → FitsBeside range a.headers.items
  chunk_fits chunk range can addr whole =
      let (xs, ys, part) = parted_at chunk.addr 0 (plain_of a).ranges heap.tiled.tiling.rising in
      let front = rising-front 0 xs ys (subst (λ zs. Rattle.hp_heap.specs.Tiling.IsRisingFrom 0 zs) part.ranges heap.tiled.tiling.rising) in
      let beside : AllByRecursion (AreDisjoint range) (xs ++ ys) =
      AllByRecursion-append (AreDisjoint range) xs ys
      (AllByRecursion-weaker (λ (q : Span). end_of q ≤ chunk.addr) (AreDisjoint range) (λ q below. inr (omega (arith, below, addr))) xs (rising_before 0 chunk.addr xs front (low (plain_of a) chunk heap.tiled can xs ys part)).1)
      (AllByRecursion-weaker (λ (q : Span). chunk.addr + chunk.len ≤ q.addr) (AreDisjoint range) (λ q above. inl (omega (arith, above, addr, whole))) ys
      (rising_behind (chunk.addr + chunk.len) ys (high (plain_of a) chunk heap.tiled can xs ys part))) in
      record {
        least = omega (arith, whole, least_len (plain_of a) chunk heap.tiled can);
        ends = omega (arith, addr, whole, can.memory.end);
        beside = keyed_all (AreDisjoint range) a.headers.items (subst (λ zs. AllByRecursion (AreDisjoint range) zs) (sym (heap.ranges ∙ part.ranges)) beside);
      }

  pub chunk_ranges : (chunk : Chunk) → CanAddChunk chunk (plain_of a)
      → with_stretch (free_range chunk.addr chunk.len chunk.list chunk.page (a.headers.insertions + 1)) (spans_of a.headers.items) ≡ (after_chunk chunk (plain_of a)).ranges
  unfolding after_chunk
  chunk_ranges chunk can =
      ap (λ zs. with_stretch (free_range chunk.addr chunk.len chunk.list chunk.page (a.headers.insertions + 1)) zs) heap.ranges
      ∙ ap (λ (n : ℕ). with_stretch (free_range chunk.addr chunk.len chunk.list chunk.page (n + 1)) (plain_of a).ranges) heap.insertions
      ∙ joins_none (plain_of a) chunk heap.tiled can

  -- the chunks as they are kept
  pub own_lists : HaveOwnLists a.chunks.items
  own_lists = subst HaveOwnLists (sym heap.chunks) heap.tiled.laid.own_lists

  module _ (list : ℕ) (x : Chunk) (there : chunk_of list (plain_of a) ≡ Some x) where
    found_in : find (λ (c : Chunk). eqb c.list list) (plain_of a).chunks ≡ Some x
    unfolding chunk_of
    found_in = there

    found : IsFound (λ (c : Chunk). eqb c.list list) (plain_of a).chunks x
    found = find_some (λ (c : Chunk). eqb c.list list) (plain_of a).chunks x found_in

    own : x.list ≡ list
    own = eqb-true x.list list found.0

    -- the chunk of a list is found among them
    pub kept_there : find (is_of list) a.chunks.items ≡ Some x
    kept_there = ap (λ cs. find (λ (c : Chunk). eqb c.list list) cs) heap.chunks ∙ found_in

    pub kept_some : IsSome (find (is_of list) a.chunks.items)
    kept_some = rw kept_there refl

    tests : AllByRecursion (λ (c : Chunk). is_chunk_at x.addr x.len c ≡ eqb c.list list) (plain_of a).chunks
    tests = subst (λ (l : ℕ). AllByRecursion (λ (c : Chunk). is_chunk_at x.addr x.len c ≡ eqb c.list l) (plain_of a).chunks) own (same_tests (plain_of a).chunks x heap.kept.rising heap.tiled.laid.own_lists found.1)

    -- it is the one at its address and of its length
    at_address : chunk_at x.addr x.len (plain_of a) ≡ Some x
    unfolding chunk_at
    at_address = find_alike (λ (c : Chunk). eqb c.list list) (is_chunk_at x.addr x.len) (plain_of a).chunks tests ∙ found_in

    -- it goes
    gone : after_unchunk x.addr x.len (plain_of a) ≡ without_chunk (Some x) (plain_of a)
    unfolding after_unchunk
    gone = ap (λ o. without_chunk o (plain_of a)) at_address

    pub chunks_left : filter (λ (c : Chunk). not (is_of list c)) a.chunks.items ≡ (after_unchunk x.addr x.len (plain_of a)).chunks
    chunks_left =
        ap (filter (λ (c : Chunk). not (eqb c.list list))) heap.chunks
        ∙ ap (λ (l : ℕ). filter (λ (c : Chunk). not (eqb c.list l)) (plain_of a).chunks) (sym own)
        ∙ ap (λ h. h.chunks) (sym gone)

    module _ (external : (plain_of a).serves ≡ None) (unused : IsSomeAnd (chunk_at x.addr x.len (plain_of a)) (IsUnused (plain_of a))) where
      unused_is : IsUnused (plain_of a) x
      unused_is = subst (λ o. IsSomeAnd o (IsUnused (plain_of a))) at_address unused

      pub ranges_left : filter (λ (q : Span). not (eqb q.addr x.addr)) (spans_of a.headers.items) ≡ (after_unchunk x.addr x.len (plain_of a)).ranges
      ranges_left =
          ap (filter (λ (q : Span). not (eqb q.addr x.addr))) heap.ranges
          ∙ others_left (plain_of a) x heap.tiled external found.1 unused_is
          ∙ ap (λ h. h.ranges) (sym gone)

      pub whole_there : IsSomeAnd (find (Rattle.hp_heap.specs.Tiling.in_range x.addr) (spans_of a.headers.items)) (IsFreeFrom x.addr)
      whole_there = subst (λ zs. IsSomeAnd (find (Rattle.hp_heap.specs.Tiling.in_range x.addr) zs) (IsFreeFrom x.addr)) (sym heap.ranges) (found_whole (plain_of a) x heap.tiled external found.1 unused_is)

    -- what a call leaves besides
    pub unchunk_same : ((after_unchunk x.addr x.len (plain_of a)).name ≡ (plain_of a).name) × ((after_unchunk x.addr x.len (plain_of a)).socket ≡ (plain_of a).socket)
        × ((after_unchunk x.addr x.len (plain_of a)).pages ≡ (plain_of a).pages) × ((after_unchunk x.addr x.len (plain_of a)).insertions ≡ (plain_of a).insertions)
    unchunk_same = (ap (λ h. h.name) gone, ap (λ h. h.socket) gone, ap (λ h. h.pages) gone, ap (λ h. h.insertions) gone)

    -- it gets other marks
    pub marks_are : (marks : ℕ → ℕ) → with_marks_of list (marks x.attached) a.chunks.items ≡ (with_marks marks x.addr x.len (plain_of a)).chunks
    marks_are marks =
        let f : Chunk → Chunk = λ c. record c { attached = marks c.attached } in
        let cs = (plain_of a).chunks in
        ap (with_marks_of list (marks x.attached)) heap.chunks
        ∙ sym (set_is (λ (c : Chunk). eqb c.list list) (marked (marks x.attached)) x cs (heap.tiled.laid.own_lists list) found_in)
        ∙ set_is (λ (c : Chunk). eqb c.list list) f x cs (heap.tiled.laid.own_lists list) found_in
        ∙ sym (map_alike (λ (c : Chunk). eqb c.list list) (is_chunk_at x.addr x.len) f cs tests)
