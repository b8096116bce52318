-- The tie stays where names change, and where memory comes and goes.
use Rattle.std.proofs.Common.{◌≡◌, ◌≢◌, ℕ, ◌+◌, ◌<◌, ◌≤◌, Bool, true, false, ◌&&◌, cond, not, List, [], ◌∷◌, ◌++◌, filter, get_or, length, Option, Some, None, All, Contains, count_by, refl, sym, ap, subst, ◌∙◌, inl, inr, arith, eqb, eq-eqb, ltb}
use Rattle.std.specs.List.{AllByRecursion, list_any, position_or_len, remove}
use Rattle.std.proofs.lemmas.Bool.{and_from, and_parts, cases_Bool, eqb-true, false_from_ne_true, ne_eqb}
use Rattle.std.proofs.lemmas.List.Elements.{Contains-append_left, Contains-append_right}
use Rattle.std.proofs.lemmas.List.Sums.{count_by-le-length, sum_by-remove}
use Rattle.std.proofs.lemmas.Option.{get_or_from_slice_get}
use Rattle.hp_base.specs.Flags.{has_bit}
use Rattle.hp_base.specs.declared.chunk.Chunk.{Chunk}
use Rattle.hp_base.specs.declared.row.Row.{Row}
use Rattle.hp_heap.specs.ChunkOrder.{AreInOrder}
use Rattle.hp_heap.specs.Chunks.{CanAddChunk, after_chunk, after_unchunk, chunk_at, with_chunk, without_chunk}
use Rattle.hp_heap.specs.PlainHeap.{Extent, PlainHeap, chunk_extent}
use Rattle.hp_heap.specs.Tiling.{IsTiled}
use Rattle.hp_heap.proofs.AllocFacts.ChoiceLaw.{AllByRecursion-contains, Contains-filter, Contains-here}
use Rattle.hp_heap.proofs.ChunkFacts.ChunkListLemmas.{place_here, place_inside, remove_is}
use Rattle.hp_heap.proofs.HistoryFacts.Counting.{count_by-append, count_by-cons}
use Rattle.hp_heap.proofs.Members.{AllByRecursion-each, AllByRecursion-kept, Contains-kept, IsFound, counted_some, some_counted}
use Rattle.hp_heap.proofs.RangeLemmas.{AllByRecursion-append, AllByRecursion-weaker}
use Rattle.hp_maps.specs.Chunks.{is_of_chunk, rows_of_chunk}
use Rattle.hp_segs.specs.declared.external_range.ExternalRange.{ExternalRange}
use Rattle.hp_zone.specs.Directory.{HasRange, PlainDirectory, is_range, without_range}
use Rattle.hp_zone.specs.declared.heap_name.HeapRange.{HeapRange}
use Rattle.hp_external.specs.Tie.{AreClaimed, AreListed, AreMarked, IsClaimedRow, IsMarked, IsOfClaim, IsTiedHeap, claim_of, is_memory, is_range_of}
use Rattle.hp_external.proofs.ChunkLemmas.{among_chunks, count_more, found_of, its_addr, one_of_address}
use Rattle.hp_external.proofs.ListLemmas.{all_of_each, any_there, filter_none, first_passes, first_within, none_kept}
use Rattle.hp_external.proofs.Marks.{no_mark}

-- with the same ranges and chunks it is tied as before
pub tied_same : (ranges ranges' : List HeapRange) (claims : List ExternalRange) (participant : ℕ) (rows : List Row) (heap heap' : PlainHeap)
    → ranges' ≡ ranges → heap'.index ≡ heap.index → heap'.chunks ≡ heap.chunks → IsTiedHeap ranges claims participant rows heap
    → IsTiedHeap ranges' claims participant rows heap'
tied_same ranges ranges' claims participant rows heap heap' same index chunks tied = record {
  listed = λ addr len page.
      ap (count_by (is_range_of heap'.index addr len page)) same
      ∙ ap (λ (i : ℕ). count_by (is_range_of i addr len page) ranges) index
      ∙ tied.listed addr len page
      ∙ sym (ap (count_by (is_memory addr len page)) chunks);
  claimed = subst (λ cs. AreClaimed claims cs) (sym chunks) tied.claimed;
  marked = subst (λ cs. AreMarked participant rows cs) (sym chunks) tied.marked;
  known = tied.known;
}

-- where there is no chunk, the directory has no range of the heap
pub nothing_listed : (directory : List HeapRange) (heap : PlainHeap) → length heap.chunks ≡ 0 → AreListed directory heap
    → All (λ range. range.index ≢ heap.index) directory
nothing_listed directory heap empty listed =
    all_of_each (λ range. range.index ≢ heap.index) directory
    (λ range there same.
    (let itself : is_range_of heap.index range.addr range.len range.page range ≡ true
    = and_from _ _ (eq-eqb range.index heap.index same)
    (and_from _ _ (eq-eqb range.addr range.addr refl) (and_from _ _ (eq-eqb range.len range.len refl) (eq-eqb range.page range.page refl))) in
    absurd (omega (
      arith,
      some_counted (is_range_of heap.index range.addr range.len range.page) directory range itself there,
      listed range.addr range.len range.page,
      count_by-le-length (is_memory range.addr range.len range.page) heap.chunks,
      empty,
    ))))

-- what is tied is tied by other words for the same
pub tied_by : (ranges ranges' : List HeapRange) (claims claims' : List ExternalRange) (participant : ℕ) (rows rows' : List Row)
    (heap heap' : PlainHeap) → ranges' ≡ ranges → claims' ≡ claims → rows' ≡ rows → heap' ≡ heap
    → IsTiedHeap ranges claims participant rows heap → IsTiedHeap ranges' claims' participant rows' heap'
tied_by ranges ranges' claims claims' participant rows rows' heap heap' same_ranges same_claims same_rows same_heap tied =
    subst (λ h. IsTiedHeap ranges' claims' participant rows' h) (sym same_heap)
    (subst (λ r. IsTiedHeap ranges' claims' participant r heap) (sym same_rows)
    (subst (λ c. IsTiedHeap ranges' c participant rows heap) (sym same_claims)
    (subst (λ d. IsTiedHeap d claims participant rows heap) (sym same_ranges) tied)))

-- a range with a chunk's address, length and page size is listed where the chunk is
same_memory : (index : ℕ) (range : HeapRange) (chunk : Chunk) → range.index ≡ index → range.addr ≡ chunk.addr → range.len ≡ chunk.len
    → range.page ≡ chunk.page → (addr len page : ℕ) → is_range_of index addr len page range ≡ is_memory addr len page chunk
same_memory index range chunk its_index its_addr its_len its_page addr len page =
    ap (λ b. b && ((eqb range.addr addr) && ((eqb range.len len) && (eqb range.page page)))) (eq-eqb range.index index its_index)
    ∙ ap (λ (a : ℕ). (eqb a addr) && ((eqb range.len len) && (eqb range.page page))) its_addr
    ∙ ap (λ (l : ℕ). (eqb chunk.addr addr) && ((eqb l len) && (eqb range.page page))) its_len
    ∙ ap (λ (p : ℕ). (eqb chunk.addr addr) && ((eqb chunk.len len) && (eqb p page))) its_page

-- a chunk comes, without marks, under a list that nobody has
module _ (directory : List HeapRange) (claims : List ExternalRange) (participant : ℕ) (rows : List Row) (heap : PlainHeap) (chunk : Chunk)
    (tiled : IsTiled heap) (can : CanAddChunk chunk heap) (free : list_any (λ claim. eqb claim.list chunk.list) claims ≡ false)
    (tied : IsTiedHeap directory claims participant rows heap) where
  abbrev range : HeapRange
  range = record { index = heap.index; addr = chunk.addr; len = chunk.len; page = chunk.page }

  -- no table has a row of its list
  not_its : (row : Row) → IsOfClaim claims row → is_of_chunk chunk row ≡ false
  not_its row known =
      false_from_ne_true (is_of_chunk chunk row)
      (λ its.
      (let parts = and_parts (eqb row.generation 0) (eqb row.list chunk.list) its in
      let claim = known (eqb-true row.generation 0 parts.0) in
      let same : claim.claim.list ≡ chunk.list = claim.list_is ∙ eqb-true row.list chunk.list parts.1 in
      let here : list_any (λ (other : ExternalRange). eqb other.list chunk.list) claims ≡ true
      = any_there (λ (other : ExternalRange). eqb other.list chunk.list) claims claim.claim claim.there (eq-eqb claim.claim.list chunk.list same) in
      let wrong : true ≡ false = sym here ∙ free in
      cc))

  none_yet : IsMarked participant rows chunk
  none_yet =
      let none : has_bit chunk.attached participant ≡ false = ap (λ (m : ℕ). has_bit m participant) can.unmarked ∙ no_mark participant in
      filter_none (is_of_chunk chunk) rows
      (AllByRecursion-weaker (IsOfClaim claims) (λ row. is_of_chunk chunk row ≡ false) (λ row known. not_its row known) rows tied.known)
      ∙ sym (ap (λ b. cond b (rows_of_chunk chunk) []) none)

  of_all : (P : Chunk → Type 0) → AllByRecursion P heap.chunks → P chunk → AllByRecursion P (with_chunk chunk heap.chunks)
  of_all P all own =
      AllByRecursion-append P (filter (λ other. ltb other.addr chunk.addr) heap.chunks)
      (chunk ∷ filter (λ other. ltb chunk.addr other.addr) heap.chunks)
      (AllByRecursion-kept P (λ other. ltb other.addr chunk.addr) heap.chunks all) (
        own,
        AllByRecursion-kept P (λ other. ltb chunk.addr other.addr) heap.chunks all,
      )

  pub tied_more : IsTiedHeap (directory ++ range ∷ []) (claims ++ claim_of chunk ∷ []) participant rows (after_chunk chunk heap)
  unfolding after_chunk
  tied_more = record {
    listed = λ addr len page.
        (let weight : cond {A = ℕ} (is_range_of heap.index addr len page range) 1 0 ≡ cond (is_memory addr len page chunk) 1 0
        = ap (λ b. cond b 1 0) (same_memory heap.index range chunk refl refl refl refl addr len page) in
        omega (
          arith,
          count_by-append (is_range_of heap.index addr len page) directory (range ∷ []),
          count_by-cons (is_range_of heap.index addr len page) range [],
          count_more heap chunk tiled can (is_memory addr len page),
          tied.listed addr len page,
          weight,
        ));
    claimed =
        of_all (λ other. Contains (claims ++ claim_of chunk ∷ []) (claim_of other))
        (AllByRecursion-weaker (λ (other : Chunk). Contains claims (claim_of other)) (λ (other : Chunk). Contains (claims ++ claim_of chunk ∷ []) (claim_of other))
        (λ other has. Contains-append_left claims (claim_of chunk ∷ []) (claim_of other) has) heap.chunks tied.claimed)
        (Contains-append_right claims (claim_of chunk ∷ []) (claim_of chunk) (Contains-here (claim_of chunk) []));
    marked = of_all (IsMarked participant rows) tied.marked none_yet;
    known =
        AllByRecursion-weaker (IsOfClaim claims) (IsOfClaim (claims ++ claim_of chunk ∷ []))
        (λ row known log.
        (let claim = known log in
        record {
          claim = claim.claim;
          there = Contains-append_left claims (claim_of chunk ∷ []) claim.claim claim.there;
          list_is = claim.list_is;
          from = claim.from;
          within = claim.within;
        }))
        rows tied.known;
  }

-- a chunk goes, without marks
module _ (directory : List HeapRange) (heap : PlainHeap) (addr len : ℕ) (chunk : Chunk) (tiled : IsTiled heap)
    (there : chunk_at addr len heap ≡ Some chunk) (listed : AreListed directory heap) where
  has : Contains heap.chunks chunk
  has = among_chunks heap addr len chunk there

  its_range : (range : HeapRange) × IsFound (is_range_of heap.index chunk.addr chunk.len chunk.page) directory range
  its_range =
      counted_some (is_range_of heap.index chunk.addr chunk.len chunk.page) directory
      (omega (
        arith,
        listed chunk.addr chunk.len chunk.page,
        some_counted (is_memory chunk.addr chunk.len chunk.page) heap.chunks chunk
            (and_from _ _ (eq-eqb chunk.addr chunk.addr refl) (and_from _ _ (eq-eqb chunk.len chunk.len refl) (eq-eqb chunk.page chunk.page refl))) has,
      ))

  abbrev first : HeapRange
  first = its_range.0

  first_parts : (first.index ≡ heap.index) × (first.addr ≡ addr)
  first_parts =
      let all = and_parts (eqb first.index heap.index) _ its_range.1.0 in
      let rest = and_parts (eqb first.addr chunk.addr) _ all.1 in
      (eqb-true first.index heap.index all.0, eqb-true first.addr chunk.addr rest.0 ∙ its_addr heap addr len chunk there)

  -- the directory has its range
  pub its_range_there : (plain : PlainDirectory) → plain.ranges ≡ directory → HasRange plain heap.index addr
  its_range_there plain same = record {
    range = first;
    there = subst (λ rs. Contains rs first) (sym same) its_range.1.1;
    index_is = first_parts.0;
    addr_is = first_parts.1;
  }

  within : position_or_len (is_range heap.index addr) directory < length directory
  within =
      first_within (is_range heap.index addr) directory first its_range.1.1
      (and_from _ _ (eq-eqb first.index heap.index first_parts.0) (eq-eqb first.addr addr first_parts.1))

  -- the range that goes
  abbrev gone : HeapRange
  gone = get_or directory (position_or_len (is_range heap.index addr) directory) first

  gone_parts : (gone.index ≡ heap.index) × (gone.addr ≡ addr)
  gone_parts =
      let passes = and_parts (eqb gone.index heap.index) (eqb gone.addr addr) (first_passes (is_range heap.index addr) directory first within) in
      (eqb-true gone.index heap.index passes.0, eqb-true gone.addr addr passes.1)

  count_left : (test : HeapRange → Bool) → count_by test (without_range heap.index addr directory) + cond (test gone) 1 0 ≡ count_by test directory
  count_left test = sum_by-remove (λ range. cond {A = ℕ} (test range) 1 0) directory (position_or_len (is_range heap.index addr) directory) first within

  -- is that of a chunk, and so of this one
  gone_chunk : (other : Chunk) × IsFound (is_memory gone.addr gone.len gone.page) heap.chunks other
  gone_chunk =
      let itself : is_range_of heap.index gone.addr gone.len gone.page gone ≡ true
      = and_from _ _ (eq-eqb gone.index heap.index gone_parts.0)
      (and_from _ _ (eq-eqb gone.addr gone.addr refl) (and_from _ _ (eq-eqb gone.len gone.len refl) (eq-eqb gone.page gone.page refl))) in
      let weight : cond {A = ℕ} (is_range_of heap.index gone.addr gone.len gone.page gone) 1 0 ≡ 1 = ap (λ b. cond b 1 0) itself in
      counted_some (is_memory gone.addr gone.len gone.page) heap.chunks
      (omega (
        arith,
        count_left (is_range_of heap.index gone.addr gone.len gone.page),
        weight,
        listed gone.addr gone.len gone.page,
      ))

  gone_is : (gone.len ≡ chunk.len) × (gone.page ≡ chunk.page)
  gone_is =
      let other = gone_chunk.0 in
      let all = and_parts (eqb other.addr gone.addr) _ gone_chunk.1.0 in
      let rest = and_parts (eqb other.len gone.len) (eqb other.page gone.page) all.1 in
      let at : other.addr ≡ chunk.addr = eqb-true other.addr gone.addr all.0 ∙ (gone_parts.1 ∙ sym (its_addr heap addr len chunk there)) in
      let same = one_of_address heap tiled chunk has other gone_chunk.1.1 at in (
        sym (eqb-true other.len gone.len rest.0) ∙ ap (λ (e : Extent). e.len) same,
        sym (eqb-true other.page gone.page rest.1) ∙ ap (λ (e : Extent). e.page) same,
      )

  module _ (claims : List ExternalRange) (participant : ℕ) (rows : List Row) (order : AreInOrder heap.chunks) (unmarked : chunk.attached ≡ 0)
      (tied : IsTiedHeap directory claims participant rows heap) where
    abbrev left : List Chunk
    left = filter (λ other. not (eqb other.list chunk.list)) heap.chunks

    count_chunks_left : (test : Chunk → Bool) → count_by test left + cond (test chunk) 1 0 ≡ count_by test heap.chunks
    count_chunks_left test =
        let own : Chunk → Bool = λ other. eqb other.list chunk.list in
        let there_of = found_of heap addr len chunk there tiled order in
        let place = position_or_len own heap.chunks in
        let here : get_or heap.chunks place chunk ≡ chunk
        = get_or_from_slice_get heap.chunks place chunk chunk (place_here own heap.chunks chunk there_of) in
        let weight : cond {A = ℕ} (test (get_or heap.chunks place chunk)) 1 0 ≡ cond (test chunk) 1 0 = ap (λ c. cond (test c) 1 0) here in
        omega (
          arith,
          ap (count_by test) (remove_is own heap.chunks (tiled.laid.own_lists chunk.list)),
          sum_by-remove (λ other. cond {A = ℕ} (test other) 1 0) heap.chunks place chunk (place_inside own heap.chunks chunk there_of),
          weight,
        )

    -- no table has a row of it
    no_row : filter (is_of_chunk chunk) rows ≡ []
    no_row =
        let none : has_bit chunk.attached participant ≡ false = ap (λ (m : ℕ). has_bit m participant) unmarked ∙ no_mark participant in
        AllByRecursion-contains (IsMarked participant rows) heap.chunks chunk tied.marked has
        ∙ ap (λ b. cond b (rows_of_chunk chunk) []) none

    differs : (list : ℕ) → (list ≡ chunk.list → ⊥) → not (eqb list chunk.list) ≡ true
    differs list other = ap not (ne_eqb list chunk.list other)

    pub tied_less : IsTiedHeap (without_range heap.index addr directory) (filter (λ claim. not (eqb claim.list chunk.list)) claims) participant rows
        (without_chunk (Some chunk) heap)
    tied_less = record {
      listed = λ at long page.
          (let weight : cond {A = ℕ} (is_range_of heap.index at long page gone) 1 0 ≡ cond (is_memory at long page chunk) 1 0
          = ap (λ b. cond b 1 0) (same_memory heap.index gone chunk gone_parts.0 (gone_parts.1 ∙ sym (its_addr heap addr len chunk there)) gone_is.0 gone_is.1 at long page) in
          omega (
            arith,
            count_left (is_range_of heap.index at long page),
            count_chunks_left (is_memory at long page),
            tied.listed at long page,
            weight,
          ));
      claimed =
          AllByRecursion-each (λ other. Contains (filter (λ claim. not (eqb claim.list chunk.list)) claims) (claim_of other)) left
          (λ other kept.
          (let one = Contains-filter (λ (c : Chunk). not (eqb c.list chunk.list)) heap.chunks other kept in
          Contains-kept (λ (claim : ExternalRange). not (eqb claim.list chunk.list)) claims (claim_of other) one.0
          (AllByRecursion-contains (λ (c : Chunk). Contains claims (claim_of c)) heap.chunks other tied.claimed one.1)));
      marked = AllByRecursion-kept (IsMarked participant rows) (λ other. not (eqb other.list chunk.list)) heap.chunks tied.marked;
      known =
          AllByRecursion-each (IsOfClaim (filter (λ claim. not (eqb claim.list chunk.list)) claims)) rows
          (λ row among log.
          (let claim = AllByRecursion-contains (IsOfClaim claims) rows row tied.known among log in
          let other : claim.claim.list ≡ chunk.list → ⊥
          = λ same. none_kept (is_of_chunk chunk) rows no_row row among
          (and_from (eqb row.generation 0) (eqb row.list chunk.list) (eq-eqb row.generation 0 log)
          (eq-eqb row.list chunk.list (sym claim.list_is ∙ same))) in
          record {
            claim = claim.claim;
            there = Contains-kept (λ (c : ExternalRange). not (eqb c.list chunk.list)) claims claim.claim (differs claim.claim.list other) claim.there;
            list_is = claim.list_is;
            from = claim.from;
            within = claim.within;
          }));
    }

    -- the heap after it went is without it
    pub tied_gone : IsTiedHeap (without_range heap.index addr directory) (filter (λ claim. not (eqb claim.list chunk.list)) claims) participant rows
        (after_unchunk addr len heap)
    unfolding after_unchunk
    tied_gone =
        subst (λ (o : Option Chunk). IsTiedHeap (without_range heap.index addr directory) (filter (λ claim. not (eqb claim.list chunk.list)) claims) participant rows (without_chunk o heap))
        (sym there) tied_less
