-- Where names agree at the end with the heaps and with the claimed external memory, the directory is that of the heaps' names and chunks, the
-- memzones are those of their elements, and each participant has attached exactly what has its mark.
use Rattle.std.proofs.Common.{◌≡◌, ◌∙◌, ℕ, ◌+◌, ◌<◌, ◌≤◌, Bool, true, false, ◌&&◌, ◌==◌, cond, not, List, [], ◌∷◌, ◌++◌, Contains, count_by, eqb, filter, flat_map, nat_lt, None, length, map, Option, Some, refl, sym, ap, ap₂, subst, arith}
use Rattle.std.specs.List.{All, AllByRecursion, range_with_len, slice_get}
use Rattle.std.specs.List.Sorted.{IsPermutation}
use Rattle.std.specs.Option.{option_and_then, option_map_or}
use Rattle.std.proofs.lemmas.Bool.{and_parts, cond_both, eqb-true}
use Rattle.std.proofs.lemmas.List.Elements.{All-contains, All-from_recursion}
use Rattle.std.proofs.lemmas.List.Sorted.{sum_by-IsPermutation}
use Rattle.std.proofs.lemmas.Option.{same_Some, slice_get_within}
use Rattle.hp_base.specs.ExternalMemory.{IsExternalMemory}
use Rattle.hp_base.specs.Flags.{has_bit}
use Rattle.hp_base.specs.declared.chunk.Chunk.{Chunk}
use Rattle.hp_base.specs.declared.limits.TheConstants.{MAX_HEAPS}
use Rattle.hp_base.specs.declared.pool_line.PoolLine.{PoolLine}
use Rattle.hp_base.specs.declared.row.Row.{Row}
use Rattle.hp_external.proofs.ChunkLemmas.{one_of_list}
use Rattle.hp_external.proofs.ListLemmas.{filter_none}
use Rattle.hp_external.proofs.RowLemmas.{claimed_rows, own_rows}
use Rattle.hp_external.specs.Tie.{AreClaimed, AreListed, AreMarked, IsMarked, IsOfClaim, claim_of, is_memory, is_range_of}
use Rattle.hp_hall.proofs.ClaimedChunks.{agreed_claimed, chunk_named}
use Rattle.hp_hall.specs.AgreedNames.{AreAgreedNames, IsNamedBy, chunk_memory, directory_name, directory_range}
use Rattle.hp_hall.specs.Naming.{Naming, marked_by, naming_of, unmarked}
use Rattle.hp_heap.proofs.HistoryFacts.Counting.{count_by-cons}
use Rattle.hp_heap.proofs.AllocFacts.ChoiceLaw.{Contains-filter}
use Rattle.hp_heap.proofs.Members.{AllByRecursion-each, Contains-image, Contains-imaged, Contains-kept, count_map, filter_implied, filter_swapped}
use Rattle.hp_heap.specs.History.{HeapView, IsSound}
use Rattle.hp_heap.specs.PlainHeap.{PlainHeap, opening_heap}
use Rattle.hp_heap.specs.Tiling.{IsTiled}
use Rattle.hp_maps.specs.Chunks.{is_of_chunk, rows_of_chunk}
use Rattle.hp_maps.specs.MapsView.{chunk_rows, is_of_log}
use Rattle.hp_segs.specs.declared.external_range.ExternalRange.{ExternalRange}
use Rattle.hp_serve.specs.Tied.{HasChunks}
use Rattle.hp_zone.specs.Directory.{IsDirectory, PlainDirectory, directory_after, heap_at, opening}
use Rattle.hp_zone.specs.declared.heap_name.HeapName.{HeapName}
use Rattle.hp_zone.specs.declared.heap_name.HeapRange.{HeapRange}
use Rattle.hp_zone.specs.declared.names.Names.{Names as NamesView}
use Rattle.hp_plain.specs.Opening.{namings_of}
use Rattle.hp_proc.proofs.ReleasedMemory.{one_heap}
use Rattle.hp_proc.specs.Handing.{shared_of}
use Rattle.hp_proc.specs.Heaps.{sockets_of}
use Rattle.hp_proc.specs.NamesAtEnd.{AreClaimsOf, called, chunks_at}
use Rattle.hp_proc.specs.SharedNames.{directory_in}
use Rattle.thm_run.proofs.PathSteps.Walked.{get_there}

-- COUNTS

-- what passes two tests is counted by the second one among what passes the first
count_both : {X : Type 0} (p q : X → Bool) (xs : List X) → count_by (λ x. p x && q x) xs ≡ count_by q (filter p xs)
count_both p q [] = refl
count_both {X} p q (x ∷ xs) =
    let both : X → Bool = λ x. p x && q x in
    cond_both (p x) (x ∷ filter p xs) (filter p xs) (λ zs. count_by both (x ∷ xs) ≡ count_by q zs)
    (λ kept.
    let weight : cond {A = ℕ} (p x && q x) 1 0 ≡ cond (q x) 1 0 = ap (λ (b : Bool). cond {A = ℕ} (b && q x) 1 0) kept in
    omega (arith, count_by-cons both x xs, count_by-cons q x (filter p xs), weight, count_both p q xs))
    (λ fails.
    let weight : cond {A = ℕ} (p x && q x) 1 0 ≡ 0 = ap (λ (b : Bool). cond {A = ℕ} (b && q x) 1 0) fails in
    omega (arith, count_by-cons both x xs, weight, count_both p q xs))

-- THE HEAPS' NAMES AND CHUNKS

pub called_is : (heap : PlainHeap) → directory_name (naming_of heap) ≡ called heap
unfolding naming_of
called_is heap = refl

pub chunks_are : (heap : PlainHeap) → (naming_of heap).chunks ≡ map unmarked heap.chunks
unfolding naming_of
chunks_are heap = refl

marks_are : (who : ℕ) (heap : PlainHeap) → marked_by who heap ≡ map unmarked (filter (λ chunk. has_bit chunk.attached who) heap.chunks)
unfolding marked_by
marks_are who heap = refl

-- a row of a chunk is of its list
row_list : (chunk : Chunk) (row : Row) → Contains (rows_of_chunk chunk) row → row.list ≡ chunk.list
row_list chunk row has =
    let passes =
    Contains-filter (is_of_chunk chunk) (rows_of_chunk chunk) row (subst (λ (l : List Row). Contains l row) (sym (own_rows chunk)) has) in
    eqb-true row.list chunk.list (and_parts (eqb row.generation 0) (eqb row.list chunk.list) passes.0).1

-- a chunk's memory is that of what names speak of
memory_is : (chunks : List Chunk) → map claim_of chunks ≡ map chunk_memory (map unmarked chunks)
memory_is [] = refl
memory_is (chunk ∷ chunks) = ap (λ (rest : List ExternalRange). claim_of chunk ∷ rest) (memory_is chunks)

flat_alike : (f g : ℕ → List ExternalRange) (xs : List ℕ) → ((x : ℕ) → f x ≡ g x) → flat_map f xs ≡ flat_map g xs
flat_alike f g [] same = refl
flat_alike f g (x ∷ xs) same = ap₂ (λ (here rest : List ExternalRange). here ++ rest) (same x) (flat_alike f g xs same)

-- names by their logs leave the directory
pub directory_is : (pools : List PoolLine) (names : NamesView) → IsDirectory names.heaps → names.heaps.sockets ≡ sockets_of pools
    → directory_in pools (shared_of names) ≡ names.heaps.plain
directory_is pools names sound sockets =
    ap (λ (sockets : List ℕ). directory_after (opening sockets) names.heaps.log) (sym sockets) ∙ sym sound.replayed

-- each range of the heap's index is one of its chunks
pub listed_so : (ranges : List HeapRange) (index : ℕ) (heap : PlainHeap) → heap.index ≡ index
    → IsPermutation (filter (λ range. range.index == index) ranges) (map (directory_range index) (naming_of heap).chunks) → AreListed ranges heap
listed_so ranges index heap its moved addr len page =
    let q : HeapRange → Bool = λ range. (range.addr == addr) && ((range.len == len) && (range.page == page)) in
    let here : List HeapRange = filter (λ range. range.index == index) ranges in
    let all : List HeapRange = map (directory_range index) (map unmarked heap.chunks) in
    let same : IsPermutation here all =
    subst (λ (chunks : List Chunk). IsPermutation here (map (directory_range index) chunks)) (chunks_are heap) moved in
    ap (λ (n : ℕ). count_by (is_range_of n addr len page) ranges) its
    ∙ (count_both (λ (range : HeapRange). range.index == index) q ranges
    ∙ (sym (sum_by-IsPermutation (λ range. cond (q range) 1 0) here all same)
    ∙ (count_map (directory_range index) q (map unmarked heap.chunks)
    ∙ count_map unmarked (λ (chunk : Chunk). q (directory_range index chunk)) heap.chunks)))

module _ (names : NamesView) (heaps : List HeapView) (claims : List ExternalRange) (count : length heaps ≡ MAX_HEAPS)
    (agreed : AreAgreedNames names (namings_of heaps) claims) where
  pub naming_at : (index : ℕ) (heap : HeapView) → slice_get heaps index ≡ Some heap → namings_of heaps index ≡ naming_of heap.plain
  naming_at index heap there =
      ap (λ (found : Option HeapView). option_map_or (λ heap. naming_of heap.plain) found (naming_of (opening_heap index None))) there

  low : (index : ℕ) (heap : HeapView) → slice_get heaps index ≡ Some heap → index < MAX_HEAPS
  low index heap there = omega (arith, slice_get_within heaps index heap there, count)

  -- the directory says how each heap is called
  pub names_are : (index : ℕ) → index < MAX_HEAPS
      → heap_at names.heaps.plain index ≡ option_and_then (λ heap. called heap.plain) (slice_get heaps index)
  names_are index below =
      let found = get_there heaps index (omega (arith, below, count)) in
      (agreed.each index below).name
      ∙ (ap directory_name (naming_at index found.0 found.1)
      ∙ (called_is found.0.plain
      ∙ ap (λ (heap : Option HeapView). option_and_then (λ heap. called heap.plain) heap) (sym found.1)))

  -- and lists its chunks
  pub lists_are : (index : ℕ) (heap : HeapView) → slice_get heaps index ≡ Some heap → heap.plain.index ≡ index
      → AreListed names.heaps.plain.ranges heap.plain
  lists_are index heap there its =
      listed_so names.heaps.plain.ranges index heap.plain its
      (subst (λ (naming : Naming). IsPermutation (filter (λ range. range.index == index) names.heaps.plain.ranges)
      (map (directory_range index) naming.chunks)) (naming_at index heap there) (agreed.each index (low index heap there)).ranges)

  named : (index : ℕ) (heap : HeapView) (chunk : Chunk) → slice_get heaps index ≡ Some heap → Contains heap.plain.chunks chunk
      → Contains (namings_of heaps index).chunks (unmarked chunk)
  named index heap chunk there has =
      subst (λ (naming : Naming). Contains naming.chunks (unmarked chunk)) (sym (naming_at index heap there)) (chunk_named heap.plain chunk has)

  -- each of which is claimed
  chunk_claimed : (index : ℕ) (heap : HeapView) (chunk : Chunk) → slice_get heaps index ≡ Some heap → Contains heap.plain.chunks chunk
      → Contains claims (claim_of chunk)
  chunk_claimed index heap chunk there has =
      agreed_claimed names (namings_of heaps) claims agreed index (unmarked chunk) (low index heap there) (named index heap chunk there has)

  pub all_claimed : (index : ℕ) (heap : HeapView) → slice_get heaps index ≡ Some heap → AreClaimed claims heap.plain.chunks
  all_claimed index heap there =
      AllByRecursion-each (λ (chunk : Chunk). Contains claims (claim_of chunk)) heap.plain.chunks (λ chunk has. chunk_claimed index heap chunk there has)

  -- and no other memory is
  memory_at : (index : ℕ) (heap : Option HeapView) → slice_get heaps index ≡ heap
      → map claim_of (option_map_or (λ (heap : HeapView). heap.plain.chunks) heap [])
      ≡ map chunk_memory (option_map_or (λ (heap : HeapView). naming_of heap.plain) heap (naming_of (opening_heap index None))).chunks
  unfolding naming_of
  memory_at index None is = refl
  memory_at index (Some heap) is = memory_is heap.plain.chunks

  pub claims_are : AreClaimsOf heaps claims
  claims_are =
      subst (λ (memory : List ExternalRange). IsPermutation memory claims)
      (sym (flat_alike (λ index. map claim_of (chunks_at heaps index)) (λ index. map chunk_memory (namings_of heaps index).chunks)
      (range_with_len 0 MAX_HEAPS) (λ index. memory_at index (slice_get heaps index) refl))) agreed.claims

  -- WHO HAS ATTACHED WHAT

  module _ (distinct : (list : ℕ) → count_by (λ range. eqb range.list list) claims ≤ 1)
      (memory : (range : ExternalRange) → Contains claims range → IsExternalMemory range.addr range.len range.page)
      (tiled : (index : ℕ) (heap : HeapView) → slice_get heaps index ≡ Some heap → IsTiled heap.plain) (who : ℕ) (marked : ℕ → List Chunk)
      (marks : (index : ℕ) (heap : HeapView) → slice_get heaps index ≡ Some heap → marked_by who heap.plain ≡ marked index) (rows : List Row)
      (has : HasChunks marked (chunk_rows rows)) where
    -- a marked chunk is one of its heap
    record IsMarkedIn (index : ℕ) (chunk : Chunk) : Type 0 where
      heap : HeapView
      there : slice_get heaps index ≡ Some heap
      its : Chunk
      among : Contains heap.plain.chunks its
      bit : has_bit its.attached who ≡ true
      is : unmarked its ≡ chunk

    marked_in_heap : (index : ℕ) (chunk : Chunk) → index < MAX_HEAPS → Contains (marked index) chunk → IsMarkedIn index chunk
    marked_in_heap index chunk below contains =
        let found = get_there heaps index (omega (arith, below, count)) in
        let image =
        Contains-imaged unmarked (filter (λ (chunk : Chunk). has_bit chunk.attached who) found.0.plain.chunks) chunk
        (subst (λ (chunks : List Chunk). Contains chunks chunk) (sym (marks index found.0 found.1) ∙ marks_are who found.0.plain) contains) in
        let kept = Contains-filter (λ (chunk : Chunk). has_bit chunk.attached who) found.0.plain.chunks image.0 image.1 in
        record { heap = found.0; there = found.1; its = image.0; among = kept.1; bit = kept.0; is = image.2 }

    -- a row of a chunk's list stands beside the table
    beside_table : (chunk : Chunk) (row : Row) → is_of_chunk chunk row ≡ true → not (is_of_log row) ≡ true
    beside_table chunk row its =
        let parts = and_parts (eqb row.generation 0) (eqb row.list chunk.list) its in
        ap (λ (n : ℕ). not (nat_lt 0 n)) (eqb-true row.generation 0 parts.0)

    rows_of_it : (chunk : Chunk) → filter (is_of_chunk chunk) rows ≡ filter (is_of_chunk chunk) (chunk_rows rows)
    rows_of_it chunk =
        sym (filter_implied (is_of_chunk chunk) (λ row. not (is_of_log row)) rows
        (AllByRecursion-each (λ (row : Row). is_of_chunk chunk row ≡ true → not (is_of_log row) ≡ true) rows (λ row there. beside_table chunk row)))
        ∙ filter_swapped (λ row. not (is_of_log row)) (is_of_chunk chunk) rows

    module _ (index : ℕ) (heap : HeapView) (there : slice_get heaps index ≡ Some heap) (chunk : Chunk) (among : Contains heap.plain.chunks chunk)
      where
        -- a chunk with the mark has its rows
        with_mark : has_bit chunk.attached who ≡ true → filter (is_of_chunk chunk) rows ≡ rows_of_chunk chunk
        with_mark bit =
            let contains : Contains (marked index) (unmarked chunk) =
            subst (λ (chunks : List Chunk). Contains chunks (unmarked chunk)) (sym (marks_are who heap.plain) ∙ marks index heap there)
            (Contains-image unmarked (filter (λ (chunk : Chunk). has_bit chunk.attached who) heap.plain.chunks) chunk
            (Contains-kept (λ (chunk : Chunk). has_bit chunk.attached who) heap.plain.chunks chunk bit among)) in
            rows_of_it chunk
            ∙ All-contains (λ (c : Chunk). filter (is_of_chunk c) (chunk_rows rows) ≡ rows_of_chunk c) (marked index) (unmarked chunk)
            (has.each index (low index heap there)) contains

        -- and one without it has none
        none_of_it : has_bit chunk.attached who ≡ false → (row : Row) → Contains (chunk_rows rows) row → is_of_chunk chunk row ≡ true → ⊥
        none_of_it bit row contains its =
            let parts = and_parts (eqb row.generation 0) (eqb row.list chunk.list) its in
            let one = has.only row contains in
            let other = marked_in_heap one.0 one.1 one.2 one.3 in
            let list : one.1.list ≡ chunk.list = sym (row_list one.1 row one.4) ∙ eqb-true row.list chunk.list parts.1 in
            let here : one.0 ≡ index =
            one_heap names (namings_of heaps) claims agreed distinct one.0 index (unmarked other.its) (unmarked chunk) one.2 (low index heap there)
            (named one.0 other.heap other.its other.there other.among) (named index heap chunk there among)
            (ap (λ (c : Chunk). c.list) other.is ∙ list) in
            let same : other.heap ≡ heap = same_Some other.heap heap (sym other.there ∙ (ap (slice_get heaps) here ∙ there)) in
            let equal : other.its ≡ chunk =
            one_of_list heap.plain (tiled index heap there) chunk among other.its
            (subst (λ (h : HeapView). Contains h.plain.chunks other.its) same other.among) (ap (λ (c : Chunk). c.list) other.is ∙ list) in
            let wrong : true ≡ false = sym other.bit ∙ (ap (λ (c : Chunk). has_bit c.attached who) equal ∙ bit) in
            cc

        without_mark : has_bit chunk.attached who ≡ false → filter (is_of_chunk chunk) rows ≡ []
        without_mark bit =
            rows_of_it chunk
            ∙ filter_none (is_of_chunk chunk) (chunk_rows rows)
            (AllByRecursion-each (λ (row : Row). is_of_chunk chunk row ≡ false) (chunk_rows rows)
            (λ row contains. by_test (is_of_chunk chunk row) (none_of_it bit row contains)))
          where
            by_test : (its : Bool) → (its ≡ true → ⊥) → its ≡ false
            by_test true never = absurd (never refl)
            by_test false never = refl

        is_marked : IsMarked who rows chunk
        is_marked = by_bit (has_bit chunk.attached who) refl
          where
            by_bit : (bit : Bool) → has_bit chunk.attached who ≡ bit → filter (is_of_chunk chunk) rows ≡ cond bit (rows_of_chunk chunk) []
            by_bit true its = with_mark its
            by_bit false its = without_mark its

    pub all_marked : (index : ℕ) (heap : HeapView) → slice_get heaps index ≡ Some heap → AreMarked who rows heap.plain.chunks
    all_marked index heap there =
        AllByRecursion-each (IsMarked who rows) heap.plain.chunks (λ chunk among. is_marked index heap there chunk among)

    -- all rows of chunks lie in claimed memory
    claimed_row : (row : Row) → Contains rows row → IsOfClaim claims row
    claimed_row row contains none =
        let kept : Contains (chunk_rows rows) row =
        Contains-kept (λ (row : Row). not (is_of_log row)) rows row (ap (λ (n : ℕ). not (nat_lt 0 n)) none) contains in
        let one = has.only row kept in
        let other = marked_in_heap one.0 one.1 one.2 one.3 in
        let claimed : Contains claims (claim_of one.1) =
        subst (λ (c : Chunk). Contains claims (claim_of c)) other.is (chunk_claimed one.0 other.heap other.its other.there other.among) in
        All-contains (IsOfClaim claims) (rows_of_chunk one.1) row
        (All-from_recursion (IsOfClaim claims) (rows_of_chunk one.1) (claimed_rows one.1 claims (memory (claim_of one.1) claimed) claimed)) one.4 none

    pub all_known : AllByRecursion (IsOfClaim claims) rows
    all_known = AllByRecursion-each (IsOfClaim claims) rows claimed_row
