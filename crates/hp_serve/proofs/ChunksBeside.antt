-- Rows of chunks that are marked for a participant lie beside the lists of a log, where the memory of these chunks is claimed, and are few.
use Rattle.std.proofs.Common.{◌≡◌, ◌∙◌, ℕ, ◌+◌, ◌<◌, ◌≤◌, Bool, true, ◌&&◌, List, [], ◌∷◌, Contains, count_by, filter, length, not, refl, sym, ap, subst, arith, eqb, eq-eqb, inl, inr}
use Rattle.std.specs.List.{All, sum_by}
use Rattle.std.proofs.lemmas.Bool.{and_parts, cases_lt, eqb-true, false≢true}
use Rattle.std.proofs.lemmas.List.Elements.{All-contains, All-contains_itself, All-weaker}
use Rattle.std.proofs.lemmas.List.Filters.{length-filter_both}
use Rattle.std.proofs.lemmas.List.Sums.{length-filter, sum_by-cons, sum_by-le-sum_by}
use Rattle.hp_base.specs.ExternalMemory.{IsExternalMemory}
use Rattle.hp_base.proofs.MemoryLemmas.{good_memory}
use Rattle.hp_base.specs.Mapping.{AreApart}
use Rattle.hp_base.specs.declared.chunk.Chunk.{Chunk}
use Rattle.hp_base.specs.declared.limits.TheConstants.{MAX_HEAPS}
use Rattle.hp_base.specs.declared.row.Row.{Row}
use Rattle.hp_external.proofs.RowLemmas.{claimed_rows, own_rows}
use Rattle.hp_external.specs.Tie.{IsClaimedRow, IsOfClaim}
use Rattle.hp_hall.specs.AgreedNames.{chunk_memory}
use Rattle.hp_heap.proofs.AllocFacts.ChoiceLaw.{AllByRecursion-contains, Contains-cases, Contains-filter, Contains-here, Contains-none, Contains-there}
use Rattle.hp_heap.proofs.Members.{AllByRecursion-each, count_alike, count_fewer, counted_once, counted_some}
use Rattle.hp_log.specs.Places.{IsOutside}
use Rattle.hp_maps.specs.Chunks.{is_of_chunk, rows_of_chunk}
use Rattle.hp_maps.specs.Ready.{AreBeside}
use Rattle.hp_maps.proofs.ChunkLemmas.{chunk_length}
use Rattle.hp_segs.specs.LogPlaces.{places_of}
use Rattle.hp_segs.specs.Ranges.{range_segments}
use Rattle.hp_segs.specs.SegsView.{SegsView}
use Rattle.hp_segs.specs.Sound.{IsSound}
use Rattle.hp_segs.specs.SoundPlaces.{IsRange}
use Rattle.hp_segs.specs.declared.external_range.ExternalRange.{ExternalRange}
use Rattle.hp_serve.specs.Tied.{HasChunks}

-- a list has as many elements as pass one of some tests at most, where each of them passes one
module _ {X Y : Type 0} (test : Y → X → Bool) where
  parted : (y : Y) (xs : List X) → length xs ≡ count_by (test y) xs + length (filter (λ x. not (test y x)) xs)
  parted y xs = sym (length-filter_both (test y) (λ x. not (test y x)) (λ x. refl) xs) ∙ ap (λ (n : ℕ). n + length (filter (λ x. not (test y x)) xs)) (length-filter (test y) xs)

  none_left : (xs : List X) → ((x : X) → Contains xs x → ⊥) → length xs ≡ 0
  none_left [] none = refl
  none_left (x ∷ xs) none = absurd (none x (Contains-here x xs))

  pub within_tests : (ys : List Y) (xs : List X) → ((x : X) → Contains xs x → (y : Y) × Contains ys y × (test y x ≡ true))
      → length xs ≤ sum_by (λ y. count_by (test y) xs) ys
  within_tests [] xs each = omega (arith, none_left xs (λ x has. Contains-none (each x has).0 (each x has).1))
  within_tests (y ∷ ys) xs each =
      let rest : List X = filter (λ x. not (test y x)) xs in
      let later : length rest ≤ sum_by (λ z. count_by (test z) rest) ys =
      within_tests ys rest (λ x has.
      (let found = Contains-filter (λ x. not (test y x)) xs x has in
      let its = each x found.1 in
      elim (Contains-cases y its.0 ys its.1) [
        | inl same ↦ absurd (let wrong : test y x ≡ true = ap (λ z. test z x) same ∙ its.2 in false≢true (sym (ap not wrong) ∙ found.0))
        | inr there ↦ (its.0, there, its.2)
      ])) in
      let fewer : sum_by (λ z. count_by (test z) rest) ys ≤ sum_by (λ z. count_by (test z) xs) ys =
      sum_by-le-sum_by (λ z. count_by (test z) rest) (λ z. count_by (test z) xs) ys (λ z. count_fewer (λ x. not (test y x)) (test z) xs) in
      omega (arith, parted y xs, later, fewer, sum_by-cons (λ z. count_by (test z) xs) y ys)

-- a sum of larger terms is larger
sums_below : {X : Type 0} (f g : X → ℕ) (xs : List X) → ((x : X) → Contains xs x → f x ≤ g x) → sum_by f xs ≤ sum_by g xs
sums_below f g [] each = omega arith
sums_below f g (x ∷ xs) each =
    omega (
      arith,
      sum_by-cons f x xs,
      sum_by-cons g x xs,
      each x (Contains-here x xs),
      sums_below f g xs (λ y has. each y (Contains-there x y xs has)),
    )

-- external memory that a segment value has claimed is external memory
pub memory_of : (range : ExternalRange) → IsRange range → IsExternalMemory range.addr range.len range.page
memory_of range is = good_memory range.addr range.len range.page is.good

-- a row of a chunk is of its list and has generation 0
pub record IsRowOf (chunk : Chunk) (row : Row) : Type 0 where
  pub generation : row.generation ≡ 0
  pub list : row.list ≡ chunk.list

pub row_of_its : (chunk : Chunk) (row : Row) → Contains (rows_of_chunk chunk) row → IsRowOf chunk row
row_of_its chunk row has =
    let passes = Contains-filter (is_of_chunk chunk) (rows_of_chunk chunk) row (subst (λ (l : List Row). Contains l row) (sym (own_rows chunk)) has) in
    let parts = and_parts (eqb row.generation 0) (eqb row.list chunk.list) passes.0 in
    record { generation = eqb-true row.generation 0 parts.0; list = eqb-true row.list chunk.list parts.1 }

module _ (segs : SegsView) (marked : ℕ → List Chunk) (held : List Row) (sound : IsSound segs) (has : HasChunks marked held)
    (claimed : (heap : ℕ) (chunk : Chunk) → heap < MAX_HEAPS → Contains (marked heap) chunk → Contains segs.ranges (chunk_memory chunk)) where
  -- a row is that of a chunk whose memory is claimed
  pub record IsHeldOf (row : Row) : Type 0 where
    pub heap : ℕ
    pub few : heap < MAX_HEAPS
    pub chunk : Chunk
    pub mark : Contains (marked heap) chunk
    pub memory : Contains segs.ranges (chunk_memory chunk)
    pub its : IsRowOf chunk row
    pub all : filter (is_of_chunk chunk) held ≡ rows_of_chunk chunk
    pub claim : IsClaimedRow segs.ranges row

  pub held_of : (row : Row) → Contains held row → IsHeldOf row
  held_of row there =
      let one = has.only row there in
      let chunk : Chunk = one.1 in
      let memory = claimed one.0 chunk one.2 one.3 in
      let external : IsExternalMemory chunk.addr chunk.len chunk.page =
      memory_of (chunk_memory chunk) (All-contains IsRange segs.ranges (chunk_memory chunk) sound.places.external.each memory) in
      let its = row_of_its chunk row one.4 in
      record {
        heap = one.0;
        few = one.2;
        chunk = chunk;
        mark = one.3;
        memory = memory;
        its = its;
        all = All-contains (λ (c : Chunk). filter (is_of_chunk c) held ≡ rows_of_chunk c) (marked one.0) chunk (has.each one.0 one.2) one.3;
        claim = AllByRecursion-contains (IsOfClaim segs.ranges) (rows_of_chunk chunk) row (claimed_rows chunk segs.ranges external memory) one.4
            its.generation;
      }

  -- of each claimed range they are as many as that has pages at most
  within_range : (range : ExternalRange) → Contains segs.ranges range → count_by (λ row. eqb row.list range.list) held ≤ range_segments range
  within_range range there = elim (cases_lt 0 (count_by (λ row. eqb row.list range.list) held)) [
    | inr none ↦ omega (arith, none)
    | inl some ↦ (let found = counted_some (λ row. eqb row.list range.list) held some in
        let one = held_of found.0 found.1.1 in
        let same : chunk_memory one.chunk ≡ range =
        counted_once (λ (r : ExternalRange). eqb r.list range.list) segs.ranges (chunk_memory one.chunk) range (sound.places.external.distinct range.list)
        (eq-eqb one.chunk.list range.list (sym one.its.list ∙ eqb-true found.0.list range.list found.1.0), one.memory)
        (eq-eqb range.list range.list refl, there) in
        let alike : count_by (λ row. eqb row.list range.list) held ≡ count_by (is_of_chunk one.chunk) held =
        count_alike (λ row. eqb row.list range.list) (is_of_chunk one.chunk) held
        (AllByRecursion-each (λ row. eqb row.list range.list ≡ is_of_chunk one.chunk row) held (λ row among.
        (let its = held_of row among in
        ap (λ (n : ℕ). eqb row.list n) (sym (ap (λ (r : ExternalRange). r.list) same))
        ∙ sym (ap (λ (b : Bool). b && eqb row.list one.chunk.list) (eq-eqb row.generation 0 its.its.generation))))) in
        omega (
          arith,
          alike,
          length-filter (is_of_chunk one.chunk) held,
          ap (λ (l : List Row). length l) one.all,
          chunk_length one.chunk,
          ap range_segments same,
        ))
  ]

  pub chunks_few : length held ≤ sum_by range_segments segs.ranges
  chunks_few =
      let parts : length held ≤ sum_by (λ range. count_by (λ row. eqb row.list range.list) held) segs.ranges =
      within_tests (λ (range : ExternalRange) (row : Row). eqb row.list range.list) segs.ranges held (λ row among.
      (let one = held_of row among in (chunk_memory one.chunk, one.memory, eq-eqb row.list one.chunk.list one.its.list))) in
      let fewer : sum_by (λ range. count_by (λ row. eqb row.list range.list) held) segs.ranges ≤ sum_by range_segments segs.ranges =
      sums_below (λ range. count_by (λ row. eqb row.list range.list) held) range_segments segs.ranges within_range in
      omega (arith, parts, fewer)

  pub chunks_beside : All (λ range. (addr : ℕ) → range.addr ≤ addr → addr < range.addr + range.len → IsOutside (places_of segs.pools) addr) segs.ranges
      → AreApart held → AreBeside (places_of segs.pools) held
  chunks_beside outside apart = record {
    outside =
        All-weaker (Contains held) (λ row. IsOutside (places_of segs.pools) row.addr)
        (λ row among.
        (let claim = (held_of row among).claim in
        All-contains
        (λ (range : ExternalRange). (addr : ℕ) → range.addr ≤ addr → addr < range.addr + range.len → IsOutside (places_of segs.pools) addr) segs.ranges
        claim.claim outside claim.there row.addr claim.from claim.within)) held (All-contains_itself held);
    apart = apart;
  }
