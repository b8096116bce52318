-- External memory may be released of a chunk that nobody has attached, of a heap in hand: no other heap has a chunk of it.
use Rattle.std.proofs.Common.{◌≡◌, ◌≢◌, ◌⊎◌, ◌∙◌, ℕ, zero, suc, ◌+◌, ◌<◌, ◌≤◌, Bool, cond, not, List, ◌++◌, Contains, Option, Some, count_by, filter, flat_map, map, refl, sym, ap, subst, arith, eqb, eq-eqb, ne_eqb, inl, inr, ⊎_elim}
use Rattle.std.specs.List.{range_with_len, sum_by}
use Rattle.std.specs.List.Sorted.{IsPermutation}
use Rattle.std.specs.Option.{IsSome}
use Rattle.std.proofs.lemmas.Bool.{cases_eq, cases_lt}
use Rattle.std.proofs.lemmas.List.Sorted.{sum_by-IsPermutation}
use Rattle.std.proofs.lemmas.List.Sums.{sum_by-cons}
use Rattle.hp_base.specs.declared.chunk.Chunk.{Chunk}
use Rattle.hp_base.specs.declared.limits.TheConstants.{MAX_HEAPS}
use Rattle.hp_external.proofs.ChunkLemmas.{one_of_list}
use Rattle.hp_heap.proofs.HistoryFacts.Counting.{count_by-append}
use Rattle.hp_heap.proofs.Members.{Contains-image, Contains-kept, counted_once, some_counted}
use Rattle.hp_heap.specs.History.{HeapView}
use Rattle.hp_heap.specs.Tiling.{IsTiled}
use Rattle.hp_segs.specs.Ranges.{after_release_range}
use Rattle.hp_segs.specs.SegsView.{SegsView}
use Rattle.hp_segs.specs.declared.external_range.ExternalRange.{ExternalRange}
use Rattle.hp_stats.specs.StatViews.{PenView}
use Rattle.hp_zone.specs.declared.names.Names.{Names as NamesView}
use Rattle.hp_hall.proofs.ClaimedChunks.{agreed_claimed, chunk_named}
use Rattle.hp_hall.specs.AgreedNames.{AreAgreedNames, chunk_memory}
use Rattle.hp_hall.specs.Giving.{IsFreeInHand, Knows, MayRelease}
use Rattle.hp_hall.specs.Naming.{Naming, naming_of, unmarked}
use Rattle.hp_hall.specs.declared.kept.Kept.TheVariants.{Heap}

-- numbers that are added up over indexes: each is within the sum, and two of them together
one_within : (f : ℕ → ℕ) (from count i : ℕ) → from ≤ i → i < from + count → f i ≤ sum_by f (range_with_len from count)
one_within f from zero i above below = absurd (omega (arith, above, below))
one_within f from (suc count) i above below = elim (cases_lt from i) [
  | inl later ↦ omega (
    arith,
    one_within f (from + 1) count i (omega (arith, later)) (omega (arith, below)),
    sum_by-cons f from (range_with_len (from + 1) count),
  )
  | inr level ↦ (let same : i ≡ from = omega (arith, above, level) in
      omega (arith, ap f same, sum_by-cons f from (range_with_len (from + 1) count)))
]

two_within : (f : ℕ → ℕ) (from count i j : ℕ) → i < j → from ≤ i → j < from + count → f i + f j ≤ sum_by f (range_with_len from count)
two_within f from zero i j apart above below = absurd (omega (arith, above, below, apart))
two_within f from (suc count) i j apart above below = elim (cases_lt from i) [
  | inl later ↦ omega (
    arith,
    two_within f (from + 1) count i j apart (omega (arith, later)) (omega (arith, below)),
    sum_by-cons f from (range_with_len (from + 1) count),
  )
  | inr level ↦ (let same : i ≡ from = omega (arith, above, level) in
      omega (
        arith,
        ap f same,
        one_within f (from + 1) count j (omega (arith, apart, same)) (omega (arith, below)),
        sum_by-cons f from (range_with_len (from + 1) count),
      ))
]

-- what passes a test in lists that stand one after another
count_pieces : {X : Type 0} (p : X → Bool) (f : ℕ → List X) (from count : ℕ)
    → count_by p (flat_map f (range_with_len from count)) ≡ sum_by (λ i. count_by p (f i)) (range_with_len from count)
count_pieces p f from zero = refl
count_pieces p f from (suc count) =
    let rest : List _ = flat_map f (range_with_len (from + 1) count) in
    omega (
      arith,
      count_by-append p (f from) rest,
      count_pieces p f (from + 1) count,
      sum_by-cons (λ i. count_by p (f i)) from (range_with_len (from + 1) count),
    )

module _ (names : NamesView) (namings : ℕ → Naming) (claims : List ExternalRange) (agreed : AreAgreedNames names namings claims)
    (distinct : (list : ℕ) → count_by (λ range. eqb range.list list) claims ≤ 1) where
  abbrev memory_at : ℕ → List ExternalRange
  memory_at index = map chunk_memory (namings index).chunks

  abbrev is_of : ℕ → ExternalRange → Bool
  is_of list range = eqb range.list list

  -- of a list there is one chunk at most, over all heaps
  counted : (list : ℕ) → sum_by (λ index. count_by (is_of list) (memory_at index)) (range_with_len 0 MAX_HEAPS) ≤ 1
  counted list =
      let all : List ExternalRange = flat_map memory_at (range_with_len 0 MAX_HEAPS) in
      let moved : count_by (is_of list) claims ≡ count_by (is_of list) all = sum_by-IsPermutation (λ range. cond (is_of list range) 1 0) all claims agreed.claims in
      omega (arith, distinct list, moved, count_pieces (is_of list) memory_at 0 MAX_HEAPS)

  some_of : (index : ℕ) (chunk : Chunk) → Contains (namings index).chunks chunk → 0 < count_by (is_of chunk.list) (memory_at index)
  some_of index chunk has =
      some_counted (is_of chunk.list) (memory_at index) (chunk_memory chunk) (eq-eqb chunk.list chunk.list refl)
      (Contains-image chunk_memory (namings index).chunks chunk has)

  apart_of : (h k : ℕ) (c d : Chunk) → h < k → k < MAX_HEAPS → Contains (namings h).chunks c → Contains (namings k).chunks d → c.list ≡ d.list → ⊥
  apart_of h k c d apart below has its same =
      let other : 0 < count_by (is_of c.list) (memory_at k) =
      subst (λ (list : ℕ). 0 < count_by (is_of list) (memory_at k)) (sym same) (some_of k d its) in
      let both : count_by (is_of c.list) (memory_at h) + count_by (is_of c.list) (memory_at k)
      ≤ sum_by (λ index. count_by (is_of c.list) (memory_at index)) (range_with_len 0 MAX_HEAPS) =
      two_within (λ index. count_by (is_of c.list) (memory_at index)) 0 MAX_HEAPS h k apart (omega arith) (omega (arith, below)) in
      omega (arith, some_of h c has, other, both, counted c.list)

  -- so chunks of one list are of one heap
  pub one_heap : (h k : ℕ) (c d : Chunk) → h < MAX_HEAPS → k < MAX_HEAPS → Contains (namings h).chunks c → Contains (namings k).chunks d
      → c.list ≡ d.list → h ≡ k
  one_heap h k c d below few has its same = elim (cases_lt h k) [
    | inl apart ↦ absurd (apart_of h k c d apart few has its same)
    | inr level ↦ elim (cases_lt k h) [
      | inl apart ↦ absurd (apart_of k h d c apart below its has (sym same))
      | inr also ↦ omega (arith, level, also)
    ]
  ]

  module _ (knows : Knows) (index : ℕ) (heap : HeapView) (pen : PenView) (chunk : Chunk) (few : index < MAX_HEAPS)
      (known : (h : ℕ) → h < MAX_HEAPS → (knows.part h).naming ≡ Some (namings h)) (out : knows.taken index ≡ Some (Heap heap pen))
      (held : IsSome (knows.part index).holding) (named : namings index ≡ naming_of heap.plain) (tiled : IsTiled heap.plain)
      (there : Contains heap.plain.chunks chunk) (free : chunk.attached ≡ 0) where
    pub may_release : MayRelease knows (chunk_memory chunk)
    may_release h naming other below its has same =
        let is : naming ≡ namings h = sym (same_some (sym (known h below) ∙ its)) in
        let here : h ≡ index =
        one_heap h index other (unmarked chunk) below few (subst (λ (n : Naming). Contains n.chunks other) is has)
        (subst (λ (n : Naming). Contains n.chunks (unmarked chunk)) (sym named) (chunk_named heap.plain chunk there))
        (ap (λ (r : ExternalRange). r.list) same) in
        subst (λ (n : ℕ). IsFreeInHand (chunk_memory chunk) (knows.taken n) (knows.part n).holding) (sym here) (record {
          heap = heap;
          pen = pen;
          out = out;
          held = held;
          free = λ one among equal.
              ap (λ (c : Chunk). c.attached) (one_of_list heap.plain tiled chunk there one among (ap (λ (r : ExternalRange). r.list) equal)) ∙ free;
        })
      where
        same_some : {a b : Naming} → Some a ≡ Some b → a ≡ b
        same_some same = cc

    -- what goes with the chunk's list is its memory alone
    pub released : (segs : SegsView) → segs.ranges ≡ claims → (range : ExternalRange) → Contains segs.ranges range
        → Contains (after_release_range chunk.list segs).ranges range ⊎ MayRelease knows range
    released segs is range has =
        ⊎_elim
        (λ (same : range.list ≡ chunk.list).
        let claimed : Contains claims (chunk_memory chunk) =
        agreed_claimed names namings claims agreed index (unmarked chunk) few
        (subst (λ (n : Naming). Contains n.chunks (unmarked chunk)) (sym named) (chunk_named heap.plain chunk there)) in
        let one : range ≡ chunk_memory chunk =
        counted_once (is_of chunk.list) claims range (chunk_memory chunk) (distinct chunk.list)
        (eq-eqb range.list chunk.list same, subst (λ (l : List ExternalRange). Contains l range) is has)
        (eq-eqb chunk.list chunk.list refl, claimed) in
        inr (subst (MayRelease knows) (sym one) may_release))
        (λ (apart : range.list ≢ chunk.list).
        inl (Contains-kept (λ (r : ExternalRange). not (eqb r.list chunk.list)) segs.ranges range (ap not (ne_eqb range.list chunk.list apart)) has))
        (cases_eq range.list chunk.list)
