-- The rows of chunks are those of the marked ones still, once one more is marked and its rows have come, and once one is not and its rows have gone.
use Rattle.std.proofs.Common.{◌≡◌, ◌≢◌, ◌⊎◌, ◌∙◌, ℕ, ◌<◌, Bool, true, false, List, ◌++◌, Contains, append-nil, filter, not, sym, ap, subst, eqb, eq-eqb, inl, inr, ⊎_elim, true≢false}
use Rattle.std.proofs.lemmas.Bool.{and_from, and_right, cases_eq, ne_eqb}
use Rattle.std.proofs.lemmas.List.Elements.{All-contains, All-contains_itself, All-weaker, Contains-append_cases, filter-append}
use Rattle.hp_base.specs.declared.chunk.Chunk.{Chunk}
use Rattle.hp_base.specs.declared.limits.TheConstants.{MAX_HEAPS}
use Rattle.hp_base.specs.declared.row.Row.{Row}
use Rattle.hp_external.proofs.ListLemmas.{filter_none}
use Rattle.hp_external.proofs.RowLemmas.{other_rows, own_rows, row_of_one}
use Rattle.hp_heap.proofs.AllocFacts.ChoiceLaw.{Contains-filter}
use Rattle.hp_heap.proofs.Members.{AllByRecursion-each, filter_implied, filter_swapped}
use Rattle.hp_maps.specs.Chunks.{is_of_chunk, rows_beside, rows_of_chunk}
use Rattle.hp_serve.proofs.ChunksBeside.{row_of_its}
use Rattle.hp_serve.specs.Tied.{HasChunks}

module _ (marked after : ℕ → List Chunk) (rows : List Row) (index : ℕ) (chunk : Chunk) (has : HasChunks marked rows)
    (others : (heap : ℕ) → heap ≢ index → after heap ≡ marked heap) where
  -- ONE MORE IS MARKED, under a list that no marked chunk has

  module _ (low : index < MAX_HEAPS)
      (apart : (heap : ℕ) (other : Chunk) → heap < MAX_HEAPS → Contains (marked heap) other → other.list ≢ chunk.list)
      (came : (other : Chunk) → Contains (after index) other → Contains (marked index) other ⊎ (other ≡ chunk))
      (kept : (other : Chunk) → Contains (marked index) other → Contains (after index) other) (its : Contains (after index) chunk) where
    fresh : (row : Row) → Contains rows row → is_of_chunk chunk row ≡ false
    fresh row among =
        let one = has.only row among in
        let of_it = row_of_its one.1 row one.4 in
        and_right (eqb row.generation 0) (eqb row.list chunk.list)
        (ne_eqb row.list chunk.list (λ same. apart one.0 one.1 one.2 one.3 (sym of_it.list ∙ same)))

    kept_in : (heap : ℕ) (other : Chunk) → Contains (marked heap) other → Contains (after heap) other
    kept_in heap other there =
        ⊎_elim
        (λ (same : heap ≡ index).
        subst (λ (h : ℕ). Contains (after h) other) (sym same) (kept other (subst (λ (h : ℕ). Contains (marked h) other) same there)))
        (λ (away : heap ≢ index). subst (λ (l : List Chunk). Contains l other) (sym (others heap away)) there) (cases_eq heap index)

    -- a marked chunk was so before, or is the one that came, in its heap
    abbrev IsOldOrNew : ℕ → Chunk → Type 0
    IsOldOrNew heap other = Contains (marked heap) other ⊎ ((other ≡ chunk) × (heap ≡ index))

    came_in : (heap : ℕ) (other : Chunk) → Contains (after heap) other → IsOldOrNew heap other
    came_in heap other there =
        ⊎_elim
        (λ (same : heap ≡ index).
        ⊎_elim (λ (old : Contains (marked index) other). inl (subst (λ (h : ℕ). Contains (marked h) other) (sym same) old))
        (λ (new : other ≡ chunk). inr (new, same)) (came other (subst (λ (h : ℕ). Contains (after h) other) same there)))
        (λ (away : heap ≢ index). inl (subst (λ (l : List Chunk). Contains l other) (others heap away) there)) (cases_eq heap index)

    rows_of_one : (heap : ℕ) (other : Chunk) → heap < MAX_HEAPS → IsOldOrNew heap other
        → filter (is_of_chunk other) (rows ++ rows_of_chunk chunk) ≡ rows_of_chunk other
    rows_of_one heap other below (inl old) =
        filter-append (is_of_chunk other) rows (rows_of_chunk chunk)
        ∙ (ap (λ (l : List Row). l ++ filter (is_of_chunk other) (rows_of_chunk chunk))
        (All-contains (λ (c : Chunk). filter (is_of_chunk c) rows ≡ rows_of_chunk c) (marked heap) other (has.each heap below) old)
        ∙ (ap (λ (l : List Row). rows_of_chunk other ++ l) (other_rows chunk other (apart heap other below old)) ∙ append-nil (rows_of_chunk other)))
    rows_of_one heap other below (inr new) =
        subst (λ (c : Chunk). filter (is_of_chunk c) (rows ++ rows_of_chunk chunk) ≡ rows_of_chunk c) (sym new.0)
        (filter-append (is_of_chunk chunk) rows (rows_of_chunk chunk)
        ∙ (ap (λ (l : List Row). l ++ filter (is_of_chunk chunk) (rows_of_chunk chunk))
        (filter_none (is_of_chunk chunk) rows (AllByRecursion-each (λ (row : Row). is_of_chunk chunk row ≡ false) rows fresh)) ∙ own_rows chunk))

    one_list : (heap next : ℕ) (first second : Chunk) → heap < MAX_HEAPS → next < MAX_HEAPS → IsOldOrNew heap first → IsOldOrNew next second
        → first.list ≡ second.list → heap ≡ next
    one_list heap next first second below few (inl old) (inl also) same = has.distinct heap next first second below few old also same
    one_list heap next first second below few (inl old) (inr new) same = absurd (apart heap first below old (same ∙ ap (λ (c : Chunk). c.list) new.0))
    one_list heap next first second below few (inr new) (inl old) same = absurd (apart next second few old (sym same ∙ ap (λ (c : Chunk). c.list) new.0))
    one_list heap next first second below few (inr new) (inr also) same = new.1 ∙ sym also.1

    pub has_attached : HasChunks after (rows ++ rows_of_chunk chunk)
    has_attached = record {
      each = λ heap below.
          All-weaker (Contains (after heap)) (λ (other : Chunk). filter (is_of_chunk other) (rows ++ rows_of_chunk chunk) ≡ rows_of_chunk other)
          (λ other there. rows_of_one heap other below (came_in heap other there)) (after heap) (All-contains_itself (after heap));
      only = λ row among. elim (Contains-append_cases rows (rows_of_chunk chunk) row among) [
        | inl old ↦ (let one = has.only row old in (one.0, one.1, one.2, kept_in one.0 one.1 one.3, one.4))
        | inr new ↦ (index, chunk, low, its, new)
      ];
      distinct = λ heap next first second below few here there same.
          one_list heap next first second below few (came_in heap first here) (came_in next second there) same;
    }

  -- ONE IS MARKED NO LONGER, and it was the one of its list in its heap

  module _ (low : index < MAX_HEAPS) (was : Contains (marked index) chunk)
      (left : (other : Chunk) → Contains (after index) other → Contains (marked index) other × (other.list ≢ chunk.list))
      (kept : (other : Chunk) → Contains (marked index) other → other.list ≢ chunk.list → Contains (after index) other) where
    -- what is marked still was so before, under another list
    left_in : (heap : ℕ) (other : Chunk) → heap < MAX_HEAPS → Contains (after heap) other → Contains (marked heap) other × (other.list ≢ chunk.list)
    left_in heap other below there =
        ⊎_elim
        (λ (same : heap ≡ index).
        (let its = left other (subst (λ (h : ℕ). Contains (after h) other) same there) in
        (subst (λ (h : ℕ). Contains (marked h) other) (sym same) its.0, its.1)))
        (λ (away : heap ≢ index).
        (let before : Contains (marked heap) other = subst (λ (l : List Chunk). Contains l other) (others heap away) there in
        (before, λ (same : other.list ≡ chunk.list). away (has.distinct heap index other chunk below low before was same)))) (cases_eq heap index)

    kept_still : (heap : ℕ) (other : Chunk) → Contains (marked heap) other → other.list ≢ chunk.list → Contains (after heap) other
    kept_still heap other there differs =
        ⊎_elim
        (λ (same : heap ≡ index).
        subst (λ (h : ℕ). Contains (after h) other) (sym same) (kept other (subst (λ (h : ℕ). Contains (marked h) other) same there) differs))
        (λ (away : heap ≢ index). subst (λ (l : List Chunk). Contains l other) (sym (others heap away)) there) (cases_eq heap index)

    abbrev is_beside : Row → Bool
    is_beside row = not (is_of_chunk chunk row)

    beside_it : (row : Row) → row.generation ≡ 0 → row.list ≡ chunk.list → is_beside row ≡ true → ⊥
    beside_it row generation list beside =
        true≢false (sym beside ∙ ap not (and_from (eqb row.generation 0) (eqb row.list chunk.list) (eq-eqb row.generation 0 generation) (eq-eqb row.list chunk.list list)))

    rows_stay : (heap : ℕ) (other : Chunk) → heap < MAX_HEAPS → Contains (marked heap) other → other.list ≢ chunk.list
        → filter (is_of_chunk other) (rows_beside chunk rows) ≡ rows_of_chunk other
    rows_stay heap other below there differs =
        filter_swapped (is_of_chunk other) is_beside rows
        ∙ (filter_implied (is_of_chunk other) is_beside rows
        (AllByRecursion-each (λ (row : Row). is_of_chunk other row ≡ true → is_beside row ≡ true) rows
        (λ row among its. ap not (row_of_one chunk other row differs its)))
        ∙ All-contains (λ (c : Chunk). filter (is_of_chunk c) rows ≡ rows_of_chunk c) (marked heap) other (has.each heap below) there)

    pub has_left : HasChunks after (rows_beside chunk rows)
    has_left = record {
      each = λ heap below.
          All-weaker (Contains (after heap)) (λ (other : Chunk). filter (is_of_chunk other) (rows_beside chunk rows) ≡ rows_of_chunk other)
          (λ other there. (let its = left_in heap other below there in rows_stay heap other below its.0 its.1)) (after heap) (All-contains_itself (after heap));
      only = λ row among.
          (let found = Contains-filter is_beside rows row among in
          let one = has.only row found.1 in
          let of_it = row_of_its one.1 row one.4 in
          let differs : one.1.list ≢ chunk.list =
          λ (same : one.1.list ≡ chunk.list). beside_it row of_it.generation (of_it.list ∙ same) found.0 in
          (one.0, one.1, one.2, kept_still one.0 one.1 one.3 differs, one.4));
      distinct = λ heap next first second below few here there same.
          has.distinct heap next first second below few (left_in heap first below here).0 (left_in next second few there).0 same;
    }
