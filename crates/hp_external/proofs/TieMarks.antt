-- The tie stays where a participant attaches a chunk and leaves it.
use Rattle.std.proofs.Common.{◌≡◌, ◌≢◌, ℕ, ◌+◌, Bool, true, false, cond, not, List, [], ◌∷◌, ◌++◌, map, filter, Option, Some, Contains, count_by, refl, sym, ap, subst, ◌∙◌, inl, inr, eqb, append-nil}
use Rattle.std.specs.List.{AllByRecursion}
use Rattle.std.proofs.lemmas.Bool.{cases_Bool, eqb-true, eqb-false}
use Rattle.std.proofs.lemmas.List.Elements.{filter-append}
use Rattle.hp_base.specs.Flags.{has_bit}
use Rattle.hp_base.specs.declared.chunk.Chunk.{Chunk}
use Rattle.hp_base.specs.declared.row.Row.{Row}
use Rattle.hp_heap.specs.ChunkOrder.{AreInOrder}
use Rattle.hp_heap.specs.Chunks.{after_share, after_unshare, chunk_at, is_chunk_at, with_mark, with_marks, without_mark}
use Rattle.hp_heap.specs.PlainHeap.{PlainHeap}
use Rattle.hp_heap.specs.Tiling.{IsTiled}
use Rattle.hp_heap.proofs.AllocFacts.ChoiceLaw.{AllByRecursion-contains}
use Rattle.hp_heap.proofs.Members.{AllByRecursion-each, AllByRecursion-kept, count_alike, count_map, filter_implied, filter_swapped}
use Rattle.hp_heap.proofs.RangeLemmas.{AllByRecursion-append}
use Rattle.hp_maps.specs.Chunks.{is_of_chunk, rows_beside, rows_of_chunk}
use Rattle.hp_segs.specs.declared.external_range.ExternalRange.{ExternalRange}
use Rattle.hp_zone.specs.declared.heap_name.HeapRange.{HeapRange}
use Rattle.hp_external.specs.Tie.{AreClaimed, AreListed, AreMarked, IsMarked, IsOfClaim, IsTiedHeap, claim_of, is_memory}
use Rattle.hp_external.proofs.ChunkLemmas.{among_chunks, at_is_of, its_memory, one_of_list}
use Rattle.hp_external.proofs.ListLemmas.{all_mapped, filter_opposite}
use Rattle.hp_external.proofs.Marks.{mark_other, mark_own, unmark_other, unmark_own}
use Rattle.hp_external.proofs.RowLemmas.{claimed_rows, other_rows, own_rows, row_of_one}

-- a chunk with other marks
abbrev marked : (ℕ → ℕ) → Chunk → Chunk
marked marks chunk = record chunk { attached = marks chunk.attached }

-- what is said of a chunk with other marks, and of one that stays, is said of the one or the other
by_marks : (P : Chunk → Type 0) (marks : ℕ → ℕ) (chunk : Chunk) (b : Bool) → (b ≡ true → P (marked marks chunk)) → (b ≡ false → P chunk)
    → P (cond b (marked marks chunk) chunk)
by_marks P marks chunk true on off = on refl
by_marks P marks chunk false on off = off refl

-- chunks with other marks at an address are listed and claimed as before
module _ (marks : ℕ → ℕ) (addr len : ℕ) (heap : PlainHeap) where
  pub listed_marks : (directory : List HeapRange) → AreListed directory heap → AreListed directory (with_marks marks addr len heap)
  listed_marks directory listed at long page =
      listed at long page
      ∙ sym (count_map (λ (chunk : Chunk). cond (is_chunk_at addr len chunk) (marked marks chunk) chunk) (is_memory at long page) heap.chunks
      ∙ count_alike (λ (chunk : Chunk). is_memory at long page (cond (is_chunk_at addr len chunk) (marked marks chunk) chunk)) (is_memory at long page) heap.chunks
      (AllByRecursion-each (λ (chunk : Chunk). is_memory at long page (cond (is_chunk_at addr len chunk) (marked marks chunk) chunk) ≡ is_memory at long page chunk) heap.chunks
      (λ chunk has. by_marks (λ c. is_memory at long page c ≡ is_memory at long page chunk) marks chunk (is_chunk_at addr len chunk) (λ on. refl) (λ off. refl))))

  pub claimed_marks : (claims : List ExternalRange) → AreClaimed claims heap.chunks → AreClaimed claims (with_marks marks addr len heap).chunks
  claimed_marks claims claimed =
      all_mapped (λ (chunk : Chunk). Contains claims (claim_of chunk)) (λ (chunk : Chunk). cond (is_chunk_at addr len chunk) (marked marks chunk) chunk) heap.chunks
      (AllByRecursion-each (λ (chunk : Chunk). Contains claims (claim_of (cond (is_chunk_at addr len chunk) (marked marks chunk) chunk))) heap.chunks
      (λ chunk has.
      (let its = AllByRecursion-contains (λ (c : Chunk). Contains claims (claim_of c)) heap.chunks chunk claimed has in
      by_marks (λ c. Contains claims (claim_of c)) marks chunk (is_chunk_at addr len chunk) (λ on. its) (λ off. its))))

  -- the marks of a participant that they leave
  pub others_marks : (participant : ℕ) (rows : List Row) → ((m : ℕ) → has_bit (marks m) participant ≡ has_bit m participant)
      → AreMarked participant rows heap.chunks → AreMarked participant rows (with_marks marks addr len heap).chunks
  others_marks participant rows same all =
      all_mapped (IsMarked participant rows) (λ (chunk : Chunk). cond (is_chunk_at addr len chunk) (marked marks chunk) chunk) heap.chunks
      (AllByRecursion-each (λ (chunk : Chunk). IsMarked participant rows (cond (is_chunk_at addr len chunk) (marked marks chunk) chunk)) heap.chunks
      (λ chunk has.
      (let its = AllByRecursion-contains (IsMarked participant rows) heap.chunks chunk all has in
      by_marks (IsMarked participant rows) marks chunk (is_chunk_at addr len chunk)
      (λ on. its ∙ sym (ap (λ b. cond b (rows_of_chunk chunk) []) (same chunk.attached))) (λ off. its))))

-- the chunk that is named, and one participant
module _ (directory : List HeapRange) (claims : List ExternalRange) (participant : ℕ) (rows : List Row) (heap : PlainHeap) (addr len : ℕ)
    (chunk : Chunk) (tiled : IsTiled heap) (order : AreInOrder heap.chunks) (there : chunk_at addr len heap ≡ Some chunk)
    (tied : IsTiedHeap directory claims participant rows heap) where
  has : Contains heap.chunks chunk
  has = among_chunks heap addr len chunk there

  its : IsMarked participant rows chunk
  its = AllByRecursion-contains (IsMarked participant rows) heap.chunks chunk tied.marked has

  -- what is said of it with other marks, and of each chunk of another list, is said of all
  of_marked : (P : Chunk → Type 0) (marks : ℕ → ℕ) → P (marked marks chunk)
      → ((other : Chunk) → Contains heap.chunks other → other.list ≢ chunk.list → P other) → AllByRecursion P (with_marks marks addr len heap).chunks
  of_marked P marks own others =
      all_mapped P (λ (c : Chunk). cond (is_chunk_at addr len c) (marked marks c) c) heap.chunks
      (AllByRecursion-each (λ (c : Chunk). P (cond (is_chunk_at addr len c) (marked marks c) c)) heap.chunks
      (λ other among.
      (let test : is_chunk_at addr len other ≡ eqb other.list chunk.list
      = AllByRecursion-contains (λ (c : Chunk). is_chunk_at addr len c ≡ eqb c.list chunk.list) heap.chunks other (at_is_of heap addr len chunk there tiled order) among in
      by_marks P marks other (is_chunk_at addr len other)
      (λ on. subst (λ (c : Chunk). P (marked marks c))
      (sym (one_of_list heap tiled chunk has other among (eqb-true other.list chunk.list (sym test ∙ on)))) own)
      (λ off. others other among (eqb-false other.list chunk.list (sym test ∙ off))))))

  -- it is attached, where it was not
  module _ (unmarked : has_bit chunk.attached participant ≡ false) where
    now_its : filter (is_of_chunk chunk) (rows ++ rows_of_chunk chunk) ≡ rows_of_chunk chunk
    now_its =
        let none : filter (is_of_chunk chunk) rows ≡ [] = its ∙ ap (λ b. cond b (rows_of_chunk chunk) []) unmarked in
        filter-append (is_of_chunk chunk) rows (rows_of_chunk chunk) ∙ ap (λ rs. rs ++ filter (is_of_chunk chunk) (rows_of_chunk chunk)) none
        ∙ own_rows chunk

    still : (other : Chunk) → Contains heap.chunks other → other.list ≢ chunk.list → IsMarked participant (rows ++ rows_of_chunk chunk) other
    still other among differs =
        filter-append (is_of_chunk other) rows (rows_of_chunk chunk)
        ∙ ap (λ rs. filter (is_of_chunk other) rows ++ rs) (other_rows chunk other differs)
        ∙ append-nil (filter (is_of_chunk other) rows)
        ∙ AllByRecursion-contains (IsMarked participant rows) heap.chunks other tied.marked among

    pub tied_attached : IsTiedHeap directory claims participant (rows ++ rows_of_chunk chunk) (after_share participant addr len heap)
    unfolding after_share
    tied_attached = record {
      listed = listed_marks (with_mark participant) addr len heap directory tied.listed;
      claimed = claimed_marks (with_mark participant) addr len heap claims tied.claimed;
      marked =
          of_marked (IsMarked participant (rows ++ rows_of_chunk chunk)) (with_mark participant)
          (now_its ∙ sym (ap (λ b. cond b (rows_of_chunk chunk) []) (mark_own participant chunk.attached))) still;
      known =
          AllByRecursion-append (IsOfClaim claims) rows (rows_of_chunk chunk) tied.known
          (claimed_rows chunk claims (its_memory heap tiled chunk has)
          (AllByRecursion-contains (λ (c : Chunk). Contains claims (claim_of c)) heap.chunks chunk tied.claimed has));
    }

  -- it is left
  still_beside : (other : Chunk) → Contains heap.chunks other → other.list ≢ chunk.list → IsMarked participant (rows_beside chunk rows) other
  still_beside other among differs =
      filter_swapped (is_of_chunk other) (λ row. not (is_of_chunk chunk row)) rows
      ∙ filter_implied (is_of_chunk other) (λ row. not (is_of_chunk chunk row)) rows
      (AllByRecursion-each (λ row. is_of_chunk other row ≡ true → not (is_of_chunk chunk row) ≡ true) rows
      (λ row there passes. ap not (row_of_one chunk other row differs passes)))
      ∙ AllByRecursion-contains (IsMarked participant rows) heap.chunks other tied.marked among

  pub tied_left : IsTiedHeap directory claims participant (rows_beside chunk rows) (after_unshare participant addr len heap)
  unfolding after_unshare
  tied_left = record {
    listed = listed_marks (without_mark participant) addr len heap directory tied.listed;
    claimed = claimed_marks (without_mark participant) addr len heap claims tied.claimed;
    marked =
        of_marked (IsMarked participant (rows_beside chunk rows)) (without_mark participant)
        (filter_opposite (is_of_chunk chunk) rows ∙ sym (ap (λ b. cond b (rows_of_chunk chunk) []) (unmark_own participant chunk.attached))) still_beside;
    known = AllByRecursion-kept (IsOfClaim claims) (λ row. not (is_of_chunk chunk row)) rows tied.known;
  }

-- and others are tied as before
module _ (directory : List HeapRange) (claims : List ExternalRange) (caller participant : ℕ) (rows : List Row) (heap : PlainHeap) (addr len : ℕ)
    (differs : participant ≢ caller) (tied : IsTiedHeap directory claims participant rows heap) where
  pub tied_beside_attach : IsTiedHeap directory claims participant rows (after_share caller addr len heap)
  unfolding after_share
  tied_beside_attach = record {
    listed = listed_marks (with_mark caller) addr len heap directory tied.listed;
    claimed = claimed_marks (with_mark caller) addr len heap claims tied.claimed;
    marked = others_marks (with_mark caller) addr len heap participant rows (λ m. mark_other caller m participant differs) tied.marked;
    known = tied.known;
  }

  pub tied_beside_left : IsTiedHeap directory claims participant rows (after_unshare caller addr len heap)
  unfolding after_unshare
  tied_beside_left = record {
    listed = listed_marks (without_mark caller) addr len heap directory tied.listed;
    claimed = claimed_marks (without_mark caller) addr len heap claims tied.claimed;
    marked = others_marks (without_mark caller) addr len heap participant rows (λ m. unmark_other caller m participant differs) tied.marked;
    known = tied.known;
  }
