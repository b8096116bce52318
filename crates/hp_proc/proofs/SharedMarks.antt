-- The marks of a participant on the chunks of a heap, once it has attached one of them, and once it has left one.
use Rattle.std.proofs.Common.{◌≡◌, ◌≢◌, ◌⊎◌, ◌∙◌, ℕ, Bool, true, false, cond, List, Contains, Option, Some, filter, map, refl, sym, ap, subst, eqb, eq-eqb, inl, inr, true≢false}
use Rattle.std.proofs.lemmas.Bool.{cond-false, cond-true, eqb-true, false≢true, ne_eqb}
use Rattle.hp_base.specs.Flags.{has_bit}
use Rattle.hp_base.specs.declared.chunk.Chunk.{Chunk}
use Rattle.hp_external.proofs.ChunkLemmas.{among_chunks, at_is_of, one_of_list}
use Rattle.hp_external.proofs.Marks.{mark_own, unmark_own}
use Rattle.hp_hall.specs.Naming.{marked_by, unmarked}
use Rattle.hp_heap.proofs.AllocFacts.ChoiceLaw.{AllByRecursion-contains, Contains-filter}
use Rattle.hp_heap.proofs.Members.{Contains-image, Contains-imaged, Contains-kept}
use Rattle.hp_heap.specs.ChunkOrder.{AreInOrder}
use Rattle.hp_heap.specs.Chunks.{after_share, after_unshare, chunk_at, is_chunk_at, with_mark, without_mark}
use Rattle.hp_heap.specs.PlainHeap.{PlainHeap}
use Rattle.hp_heap.specs.Tiling.{IsTiled}

-- a chunk that has a participant's mark, as it stands in the heap
pub record IsMarkedIn (who : ℕ) (heap : PlainHeap) (other : Chunk) : Type 0 where
  pub chunk : Chunk
  pub among : Contains heap.chunks chunk
  pub mark : has_bit chunk.attached who ≡ true
  pub is : unmarked chunk ≡ other

pub marked_from : (who : ℕ) (heap : PlainHeap) (other : Chunk) → Contains (marked_by who heap) other → IsMarkedIn who heap other
unfolding marked_by
marked_from who heap other has =
    let from = Contains-imaged unmarked (filter (λ (c : Chunk). has_bit c.attached who) heap.chunks) other has in
    let found = Contains-filter (λ (c : Chunk). has_bit c.attached who) heap.chunks from.0 from.1 in
    record { chunk = from.0; among = found.1; mark = found.0; is = from.2 }

pub marked_to : (who : ℕ) (heap : PlainHeap) (chunk : Chunk) → Contains heap.chunks chunk → has_bit chunk.attached who ≡ true
    → Contains (marked_by who heap) (unmarked chunk)
unfolding marked_by
marked_to who heap chunk among mark =
    Contains-image unmarked (filter (λ (c : Chunk). has_bit c.attached who) heap.chunks) chunk
    (Contains-kept (λ (c : Chunk). has_bit c.attached who) heap.chunks chunk mark among)

module _ (me : ℕ) (heap : PlainHeap) (addr len : ℕ) (chunk : Chunk) (tiled : IsTiled heap) (order : AreInOrder heap.chunks)
    (there : chunk_at addr len heap ≡ Some chunk) where
  pub its : Contains heap.chunks chunk
  its = among_chunks heap addr len chunk there

  -- the chunk at that place is the one of its list
  pub at_is : (c : Chunk) → Contains heap.chunks c → is_chunk_at addr len c ≡ eqb c.list chunk.list
  at_is c among =
      AllByRecursion-contains (λ (c : Chunk). is_chunk_at addr len c ≡ eqb c.list chunk.list) heap.chunks c
      (at_is_of heap addr len chunk there tiled order) among

  pub here : is_chunk_at addr len chunk ≡ true
  here = at_is chunk its ∙ eq-eqb chunk.list chunk.list refl

  away : (c : Chunk) → Contains heap.chunks c → c.list ≢ chunk.list → is_chunk_at addr len c ≡ false
  away c among differs = at_is c among ∙ ne_eqb c.list chunk.list differs

  one : (c : Chunk) → Contains heap.chunks c → is_chunk_at addr len c ≡ true → c ≡ chunk
  one c among at = one_of_list heap tiled chunk its c among (eqb-true c.list chunk.list (sym (at_is c among) ∙ at))

  -- IT IS LEFT

  abbrev pub left_chunk : Chunk → Chunk
  left_chunk c = cond (is_chunk_at addr len c) (record c { attached = without_mark me c.attached }) c

  abbrev left_heap : PlainHeap
  left_heap = after_unshare me addr len heap

  -- a mark that is there still was there, on another chunk
  left_by : (other c now : Chunk) (b : Bool) → is_chunk_at addr len c ≡ b → Contains heap.chunks c
      → cond b (record c { attached = without_mark me c.attached }) c ≡ now → has_bit now.attached me ≡ true → unmarked now ≡ other
      → Contains (marked_by me heap) other × (other.list ≢ chunk.list)
  left_by other c now true at among is mark same =
      absurd (false≢true (sym (unmark_own me c.attached) ∙ (ap (λ (d : Chunk). has_bit d.attached me) is ∙ mark)))
  left_by other c now false at among is mark same = (
    subst (Contains (marked_by me heap)) (ap unmarked is ∙ same)
        (marked_to me heap c among (ap (λ (d : Chunk). has_bit d.attached me) is ∙ mark)),
    λ (list : other.list ≡ chunk.list).
        true≢false
        (sym (eq-eqb c.list chunk.list (ap (λ (d : Chunk). d.list) is ∙ (ap (λ (d : Chunk). d.list) same ∙ list)))
        ∙ (sym (at_is c among) ∙ at)),
  )

  pub left_from : (other : Chunk) → Contains (marked_by me left_heap) other → Contains (marked_by me heap) other × (other.list ≢ chunk.list)
  unfolding after_unshare
  left_from other has =
      let found = marked_from me left_heap other has in
      let from = Contains-imaged left_chunk heap.chunks found.chunk found.among in
      left_by other from.0 found.chunk (is_chunk_at addr len from.0) refl from.1 from.2 found.mark found.is

  pub left_kept : (other : Chunk) → Contains (marked_by me heap) other → other.list ≢ chunk.list → Contains (marked_by me left_heap) other
  unfolding after_unshare
  left_kept other has differs =
      let found = marked_from me heap other has in
      let apart = away found.chunk found.among (λ same. differs (sym (ap (λ (d : Chunk). d.list) found.is) ∙ same)) in
      let same : left_chunk found.chunk ≡ found.chunk =
      cond-false (is_chunk_at addr len found.chunk) (record found.chunk { attached = without_mark me found.chunk.attached }) found.chunk apart in
      let among : Contains left_heap.chunks found.chunk =
      subst (Contains (map left_chunk heap.chunks)) same (Contains-image left_chunk heap.chunks found.chunk found.among) in
      subst (Contains (marked_by me left_heap)) found.is (marked_to me left_heap found.chunk among found.mark)

  -- IT IS ATTACHED

  abbrev pub shared_chunk : Chunk → Chunk
  shared_chunk c = cond (is_chunk_at addr len c) (record c { attached = with_mark me c.attached }) c

  abbrev shared_heap : PlainHeap
  shared_heap = after_share me addr len heap

  came_by : (other c now : Chunk) (b : Bool) → is_chunk_at addr len c ≡ b → Contains heap.chunks c
      → cond b (record c { attached = with_mark me c.attached }) c ≡ now → has_bit now.attached me ≡ true → unmarked now ≡ other
      → Contains (marked_by me heap) other ⊎ (other ≡ unmarked chunk)
  came_by other c now true at among is mark same = inr (sym same ∙ (sym (ap unmarked is) ∙ ap unmarked (one c among at)))
  came_by other c now false at among is mark same =
      inl (subst (Contains (marked_by me heap)) (ap unmarked is ∙ same)
      (marked_to me heap c among (ap (λ (d : Chunk). has_bit d.attached me) is ∙ mark)))

  pub came_from : (other : Chunk) → Contains (marked_by me shared_heap) other → Contains (marked_by me heap) other ⊎ (other ≡ unmarked chunk)
  unfolding after_share
  came_from other has =
      let found = marked_from me shared_heap other has in
      let from = Contains-imaged shared_chunk heap.chunks found.chunk found.among in
      came_by other from.0 found.chunk (is_chunk_at addr len from.0) refl from.1 from.2 found.mark found.is

  -- what had the mark has it, and so has the chunk
  shared_mark : (c : Chunk) (b : Bool) → is_chunk_at addr len c ≡ b → (b ≡ false → has_bit c.attached me ≡ true) → Contains heap.chunks c
      → Contains (marked_by me shared_heap) (unmarked c)
  unfolding after_share
  shared_mark c true at mark among =
      let same : shared_chunk c ≡ record c { attached = with_mark me c.attached } =
      cond-true (is_chunk_at addr len c) (record c { attached = with_mark me c.attached }) c at in
      marked_to me shared_heap (record c { attached = with_mark me c.attached })
      (subst (Contains (map shared_chunk heap.chunks)) same (Contains-image shared_chunk heap.chunks c among)) (mark_own me c.attached)
  shared_mark c false at mark among =
      let same : shared_chunk c ≡ c = cond-false (is_chunk_at addr len c) (record c { attached = with_mark me c.attached }) c at in
      marked_to me shared_heap c (subst (Contains (map shared_chunk heap.chunks)) same (Contains-image shared_chunk heap.chunks c among)) (mark refl)

  pub came_kept : (other : Chunk) → Contains (marked_by me heap) other → Contains (marked_by me shared_heap) other
  came_kept other has =
      let found = marked_from me heap other has in
      subst (Contains (marked_by me shared_heap)) found.is
      (shared_mark found.chunk (is_chunk_at addr len found.chunk) refl (λ off. found.mark) found.among)

  pub came_its : Contains (marked_by me shared_heap) (unmarked chunk)
  came_its = shared_mark chunk true here (λ off. absurd (true≢false off)) its
