-- The table of a participant that attaches a chunk of the heap in its hand, or leaves one, is tied to its marks with that heap in hand.
use Rattle.std.proofs.Common.{◌≡◌, ◌≢◌, ◌⊎◌, ◌∙◌, ℕ, ◌<◌, Bool, true, false, cond, List, ◌++◌, Contains, Option, Some, refl, sym, ap, subst, eqb, eq-eqb, inl, inr, true≢false}
use Rattle.std.proofs.lemmas.Bool.{cond-false, cond-true, ne_eqb}
use Rattle.hp_base.specs.Flags.{has_bit}
use Rattle.hp_base.specs.declared.chunk.Chunk.{Chunk}
use Rattle.hp_base.specs.declared.limits.TheConstants.{MAX_HEAPS}
use Rattle.hp_external.proofs.ChunkLemmas.{among_chunks}
use Rattle.hp_external.specs.Attaching.{SameButRows}
use Rattle.hp_hall.specs.HallState.{HallState}
use Rattle.hp_hall.specs.Naming.{marked_by, unmarked}
use Rattle.hp_heap.proofs.AllocFacts.ChoiceLaw.{Contains-none}
use Rattle.hp_heap.specs.ChunkOrder.{AreInOrder}
use Rattle.hp_heap.specs.Chunks.{after_share, after_unshare, chunk_at}
use Rattle.hp_heap.specs.History.{HeapView}
use Rattle.hp_heap.specs.PlainHeap.{PlainHeap}
use Rattle.hp_heap.specs.Tiling.{IsTiled}
use Rattle.hp_maps.specs.Chunks.{rows_beside, rows_of_chunk}
use Rattle.hp_proc.proofs.SharedMarks.{came_from, came_its, came_kept, left_from, left_kept, marked_to}
use Rattle.hp_proc.specs.HeldMarks.{IsTiedWith, marked_with}
use Rattle.hp_serve.proofs.ChunksMarked.{has_attached, has_left}
use Rattle.hp_serve.proofs.ChunksTied.{tied_left, tied_more}
use Rattle.hp_serve.specs.InHall.{marked_in}
use Rattle.hp_serve.specs.Party.{Party}
use Rattle.hp_serve.specs.Tied.{IsTied}

-- marks with the heap in hand: there, and in other heaps
pub with_here : (me : ℕ) (heap : HeapView) (state : HallState) (index : ℕ) → index ≡ heap.plain.index
    → marked_with me heap state index ≡ marked_by me heap.plain
with_here me heap state index same =
    cond-true (eqb index heap.plain.index) (marked_by me heap.plain) (marked_in me state index) (eq-eqb index heap.plain.index same)

pub with_else : (me : ℕ) (heap : HeapView) (state : HallState) (index : ℕ) → index ≢ heap.plain.index
    → marked_with me heap state index ≡ marked_in me state index
with_else me heap state index away =
    cond-false (eqb index heap.plain.index) (marked_by me heap.plain) (marked_in me state index) (ne_eqb index heap.plain.index away)

-- with the same marks there, they are the same in all heaps
pub marks_with : (me : ℕ) (heap next : HeapView) (state : HallState) (index : ℕ) → next.plain.index ≡ heap.plain.index
    → marked_by me next.plain ≡ marked_by me heap.plain → marked_with me next state index ≡ marked_with me heap state index
marks_with me heap next state index same own =
    ap (λ (at : ℕ). cond (eqb index at) (marked_by me next.plain) (marked_in me state index)) same
    ∙ ap (λ (marks : List Chunk). cond (eqb index heap.plain.index) marks (marked_in me state index)) own

module _ (me : ℕ) (party after : Party) (heap next : HeapView) (state : HallState) (addr len : ℕ) (chunk : Chunk) (tiled : IsTiled heap.plain)
    (order : AreInOrder heap.plain.chunks) (there : chunk_at addr len heap.plain ≡ Some chunk) (few : heap.plain.index < MAX_HEAPS)
    (index : next.plain.index ≡ heap.plain.index) (joined : after.joined ≡ party.joined) (others : SameButRows party.maps after.maps)
    (tied : IsTiedWith me party heap state) where
  abbrev at : ℕ
  at = heap.plain.index

  abbrev marked : ℕ → List Chunk
  marked = marked_with me heap state

  abbrev marked_then : ℕ → List Chunk
  marked_then = marked_with me next state

  marked_here : marked at ≡ marked_by me heap.plain
  marked_here = with_here me heap state at refl

  then_here : marked_then at ≡ marked_by me next.plain
  then_here = with_here me next state at (sym index)

  then_else : (other : ℕ) → other ≢ at → marked_then other ≡ marked other
  then_else other away = with_else me next state other (λ same. away (same ∙ index)) ∙ sym (with_else me heap state other away)

  its : Contains heap.plain.chunks chunk
  its = among_chunks heap.plain addr len chunk there

  -- with a table for as many participants as before
  tied_then : IsTied (state.seen me) (state.own me) marked_then party.joined after.maps → IsTied (state.seen me) (state.own me) marked_then after.joined after.maps
  tied_then = subst (λ (b : Bool). IsTied (state.seen me) (state.own me) marked_then b after.maps) (sym joined)

  -- IT IS LEFT

  module _ (mark : has_bit chunk.attached me ≡ true) (step : next.plain ≡ after_unshare me addr len heap.plain)
      (rows : after.maps.rows ≡ rows_beside chunk party.maps.rows) where
    was : Contains (marked at) (unmarked chunk)
    was = subst (λ (l : List Chunk). Contains l (unmarked chunk)) (sym marked_here) (marked_to me heap.plain chunk its mark)

    now : marked_then at ≡ marked_by me (after_unshare me addr len heap.plain)
    now = then_here ∙ ap (marked_by me) step

    left : (other : Chunk) → Contains (marked_then at) other → Contains (marked at) other × (other.list ≢ chunk.list)
    left other has =
        let found = left_from me heap.plain addr len chunk tiled order there other (subst (λ (l : List Chunk). Contains l other) now has) in
        (subst (λ (l : List Chunk). Contains l other) (sym marked_here) found.0, found.1)

    kept : (other : Chunk) → Contains (marked at) other → other.list ≢ chunk.list → Contains (marked_then at) other
    kept other has differs =
        subst (λ (l : List Chunk). Contains l other) (sym now)
        (left_kept me heap.plain addr len chunk tiled order there other (subst (λ (l : List Chunk). Contains l other) marked_here has) differs)

    pub tied_once_left : IsTiedWith me after next state
    tied_once_left = record {
      table = tied_then
          (tied_left (state.seen me) (state.own me) marked marked_then party.joined party.maps after.maps chunk tied.table others rows
          (has_left marked marked_then _ at (unmarked chunk) tied.table.table.chunks then_else few was left kept));
      same = tied.same ∙ sym joined;
      left = λ out other.
          absurd (Contains-none (unmarked chunk) (subst (λ (l : List Chunk). Contains l (unmarked chunk)) (tied.left (sym joined ∙ out) at) was));
    }

  -- IT IS ATTACHED, and no marked chunk is of its list

  module _ (apart : (other : ℕ) (one : Chunk) → other < MAX_HEAPS → Contains (marked other) one → one.list ≢ chunk.list)
      (inside : party.joined ≡ true) (step : next.plain ≡ after_share me addr len heap.plain)
      (rows : after.maps.rows ≡ party.maps.rows ++ rows_of_chunk chunk) where
    now_with : marked_then at ≡ marked_by me (after_share me addr len heap.plain)
    now_with = then_here ∙ ap (marked_by me) step

    came : (other : Chunk) → Contains (marked_then at) other → Contains (marked at) other ⊎ (other ≡ unmarked chunk)
    came other has =
        elim (came_from me heap.plain addr len chunk tiled order there other (subst (λ (l : List Chunk). Contains l other) now_with has)) [
          | inl old ↦ inl (subst (λ (l : List Chunk). Contains l other) (sym marked_here) old)
          | inr new ↦ inr new
        ]

    pub tied_once_attached : IsTiedWith me after next state
    tied_once_attached = record {
      table = tied_then
          (tied_more (state.seen me) (state.own me) marked marked_then party.joined party.maps after.maps chunk tied.table others rows
          (has_attached marked marked_then _ at (unmarked chunk) tied.table.table.chunks then_else few apart came
          (λ other old.
          subst (λ (l : List Chunk). Contains l other) (sym now_with)
          (came_kept me heap.plain addr len chunk tiled order there other (subst (λ (l : List Chunk). Contains l other) marked_here old)))
          (subst (λ (l : List Chunk). Contains l (unmarked chunk)) (sym now_with) (came_its me heap.plain addr len chunk tiled order there))));
      same = tied.same ∙ sym joined;
      left = λ out other. absurd (true≢false (sym inside ∙ (sym joined ∙ out)));
    }
