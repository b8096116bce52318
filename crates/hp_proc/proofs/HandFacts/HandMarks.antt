-- The marks of a participant that has a heap in hand: while its own there are as it gave them back last, its table is tied to those too.
use Rattle.std.proofs.Common.{◌≡◌, ◌∙◌, ℕ, eqb, List, map, ap, sym, subst, ⊎_elim}
use Rattle.std.proofs.lemmas.Bool.{cond-false, cond-true}
use Rattle.std.proofs.lemmas.Bool.Decides.{eqb_tells}
use Rattle.hp_base.specs.declared.chunk.Chunk.{Chunk}
use Rattle.hp_hall.specs.HallState.{HallState, IsLater}
use Rattle.hp_hall.specs.Naming.{marked_by}
use Rattle.hp_heap.specs.History.{HeapView, SameButSpare}
use Rattle.hp_heap.specs.PlainHeap.{PlainHeap}
use Rattle.hp_proc.specs.Contexts.{Context}
use Rattle.hp_proc.specs.HeldMarks.{HasMarksOf, HoldsMarked, IsTiedWith, marked_with}
use Rattle.hp_proc.specs.LineInHall.{HoldsIn}
use Rattle.hp_proc.specs.OwnChunks.{AreMarkedAs, chunks_of, own_chunk}
use Rattle.hp_proc.specs.ParticipantView.{ParticipantView, with_calls}
use Rattle.hp_serve.proofs.Handed.{tied_still}
use Rattle.hp_serve.proofs.Tying.{tied_marks}
use Rattle.hp_serve.specs.InHall.{IsTiedIn, marked_in}
use Rattle.hp_serve.specs.Party.{Party}

-- what is noted of the same marks, after calls
pub noted_calls : (index : ℕ) (old new : List Chunk) (first last : Context) → new ≡ old → last ≡ with_calls last.calls first
    → AreMarkedAs index old first.standing.chunks → AreMarkedAs index new last.standing.chunks
noted_calls index old new first last same knew was =
    ap (map (own_chunk index)) same ∙ (was ∙ ap (λ (context : Context). chunks_of index context.standing.chunks) (sym knew))

pub noted_same : (index : ℕ) (old new : List Chunk) (first last : Context) → new ≡ old → last ≡ first
    → AreMarkedAs index old first.standing.chunks → AreMarkedAs index new last.standing.chunks
noted_same index old new first last same knew was =
    ap (map (own_chunk index)) same ∙ (was ∙ ap (λ (context : Context). chunks_of index context.standing.chunks) (sym knew))

module _ (me : ℕ) (heap : HeapView) (state : HallState) (own : marked_by me heap.plain ≡ marked_in me state heap.plain.index) where
  pub with_same : (index : ℕ) → marked_with me heap state index ≡ marked_in me state index
  with_same index = ⊎_elim
      (λ here.
      cond-true (eqb index heap.plain.index) (marked_by me heap.plain) (marked_in me state index) here.0
      ∙ (own ∙ ap (marked_in me state) (sym here.1)))
      (λ there. cond-false (eqb index heap.plain.index) (marked_by me heap.plain) (marked_in me state index) there.0)
      (eqb_tells index heap.plain.index)

  pub tied_with : (party : Party) → IsTiedIn me party state → IsTiedWith me party heap state
  tied_with party tied = record {
    table = tied_marks (state.seen me) (state.own me) (marked_in me state) (marked_with me heap state) party.joined party.maps with_same tied.table;
    same = tied.same;
    left = λ out index. with_same index ∙ tied.left out index;
  }

-- so it is with what has a heap in hand and may serve
pub held_tied : (me : ℕ) (doer : ParticipantView) (heap : HeapView) {state : HallState} → HoldsIn me doer heap state
    → IsTiedWith me doer.party heap state
held_tied me doer heap {state} holds = tied_with me heap state holds.marks doer.party holds.can.tied

pub holds_marked : (me : ℕ) (doer : ParticipantView) (heap : HeapView) {state : HallState} → HoldsIn me doer heap state
    → HoldsMarked me doer heap state
holds_marked me doer heap {state} holds = record {
  may = holds.can.may;
  tied = held_tied me doer heap holds;
  chunks = λ index. ap (map (own_chunk index)) (with_same me heap state holds.marks index) ∙ holds.chunks index;
  in_hand = holds.in_hand;
  settled = holds.settled;
  attached = holds.attached;
  named = holds.named;
  mapped = holds.mapped;
}

-- a heap with room for more calls has the same marks
pub spared_marks : (me : ℕ) (old new : HeapView) (state : HallState) → SameButSpare old new
    → marked_by me old.plain ≡ marked_in me state old.plain.index → marked_by me new.plain ≡ marked_in me state new.plain.index
spared_marks me old new state same own =
    subst (λ (plain : PlainHeap). marked_by me plain ≡ marked_in me state plain.index) (sym same.plain) own

-- and its marks are the same once that is given, where they were
pub marks_given : (doer : ParticipantView) (heap : HeapView) (a b : HallState)
    → marked_by doer.party.me heap.plain ≡ marked_in doer.party.me a heap.plain.index → HasMarksOf doer.party.me heap a b
    → (index : ℕ) → marked_in doer.party.me b index ≡ marked_in doer.party.me a index
marks_given doer heap a b own marks index = marks index ∙ with_same doer.party.me heap a own index

-- a table that was tied to the marks of the heap in hand is tied once that is given
pub tied_given : (me : ℕ) (party : Party) (heap : HeapView) {a b : HallState} → IsLater a b → b.joined me ≡ a.joined me → b.own me ≡ a.own me
    → HasMarksOf me heap a b → IsTiedWith me party heap a → IsTiedIn me party b
tied_given me party heap {a} {b} later joined own marks tied =
    let seen = later.seen me in
    record {
      table = tied_still (a.seen me) (b.seen me) seen.0 (a.own me) (b.own me) (marked_with me heap a) (marked_in me b) party.joined party.maps seen.1
          own marks tied.table;
      same = joined ∙ tied.same;
      left = λ out index. marks index ∙ tied.left out index;
    }
