-- The chunks of a heap in hand are left in order: what is left of them after each.
use Rattle.std.proofs.Common.{◌+◌, ◌++◌, ◌<◌, ◌∙◌, ◌∷◌, ◌≡◌, ◌≢◌, Contains, List, None, Option, Some, [], ap, append-nil, append_assoc, arith, eq-eqb, false, length, refl, subst, sym, true, ℕ}
use Rattle.std.proofs.lemmas.Bool.{and_from, and_parts, eqb-true, true≢false}
use Rattle.hp_base.specs.declared.chunk.Chunk.{Chunk}
use Rattle.hp_external.proofs.ChunkLemmas.{one_of_address, one_of_list}
use Rattle.hp_external.specs.Attaching.{IsOwnChunkAt}
use Rattle.hp_hall.specs.Naming.{marked_by}
use Rattle.hp_heap.proofs.AllocFacts.ChoiceLaw.{AllByRecursion-contains, Contains-here, Contains-none}
use Rattle.hp_heap.proofs.Members.{Contains-imaged, find_none, find_some}
use Rattle.hp_heap.specs.Chunks.{after_unshare, chunk_at, is_chunk_at}
use Rattle.hp_heap.specs.History.{HeapView}
use Rattle.hp_heap.specs.PlainHeap.{Extent, HasKind, PlainHeap}
use Rattle.hp_heap.specs.Step.{after}
use Rattle.hp_heap.specs.Tiling.{IsTiled}
use Rattle.hp_heap.specs.declared.entry.HeapAnswer.TheVariants as gives
use Rattle.hp_heap.specs.declared.entry.HeapCall.TheVariants as call
use Rattle.hp_proc.proofs.HandFacts.HandCalls.{call_index}
use Rattle.hp_proc.proofs.LeftHere.{context_is, left_same, own_is}
use Rattle.hp_proc.proofs.NotedLeft.{noted_left}
use Rattle.hp_proc.proofs.OwnNotes.{beside_here, first_gone, none_first, of_here, some_first, stand_none, stand_then}
use Rattle.hp_proc.proofs.SharedMarks.{marked_from}
use Rattle.hp_proc.specs.Contexts.{Context}
use Rattle.hp_proc.specs.LeavesChunks.{LeavesInHand, LeavesNoted}
use Rattle.hp_proc.specs.LineInHall.{HasRoom}
use Rattle.hp_proc.specs.OwnChunks.{AreFirstOf, AreMarkedAs, AreOwnChunks, AreRising, chunks_beside, chunks_of, first_of, own_chunk, without_own_chunk}
use Rattle.hp_proc.specs.ParticipantView.{ParticipantView}
use Rattle.hp_proc.specs.Progress.{caller_of}
use Rattle.hp_proc.specs.declared.own_chunk.OwnChunk.{OwnChunk}

-- WHAT IS NOTED IS THERE

-- a heap that has a chunk is for external memory
external_by : (serves : Option ℕ) (heap : PlainHeap) (chunk : Chunk) → heap.serves ≡ serves → IsTiled heap → Contains heap.chunks chunk
    → heap.serves ≡ None
external_by None heap chunk is tiled among = is
external_by (Some socket) heap chunk is tiled among =
    let none : heap.chunks ≡ [] = subst (λ (serves : Option ℕ). HasKind serves heap.pages heap.chunks) is tiled.kind in
    absurd (Contains-none chunk (subst (λ (chunks : List Chunk). Contains chunks chunk) none among))

-- a chunk is the one with its address and its length
module _ (heap : PlainHeap) (tiled : IsTiled heap) (chunk : Chunk) (among : Contains heap.chunks chunk) where
  by_found : (found : Option Chunk) → chunk_at chunk.addr chunk.len heap ≡ found → chunk_at chunk.addr chunk.len heap ≡ Some chunk
  unfolding chunk_at
  by_found None is =
      absurd
      (true≢false
      (sym
      (and_from _ _ (eq-eqb chunk.addr chunk.addr refl) (eq-eqb chunk.len chunk.len refl))
      ∙ AllByRecursion-contains (λ (c : Chunk). is_chunk_at chunk.addr chunk.len c ≡ false) heap.chunks chunk
      (find_none (is_chunk_at chunk.addr chunk.len) heap.chunks is) among))
  by_found (Some other) is =
      let found = find_some (is_chunk_at chunk.addr chunk.len) heap.chunks other is in
      let extent = one_of_address heap tiled chunk among other found.1 (eqb-true other.addr chunk.addr (and_parts _ _ found.0).0) in
      is ∙ ap Some (one_of_list heap tiled chunk among other found.1 (ap (λ (e : Extent). e.list) extent))

  pub its_place : chunk_at chunk.addr chunk.len heap ≡ Some chunk
  its_place = by_found (chunk_at chunk.addr chunk.len heap) refl

-- a chunk that a participant notes is one that it has attached
pub record IsNotedIn (who : ℕ) (heap : PlainHeap) (note : OwnChunk) : Type 0 where
  pub its : IsOwnChunkAt who note.addr note.len heap
  pub external : heap.serves ≡ None

pub noted_in : (who index : ℕ) (heap : PlainHeap) (chunks : List OwnChunk) (note : OwnChunk) → IsTiled heap
    → AreMarkedAs index (marked_by who heap) chunks → Contains (chunks_of index chunks) note → IsNotedIn who heap note
noted_in who index heap chunks note tiled are among =
    let from =
    Contains-imaged (own_chunk index) (marked_by who heap) note (subst (λ (l : List OwnChunk). Contains l note) (sym are) among) in
    let found = marked_from who heap from.0 from.1 in
    let addr : found.chunk.addr ≡ note.addr = ap (λ (c : Chunk). c.addr) found.is ∙ ap (λ (n : OwnChunk). n.addr) from.2 in
    let len : found.chunk.len ≡ note.len = ap (λ (c : Chunk). c.len) found.is ∙ ap (λ (n : OwnChunk). n.len) from.2 in
    record {
      its = (
        found.chunk,
        subst (λ (a : ℕ). chunk_at a note.len heap ≡ Some found.chunk) addr
            (subst (λ (l : ℕ). chunk_at found.chunk.addr l heap ≡ Some found.chunk) len (its_place heap tiled found.chunk found.among)),
        found.mark,
      );
      external = external_by heap.serves heap found.chunk refl tiled found.among;
    }

-- ONE AFTER ANOTHER

-- some chunks of the heap in its hand it has left, those that stand first; the others it notes still, and has room for as many calls
pub record IsLeaving (old now : ParticipantView) (heap next : HeapView) : Type 0 where
  pub done : List OwnChunk
  pub left : LeavesInHand done old now heap next
  pub are : chunks_of heap.plain.index old.context.standing.chunks ≡ done ++ chunks_of heap.plain.index now.context.standing.chunks
  pub beside : chunks_beside heap.plain.index now.context.standing.chunks ≡ chunks_beside heap.plain.index old.context.standing.chunks
  pub first : AreFirstOf heap.plain.index now.context.standing.chunks
  pub index : next.plain.index ≡ heap.plain.index
  pub me : now.party.me ≡ old.party.me
  pub noted : AreMarkedAs heap.plain.index (marked_by old.party.me next.plain) now.context.standing.chunks
  pub room : HasRoom (length (chunks_of heap.plain.index now.context.standing.chunks)) next now

pub leaving_none : (doer : ParticipantView) (heap : HeapView) → AreFirstOf heap.plain.index doer.context.standing.chunks
    → AreMarkedAs heap.plain.index (marked_by doer.party.me heap.plain) doer.context.standing.chunks
    → HasRoom (length (chunks_of heap.plain.index doer.context.standing.chunks)) heap doer → IsLeaving doer doer heap heap
leaving_none doer heap first noted room = record {
  done = [];
  left = LeavesInHand.none doer heap;
  are = refl;
  beside = refl;
  first = first;
  index = refl;
  me = refl;
  noted = noted;
  room = room;
}

module _ (old now : ParticipantView) (heap next : HeapView) (so_far : IsLeaving old now heap next) (chunk : OwnChunk) where
  abbrev at : ℕ
  at = heap.plain.index

  abbrev noted_now : List OwnChunk
  noted_now = now.context.standing.chunks

  -- the first of those that are left is one of the heap, where it is of its index
  module _ (is : Some chunk ≡ first_of noted_now) (here : chunk.heap ≡ next.plain.index) (own : AreOwnChunks noted_now) where
    abbrev rest : List OwnChunk
    rest = (some_first chunk noted_now (sym is)).rest

    are_now : noted_now ≡ chunk ∷ rest
    are_now = (some_first chunk noted_now (sym is)).are

    its_heap : chunk.heap ≡ at
    its_heap = here ∙ so_far.index

    of_now : chunks_of at noted_now ≡ chunk ∷ chunks_of at rest
    of_now = ap (chunks_of at) are_now ∙ of_here at chunk rest its_heap

    among : Contains (chunks_of at noted_now) chunk
    among = subst (λ (l : List OwnChunk). Contains l chunk) (sym of_now) (Contains-here chunk (chunks_of at rest))

    pub may_leave : IsTiled next.plain → IsNotedIn now.party.me next.plain chunk
    may_leave tiled =
        subst (λ (who : ℕ). IsNotedIn who next.plain chunk) (sym so_far.me)
        (noted_in old.party.me at next.plain noted_now chunk tiled so_far.noted among)

    count_is : length (chunks_of at noted_now) ≡ length (chunks_of at rest) + 1
    count_is = ap (λ (l : List OwnChunk). length l) of_now ∙ omega arith

    pub room_for : HasRoom 1 next now
    room_for =
        let spare = so_far.room.spare in
        let counted = so_far.room.counted in
        record { spare = omega (arith, spare, count_is); counted = omega (arith, counted, count_is) }

    module _ (new : ParticipantView) (after_heap : HeapView) (left : LeavesNoted chunk now new next after_heap) (tiled : IsTiled next.plain) where
      rising : AreRising (chunk ∷ rest)
      rising = subst AreRising are_now own.rising

      chunks_are : new.context.standing.chunks ≡ rest
      chunks_are =
          ap (λ (c : Context). c.standing.chunks) (context_is now new next after_heap chunk left left.order left.mark)
          ∙ (ap (without_own_chunk chunk) are_now ∙ first_gone chunk rest rising)

      noted_then : AreMarkedAs at (marked_by old.party.me after_heap.plain) new.context.standing.chunks
      unfolding after
      noted_then =
          let went =
          noted_left now.party.me next.plain chunk.addr chunk.len left.leaves.chunk tiled left.order left.leaves.there next.plain.index noted_now
          (subst (λ (n : ℕ). AreMarkedAs n (marked_by now.party.me next.plain) noted_now) (sym so_far.index)
          (subst (λ (who : ℕ). AreMarkedAs at (marked_by who next.plain) noted_now) (sym so_far.me) so_far.noted)) in
          let own_note = own_is now new next after_heap chunk left left.order left.mark in
          let kept : AreMarkedAs next.plain.index (marked_by now.party.me (after_unshare now.party.me chunk.addr chunk.len next.plain))
          (without_own_chunk chunk noted_now) =
          subst (λ (n : OwnChunk). AreMarkedAs next.plain.index
          (marked_by now.party.me (after_unshare now.party.me chunk.addr chunk.len next.plain)) (without_own_chunk n noted_now)) own_note went in
          let plain : AreMarkedAs next.plain.index (marked_by now.party.me after_heap.plain) (without_own_chunk chunk noted_now) =
          subst (λ (p : PlainHeap). AreMarkedAs next.plain.index (marked_by now.party.me p) (without_own_chunk chunk noted_now))
          (sym left.leaves.unshared.heap) kept in
          let listed : AreMarkedAs next.plain.index (marked_by now.party.me after_heap.plain) new.context.standing.chunks =
          subst (λ (l : List OwnChunk). AreMarkedAs next.plain.index (marked_by now.party.me after_heap.plain) l)
          (sym (ap (λ (c : Context). c.standing.chunks) (context_is now new next after_heap chunk left left.order left.mark))) plain in
          subst (λ (n : ℕ). AreMarkedAs n (marked_by old.party.me after_heap.plain) new.context.standing.chunks) so_far.index
          (subst (λ (who : ℕ). AreMarkedAs next.plain.index (marked_by who after_heap.plain) new.context.standing.chunks) so_far.me listed)

      pub leaving_more : IsLeaving old new heap after_heap
      leaving_more =
          let spare = so_far.room.spare in
          let counted = so_far.room.counted in
          let calls = ap (λ (c : Context). c.calls) (context_is now new next after_heap chunk left left.order left.mark) in
          let few = left.leaves.unshared.spare in
          let as_many = ap (λ (l : List OwnChunk). length (chunks_of at l)) chunks_are in
          record {
            done = so_far.done ++ chunk ∷ [];
            left = LeavesInHand.more so_far.done chunk old now new heap next after_heap so_far.left left;
            are = so_far.are
                ∙ (ap (λ (l : List OwnChunk). so_far.done ++ l) of_now
                ∙ (sym (append_assoc so_far.done (chunk ∷ []) (chunks_of at rest))
                ∙ ap (λ (l : List OwnChunk). (so_far.done ++ chunk ∷ []) ++ chunks_of at l) (sym chunks_are)));
            beside = ap (chunks_beside at) chunks_are
                ∙ (sym (ap (chunks_beside at) are_now ∙ beside_here at chunk rest its_heap) ∙ so_far.beside);
            first = subst (AreFirstOf at) (sym chunks_are) (stand_then at chunk rest its_heap rising);
            index = call_index (caller_of now) (call.Unshare chunk.addr chunk.len) gives.Done next after_heap left.leaves.unshared ∙ so_far.index;
            me = (left_same now new next after_heap chunk left left.order left.mark).me ∙ so_far.me;
            noted = noted_then;
            room = record {
              spare = omega (arith, spare, count_is, few, as_many);
              counted = omega (arith, counted, count_is, calls, as_many);
            };
          }

      -- there are fewer then
      pub leaving_fewer : length new.context.standing.chunks < length noted_now
      leaving_fewer =
          let before = ap (λ (l : List OwnChunk). length l) are_now in
          let behind = ap (λ (l : List OwnChunk). length l) chunks_are in
          omega (arith, before, behind)

-- all of them were left
pub record HasLeftAll (old now : ParticipantView) (heap next : HeapView) : Type 0 where
  pub left : LeavesInHand (chunks_of heap.plain.index old.context.standing.chunks) old now heap next
  pub others : now.context.standing.chunks ≡ chunks_beside heap.plain.index old.context.standing.chunks

module _ (old now : ParticipantView) (heap next : HeapView) (so_far : IsLeaving old now heap next) where
  no_more : chunks_of heap.plain.index now.context.standing.chunks ≡ [] → HasLeftAll old now heap next
  no_more none = record {
    left = subst (λ (done : List OwnChunk). LeavesInHand done old now heap next)
        (sym
        (so_far.are
        ∙ (ap (λ (l : List OwnChunk). so_far.done ++ l) none ∙ append-nil so_far.done))) so_far.left;
    others = so_far.first
        ∙ (ap (λ (l : List OwnChunk). l ++ chunks_beside heap.plain.index now.context.standing.chunks) none ∙ so_far.beside);
  }

  pub none_remains : None ≡ first_of now.context.standing.chunks → HasLeftAll old now heap next
  none_remains is = no_more (ap (chunks_of heap.plain.index) (none_first now.context.standing.chunks (sym is)))

  -- the next one is of another heap
  pub other_remains : (chunk : OwnChunk) → Some chunk ≡ first_of now.context.standing.chunks → chunk.heap ≢ next.plain.index
      → HasLeftAll old now heap next
  other_remains chunk is away =
      let found = some_first chunk now.context.standing.chunks (sym is) in
      no_more
      (ap (chunks_of heap.plain.index) found.are
      ∙ stand_none heap.plain.index chunk found.rest (λ same. away (same ∙ sym so_far.index))
      (subst (AreFirstOf heap.plain.index) found.are so_far.first))
