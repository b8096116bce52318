-- A heap in hand of which its holder has left a chunk: it is in hand still, and the holder's table and its notes are those of the marks there.
use Rattle.std.proofs.Common.{◌+◌, ◌∙◌, ◌≡◌, ◌≢◌, List, ap, map, refl, subst, sym, true, ℕ, ⊎_elim}
use Rattle.std.proofs.lemmas.Bool.{cases_eq}
use Rattle.hp_base.specs.Flags.{has_bit}
use Rattle.hp_base.specs.declared.chunk.Chunk.{Chunk}
use Rattle.hp_external.proofs.ChunkLemmas.{its_addr, its_len}
use Rattle.hp_external.specs.Attaching.{Leaves}
use Rattle.hp_hall.proofs.NamesLeft.{call_leaves}
use Rattle.hp_hall.specs.HallState.{HallState}
use Rattle.hp_hall.specs.Naming.{marked_by}
use Rattle.hp_heap.specs.ChunkOrder.{AreInOrder}
use Rattle.hp_heap.specs.Chunks.{after_unshare}
use Rattle.hp_heap.specs.History.{HeapView}
use Rattle.hp_heap.specs.PlainHeap.{PlainHeap}
use Rattle.hp_heap.specs.Step.{after}
use Rattle.hp_heap.specs.declared.entry.HeapAnswer.TheVariants as answer
use Rattle.hp_heap.specs.declared.entry.HeapCall.TheVariants as call
use Rattle.hp_proc.proofs.HandFacts.HandCalls.{call_index}
use Rattle.hp_proc.proofs.HandFacts.HandExternal.{holds_called}
use Rattle.hp_proc.proofs.HandFacts.HandTied.{tied_once_left, with_else, with_here}
use Rattle.hp_proc.proofs.HandFacts.HeldOn.{leaves_held}
use Rattle.hp_proc.proofs.NotedLeft.{noted_else, noted_left}
use Rattle.hp_proc.specs.HeldMarks.{HoldsMarked, marked_with}
use Rattle.hp_proc.specs.OwnChunks.{AreMarkedAs, chunks_of, own_chunk, without_own_chunk}
use Rattle.hp_proc.specs.ParticipantView.{ParticipantView}
use Rattle.hp_proc.specs.Progress.{caller_of}
use Rattle.hp_proc.specs.declared.own_chunk.OwnChunk.{OwnChunk}
use Rattle.hp_serve.specs.Party.{IsSameParty}

module _ (old new : ParticipantView) (heap next : HeapView) (addr len : ℕ)
    (leaves : Leaves (caller_of old) addr len heap next old.party.maps new.party.maps) (order : AreInOrder heap.plain.chunks)
    (mark : has_bit leaves.chunk.attached old.party.me ≡ true) (same : IsSameParty old.party new.party)
    (joined : new.party.joined ≡ old.party.joined) (calls : new.context.calls ≡ old.context.calls + 1)
    (pools : new.context.pools ≡ old.context.pools) (attached : new.context.standing.attached ≡ old.context.standing.attached)
    (notes : new.context.standing.chunks
    ≡ without_own_chunk (record { heap = heap.plain.index; addr = addr; len = len }) old.context.standing.chunks) where
  abbrev me : ℕ
  me = old.party.me

  abbrev at : ℕ
  at = heap.plain.index

  index_is : next.plain.index ≡ at
  index_is = call_index (caller_of old) (call.Unshare addr len) answer.Done heap next leaves.unshared

  step : next.plain ≡ after_unshare me addr len heap.plain
  unfolding after
  step = leaves.unshared.heap

  pages : next.plain.pages ≡ heap.plain.pages
  unfolding after_unshare
  pages = ap (λ (h : PlainHeap). h.pages) step

  -- the note that went is that of the chunk
  its_note : new.context.standing.chunks ≡ without_own_chunk (own_chunk at leaves.chunk) old.context.standing.chunks
  its_note =
      notes
      ∙ sym (ap (λ (a : ℕ). without_own_chunk (record { heap = at; addr = a; len = leaves.chunk.len }) old.context.standing.chunks)
      (its_addr heap.plain addr len leaves.chunk leaves.there)
      ∙ ap (λ (l : ℕ). without_own_chunk (record { heap = at; addr = addr; len = l }) old.context.standing.chunks)
      (its_len heap.plain addr len leaves.chunk leaves.there))

  module _ (state : HallState) (holds : HoldsMarked me old heap state) where
    noted_here : (index : ℕ) → index ≡ at → AreMarkedAs index (marked_with me next state index) new.context.standing.chunks
    noted_here index here =
        let was : AreMarkedAs at (marked_by me heap.plain) old.context.standing.chunks =
        subst (λ (l : List Chunk). AreMarkedAs at l old.context.standing.chunks) (with_here me heap state at refl) (holds.chunks at) in
        let left =
        noted_left me heap.plain addr len leaves.chunk holds.in_hand.sound.tiled order leaves.there at old.context.standing.chunks was in
        let marks : marked_with me next state index ≡ marked_by me (after_unshare me addr len heap.plain) =
        with_here me next state index (here ∙ sym index_is) ∙ ap (marked_by me) step in
        subst (λ (l : List Chunk). AreMarkedAs index l new.context.standing.chunks) (sym marks)
        (subst (λ (chunks : List OwnChunk). AreMarkedAs index (marked_by me (after_unshare me addr len heap.plain)) chunks) (sym its_note)
        (subst (λ (n : ℕ). AreMarkedAs n (marked_by me (after_unshare me addr len heap.plain))
        (without_own_chunk (own_chunk at leaves.chunk) old.context.standing.chunks)) (sym here) left))

    noted_there : (index : ℕ) → index ≢ at → AreMarkedAs index (marked_with me next state index) new.context.standing.chunks
    noted_there index away =
        let marks : marked_with me next state index ≡ marked_with me heap state index =
        with_else me next state index (λ there. away (there ∙ index_is)) ∙ sym (with_else me heap state index away) in
        ap (map (own_chunk index)) marks
        ∙ (holds.chunks index
        ∙ (sym (noted_else me heap.plain addr len leaves.chunk holds.in_hand.sound.tiled order leaves.there at index old.context.standing.chunks away)
        ∙ ap (chunks_of index) (sym its_note)))

    pub leaves_hold : HoldsMarked me new next state
    leaves_hold =
        holds_called old new heap next (call.Unshare addr len) answer.Done leaves.unshared same calls pools attached pages refl refl state holds
        (leaves_held state.taken me (state.part me at).claims heap.plain next.plain
        (call_leaves (caller_of old) (call.Unshare addr len) answer.Done heap next leaves.unshared holds.in_hand.sound.tiled tt) holds.in_hand.claimed)
        (tied_once_left me old.party new.party heap next state addr len leaves.chunk holds.in_hand.sound.tiled order leaves.there holds.in_hand.few
        index_is joined leaves.others holds.tied mark step leaves.rows)
        (λ index.
        ⊎_elim (λ (here : index ≡ at). noted_here index here) (λ (away : index ≢ at). noted_there index away) (cases_eq index at))
