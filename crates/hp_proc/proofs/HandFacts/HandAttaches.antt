-- A heap in hand of which its holder has attached a chunk: it is in hand still, and the holder's table and its notes are those of the marks there.
use Rattle.std.proofs.Common.{◌≡◌, ◌≢◌, ◌∙◌, ℕ, ◌+◌, ◌<◌, true, List, Contains, Option, Some, map, refl, sym, ap, subst, ⊎_elim}
use Rattle.std.proofs.lemmas.Bool.{cases_eq}
use Rattle.hp_base.specs.declared.chunk.Chunk.{Chunk}
use Rattle.hp_base.specs.declared.limits.TheConstants.{MAX_HEAPS}
use Rattle.hp_external.proofs.ChunkLemmas.{its_addr, its_len}
use Rattle.hp_external.specs.Attaching.{Attaches}
use Rattle.hp_hall.specs.HallState.{HallState}
use Rattle.hp_hall.specs.Naming.{marked_by}
use Rattle.hp_hall.proofs.NamesLeft.{call_leaves}
use Rattle.hp_heap.specs.ChunkOrder.{AreInOrder}
use Rattle.hp_heap.specs.Chunks.{after_share, chunk_at}
use Rattle.hp_heap.specs.History.{HeapView}
use Rattle.hp_heap.specs.PlainHeap.{PlainHeap}
use Rattle.hp_heap.specs.Step.{after}
use Rattle.hp_heap.specs.declared.entry.HeapAnswer.TheVariants as answer
use Rattle.hp_heap.specs.declared.entry.HeapCall.TheVariants as call
use Rattle.hp_proc.proofs.HandFacts.HandCalls.{call_index}
use Rattle.hp_proc.proofs.HandFacts.HandExternal.{holds_called}
use Rattle.hp_proc.proofs.HandFacts.HandTied.{tied_once_attached, with_else, with_here}
use Rattle.hp_proc.proofs.HandFacts.HeldOn.{leaves_held}
use Rattle.hp_proc.proofs.NotedCame.{noted_beside, noted_came}
use Rattle.hp_proc.specs.HeldMarks.{HoldsMarked, marked_with}
use Rattle.hp_proc.specs.OwnChunks.{AreMarkedAs, chunks_of, own_chunk, with_own_chunk}
use Rattle.hp_proc.specs.ParticipantView.{ParticipantView}
use Rattle.hp_proc.specs.Progress.{caller_of}
use Rattle.hp_proc.specs.declared.own_chunk.OwnChunk.{OwnChunk}
use Rattle.hp_serve.specs.Party.{IsSameParty}
use Rattle.hp_zone.specs.Directory.{PlainDirectory}

module _ (old new : ParticipantView) (heap next : HeapView) (plain : PlainDirectory) (text : List ℕ) (addr len : ℕ)
    (attaches : Attaches (caller_of old) plain text addr len heap next old.party.maps new.party.maps) (order : AreInOrder heap.plain.chunks)
    (inside : old.party.joined ≡ true) (same : IsSameParty old.party new.party) (joined : new.party.joined ≡ old.party.joined)
    (calls : new.context.calls ≡ old.context.calls + 1) (pools : new.context.pools ≡ old.context.pools)
    (attached : new.context.standing.attached ≡ old.context.standing.attached)
    (notes : new.context.standing.chunks
    ≡ with_own_chunk (record { heap = heap.plain.index; addr = addr; len = len }) old.context.standing.chunks)
    (state : HallState) (holds : HoldsMarked old.party.me old heap state)
    (apart : (other : ℕ) (one : Chunk) → other < MAX_HEAPS → Contains (marked_with old.party.me heap state other) one
    → one.list ≢ attaches.chunk.list) where
  abbrev me : ℕ
  me = old.party.me

  abbrev at : ℕ
  at = heap.plain.index

  abbrev chunk : Chunk
  chunk = attaches.chunk

  there : chunk_at addr len heap.plain ≡ Some chunk
  there = attaches.named.there

  index_is : next.plain.index ≡ at
  index_is = call_index (caller_of old) (call.Share addr len) answer.Done heap next attaches.shared

  step : next.plain ≡ after_share me addr len heap.plain
  unfolding after
  step = attaches.shared.heap

  pages : next.plain.pages ≡ heap.plain.pages
  unfolding after_share
  pages = ap (λ (h : PlainHeap). h.pages) step

  -- the note that came is that of the chunk
  its_note : new.context.standing.chunks ≡ with_own_chunk (own_chunk at chunk) old.context.standing.chunks
  its_note =
      notes
      ∙ sym (ap (λ (a : ℕ). with_own_chunk (record { heap = at; addr = a; len = chunk.len }) old.context.standing.chunks)
      (its_addr heap.plain addr len chunk there)
      ∙ ap (λ (l : ℕ). with_own_chunk (record { heap = at; addr = addr; len = l }) old.context.standing.chunks)
      (its_len heap.plain addr len chunk there))

  noted_here : (index : ℕ) → index ≡ at → AreMarkedAs index (marked_with me next state index) new.context.standing.chunks
  noted_here index here =
      let was : AreMarkedAs at (marked_by me heap.plain) old.context.standing.chunks =
      subst (λ (l : List Chunk). AreMarkedAs at l old.context.standing.chunks) (with_here me heap state at refl) (holds.chunks at) in
      let came =
      noted_came me heap.plain addr len chunk holds.in_hand.sound.tiled order there attaches.unmarked at old.context.standing.chunks was in
      let marks : marked_with me next state index ≡ marked_by me (after_share me addr len heap.plain) =
      with_here me next state index (here ∙ sym index_is) ∙ ap (marked_by me) step in
      subst (λ (l : List Chunk). AreMarkedAs index l new.context.standing.chunks) (sym marks)
      (subst (λ (chunks : List OwnChunk). AreMarkedAs index (marked_by me (after_share me addr len heap.plain)) chunks) (sym its_note)
      (subst (λ (n : ℕ). AreMarkedAs n (marked_by me (after_share me addr len heap.plain))
      (with_own_chunk (own_chunk at chunk) old.context.standing.chunks)) (sym here) came))

  noted_there : (index : ℕ) → index ≢ at → AreMarkedAs index (marked_with me next state index) new.context.standing.chunks
  noted_there index away =
      let marks : marked_with me next state index ≡ marked_with me heap state index =
      with_else me next state index (λ same. away (same ∙ index_is)) ∙ sym (with_else me heap state index away) in
      ap (map (own_chunk index)) marks
      ∙ (holds.chunks index
      ∙ (sym (noted_beside me heap.plain addr len chunk holds.in_hand.sound.tiled order there attaches.unmarked at index old.context.standing.chunks
      away)
      ∙ ap (chunks_of index) (sym its_note)))

  pub attaches_hold : HoldsMarked me new next state
  attaches_hold =
      holds_called old new heap next (call.Share addr len) answer.Done attaches.shared same calls pools attached pages refl refl state holds
      (leaves_held state.taken me (state.part me at).claims heap.plain next.plain
      (call_leaves (caller_of old) (call.Share addr len) answer.Done heap next attaches.shared holds.in_hand.sound.tiled tt) holds.in_hand.claimed)
      (tied_once_attached me old.party new.party heap next state addr len chunk holds.in_hand.sound.tiled order there holds.in_hand.few index_is
      joined attaches.others holds.tied apart inside step attaches.rows)
      (λ index.
      ⊎_elim (λ (here : index ≡ at). noted_here index here) (λ (away : index ≢ at). noted_there index away) (cases_eq index at))
