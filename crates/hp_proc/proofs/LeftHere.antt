-- A chunk that is left with its heap in hand: what that was of a line, and that the heap is in hand still.
use Rattle.std.proofs.Common.{◌∙◌, ◌∷◌, ◌≡◌, List, Some, [], ap, append-nil, refl, subst, sym, true, ℕ}
use Rattle.hp_base.specs.Flags.{has_bit}
use Rattle.hp_base.specs.declared.chunk.Chunk.{Chunk}
use Rattle.hp_external.proofs.ChunkLemmas.{its_addr, its_len}
use Rattle.hp_hall.proofs.HallStates.{did_same}
use Rattle.hp_hall.specs.HallState.{Did, HallState}
use Rattle.hp_heap.specs.ChunkOrder.{AreInOrder}
use Rattle.hp_heap.specs.History.{HeapView}
use Rattle.hp_heap.specs.declared.entry.HeapAnswer.TheVariants as gives
use Rattle.hp_heap.specs.declared.entry.HeapCall.TheVariants as call
use Rattle.hp_proc.proofs.HandFacts.HandDone.{does_made}
use Rattle.hp_proc.proofs.HandFacts.HandLeaves.{leaves_hold}
use Rattle.hp_proc.specs.Acting.{Acts, AreAsked}
use Rattle.hp_proc.specs.Contexts.{Context, after_calls, with_chunks}
use Rattle.hp_proc.specs.Doing.Done.{Called}
use Rattle.hp_proc.specs.Courses.{Standing}
use Rattle.hp_proc.specs.Doing.{Doing, Goes, Leads}
use Rattle.hp_proc.specs.ExternalLines.{leaving_all}
use Rattle.hp_proc.specs.HeldMarks.{HoldsMarked}
use Rattle.hp_proc.specs.LeavesChunks.{LeavesNoted, having_left}
use Rattle.hp_proc.specs.LineInHall.{DoesHeld}
use Rattle.hp_proc.specs.NamesInHand.{DoesNamedHeld}
use Rattle.hp_proc.specs.OwnChunks.{own_chunk, without_own_chunk}
use Rattle.hp_proc.specs.ParticipantView.{ParticipantView}
use Rattle.hp_proc.specs.declared.own_chunk.OwnChunk.{OwnChunk}
use Rattle.hp_serve.specs.Party.{IsSameParty, Party, with_maps}
use Rattle.hp_zone.specs.declared.names.Names.{Names as NamesView}

module _ (old new : ParticipantView) (heap next : HeapView) (chunk : OwnChunk) (left : LeavesNoted chunk old new heap next)
    (order : AreInOrder heap.plain.chunks) (mark : has_bit left.leaves.chunk.attached old.party.me ≡ true) where
  abbrev pub me : ℕ
  me = old.party.me

  abbrev pub at : ℕ
  at = heap.plain.index

  abbrev its_chunk : Chunk
  its_chunk = left.leaves.chunk

  pub party_is : new.party ≡ with_maps new.party.maps old.party
  party_is = ap (λ (d : ParticipantView). d.party) left.noted

  pub context_is : new.context ≡ with_chunks (without_own_chunk chunk old.context.standing.chunks) (after_calls 1 old.context)
  context_is = ap (λ (d : ParticipantView). d.context) left.noted

  pub left_same : IsSameParty old.party new.party
  left_same = record {
    me = ap (λ (p : Party). p.me) party_is;
    socket = ap (λ (p : Party). p.socket) party_is;
    plan = ap (λ (p : Party). p.plan) party_is;
    deadline = ap (λ (p : Party). p.deadline) party_is;
  }

  its_note : chunk ≡ record { heap = at; addr = chunk.addr; len = chunk.len }
  its_note = ap (λ (n : ℕ). record { heap = n; addr = chunk.addr; len = chunk.len }) left.its

  pub own_is : own_chunk at its_chunk ≡ chunk
  own_is =
      ap (λ (a : ℕ). record { heap = at; addr = a; len = its_chunk.len }) (its_addr heap.plain chunk.addr chunk.len its_chunk left.leaves.there)
      ∙ (ap (λ (l : ℕ). record { heap = at; addr = chunk.addr; len = l }) (its_len heap.plain chunk.addr chunk.len its_chunk left.leaves.there)
      ∙ sym its_note)

  pub left_pools : new.context.pools ≡ old.context.pools
  left_pools = ap (λ (c : Context). c.pools) context_is

  pub left_holds : (state : HallState) → HoldsMarked me old heap state → HoldsMarked me new next state
  left_holds state holds =
      leaves_hold old new heap next chunk.addr chunk.len left.leaves order mark left_same (ap (λ (p : Party). p.joined) party_is)
      (ap (λ (c : Context). c.calls) context_is) left_pools (ap (λ (c : Context). c.standing.attached) context_is)
      (ap (λ (c : Context). c.standing.chunks) context_is ∙ ap (λ (n : OwnChunk). without_own_chunk n old.context.standing.chunks) its_note)
      state holds

  pub left_acts : (count : ℕ) → Acts count (Some at) (Some at) [] old new (Called at (call.Unshare chunk.addr chunk.len) gives.Done ∷ []) []
  left_acts count =
      subst (λ (d : ParticipantView). Acts count (Some at) (Some at) [] old d (Called at (call.Unshare chunk.addr chunk.len) gives.Done ∷ []) [])
      (sym left.noted)
      (subst (λ (c : OwnChunk). Acts count (Some at) (Some at) [] old (having_left c new old) (Called at (call.Unshare c.addr c.len) gives.Done ∷ []) [])
      own_is
      (Acts.leaves old at its_chunk new.party.maps
      (record { rows = left.leaves.rows; answers = left.leaves.answers; others = left.leaves.others })))

  pub left_asked : (state : HallState) → AreAsked (state.seen me) (state.heard me) me old.party.asked new.party.asked
      (Called at (call.Unshare chunk.addr chunk.len) gives.Done ∷ [])
  unfolding AreAsked
  left_asked state = ap (λ (p : Party). p.asked) party_is

  pub left_counted : new.context ≡ record (after_calls 1 old.context) { standing = new.context.standing }
  left_counted = subst (λ (c : Context). c ≡ record (after_calls 1 old.context) { standing = c.standing }) (sym context_is) refl

  -- the next thing that its line does is that call
  abbrev pub left_gone : (state : HallState) (doing rest : Doing)
      → Leads doing (Called at (call.Unshare chunk.addr chunk.len) gives.Done ∷ []) rest → DoesHeld me old new heap next state state doing rest
  left_gone state doing rest leads =
      does_made old new heap (state.part me) (state.part me) (state.seen me) (state.heard me) (state.seen me) (state.heard me) state.count
      (λ steps. Did me steps state state) doing rest (Called at (call.Unshare chunk.addr chunk.len) gives.Done ∷ []) [] leads (did_same me state)
      (left_acts state.count) (λ index. refl) (λ index. refl) left_same (left_asked state) []
      (sym (append-nil (state.seen me))) [] (sym (append-nil (state.heard me))) next (call.Unshare chunk.addr chunk.len) gives.Done
      left.leaves.unshared refl left_counted

  pub left_does : (names : NamesView) (state : HallState) (doing rest : Doing)
      → Leads doing (Called at (call.Unshare chunk.addr chunk.len) gives.Done ∷ []) rest
      → DoesNamedHeld me old new names names heap next state state doing rest
  left_does names state doing rest leads = record {
    does = left_gone state doing rest leads;
    names = record { changed = refl; unread = refl; untold = (tt, tt) };
  }

  -- and where all of some chunks were to be left, the first of them is
  leads_on : (rest : List OwnChunk)
      → Leads (leaving_all (chunk ∷ rest)) (Called at (call.Unshare chunk.addr chunk.len) gives.Done ∷ []) (leaving_all rest)
  unfolding Leads Goes
  leads_on rest = (gives.Done, ap (λ (n : ℕ). Called n (call.Unshare chunk.addr chunk.len) gives.Done) (sym left.its), refl)

  pub left_first : (state : HallState) (rest : List OwnChunk)
      → DoesHeld me old new heap next state state (leaving_all (chunk ∷ rest)) (leaving_all rest)
  left_first state rest = left_gone state (leaving_all (chunk ∷ rest)) (leaving_all rest) (leads_on rest)

  pub left_standing : new.context.standing ≡ record old.context.standing { chunks = new.context.standing.chunks }
  left_standing =
      let is = ap (λ (c : Context). c.standing) context_is in
      is
      ∙ ap (λ (chunks : List OwnChunk). record old.context.standing { chunks = chunks }) (sym (ap (λ (standing : Standing). standing.chunks) is))
