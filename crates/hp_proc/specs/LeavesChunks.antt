-- How a participant leaves chunks of a heap in its hand when it detaches: the rule "Lines" of docs/PARTICIPANTS.md.
use Rattle.std.specs.Prelude.{◌≡◌, true, List, [], ◌∷◌, ◌++◌}
use Rattle.hp_base.specs.Flags.{has_bit}
use Rattle.hp_external.specs.Attaching.{Leaves}
use Rattle.hp_heap.specs.ChunkOrder.{AreInOrder}
use Rattle.hp_heap.specs.History.{HeapView}
use Rattle.hp_proc.specs.OwnChunks.{without_own_chunk}
use Rattle.hp_proc.specs.ParticipantView.{ParticipantView, after_call, noting_chunks, with_party}
use Rattle.hp_proc.specs.Progress.{caller_of}
use Rattle.hp_proc.specs.declared.own_chunk.OwnChunk.{OwnChunk}
use Rattle.hp_serve.specs.Party.{with_maps}

-- a participant that notes one chunk less, has its table without that chunk's rows, and has made one call more
abbrev pub having_left : OwnChunk → ParticipantView → ParticipantView → ParticipantView
having_left chunk new old =
    noting_chunks (without_own_chunk chunk old.context.standing.chunks) (after_call (with_party (with_maps new.party.maps old.party) old))

-- with a heap in hand, whose chunks stand in order, it left a chunk of it that it had attached, and notes it no longer
pub record LeavesNoted (chunk : OwnChunk) (old new : ParticipantView) (heap heap' : HeapView) : Type 0 where
  pub its : chunk.heap ≡ heap.plain.index
  pub order : AreInOrder heap.plain.chunks
  pub leaves : Leaves (caller_of old) chunk.addr chunk.len heap heap' old.party.maps new.party.maps
  pub mark : has_bit leaves.chunk.attached old.party.me ≡ true
  pub noted : new ≡ having_left chunk new old

-- and so it left several, one after another
pub data LeavesInHand : List OwnChunk → ParticipantView → ParticipantView → HeapView → HeapView → Type 0 where
  none : (doer : ParticipantView) (heap : HeapView) → LeavesInHand [] doer doer heap heap
  more : (chunks : List OwnChunk) (chunk : OwnChunk) (old mid new : ParticipantView) (heap between after : HeapView)
      → LeavesInHand chunks old mid heap between → LeavesNoted chunk mid new between after
      → LeavesInHand (chunks ++ chunk ∷ []) old new heap after
