-- What a line on an external heap makes of the names and the heap in hand, where it makes no step in a hall: the rule "Lines" of
-- docs/PARTICIPANTS.md.
use Rattle.std.specs.Prelude.{◌≡◌, ℕ, List}
use Rattle.hp_external.specs.Attaching.{Attaches, Detaches}
use Rattle.hp_external.specs.Creating.{Creates, Destroys}
use Rattle.hp_heap.specs.History.{HeapView, IsCall}
use Rattle.hp_heap.specs.declared.entry.HeapAnswer.TheVariants as gives
use Rattle.hp_heap.specs.declared.entry.HeapCall.TheVariants as call
use Rattle.hp_proc.specs.LeavesChunks.{having_left}
use Rattle.hp_proc.specs.OwnChunks.{with_own_chunk}
use Rattle.hp_proc.specs.ParticipantView.{ParticipantView, after_call, noting_chunks, with_party}
use Rattle.hp_proc.specs.Progress.{caller_of}
use Rattle.hp_proc.specs.declared.own_chunk.OwnChunk.{OwnChunk}
use Rattle.hp_serve.specs.Party.{with_maps}
use Rattle.hp_zone.specs.Directory.{PlainDirectory}
use Rattle.hp_zone.specs.declared.names.Names.{Names as NamesView}

-- the names got a heap of that name, with that socket number, and the heap in hand, which is that one, has it
pub record MakesHeap (text : List ℕ) (old new : ParticipantView) (names names' : NamesView) (heap heap' : HeapView) (socket : ℕ)
    : Type 0 where
  pub creates : Creates names names' text heap.plain.index socket
  pub named : IsCall (caller_of old) (call.Name text socket) gives.Done heap heap'
  pub counted : new ≡ after_call old

-- the names and the heap in hand lost its name
pub record DestroysHeap (text : List ℕ) (old new : ParticipantView) (names names' : NamesView) (heap heap' : HeapView) : Type 0 where
  pub destroys : Destroys (caller_of old) text names names' heap heap'
  pub counted : new ≡ after_call old

-- a participant that notes one chunk more, has its table with that chunk's rows, and has made one call more
abbrev pub having_attached : OwnChunk → ParticipantView → ParticipantView → ParticipantView
having_attached chunk new old =
    noting_chunks (with_own_chunk chunk old.context.standing.chunks) (after_call (with_party (with_maps new.party.maps old.party) old))

-- it attached a chunk of the heap in its hand, and notes it
pub record AttachesNoted (text : List ℕ) (chunk : OwnChunk) (old new : ParticipantView) (plain : PlainDirectory) (heap heap' : HeapView)
    : Type 0 where
  pub its : chunk.heap ≡ heap.plain.index
  pub attaches : Attaches (caller_of old) plain text chunk.addr chunk.len heap heap' old.party.maps new.party.maps
  pub noted : new ≡ having_attached chunk new old

-- it left one in which it has no element, and notes it no longer
pub record DetachesNoted (text : List ℕ) (chunk : OwnChunk) (old new : ParticipantView) (plain : PlainDirectory) (heap heap' : HeapView)
    : Type 0 where
  pub its : chunk.heap ≡ heap.plain.index
  pub detaches : Detaches (caller_of old) plain text chunk.addr chunk.len heap heap' old.party.maps new.party.maps
  pub noted : new ≡ having_left chunk new old
