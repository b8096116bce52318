-- A participant that has the names and a heap in hand, in which its own marks on chunks may have changed: the lines that attach a chunk and leave it.
use Rattle.std.specs.Prelude.{◌≡◌, ◌≢◌, ◌⊎◌, ℕ, Some, true}
use Rattle.hp_hall.specs.HallState.{HallState, OthersStay, SlotsStay}
use Rattle.hp_hall.specs.Holding.{AgreeWith}
use Rattle.hp_hall.specs.Named.{GivesNames}
use Rattle.hp_hall.specs.Telling.{has_names}
use Rattle.hp_hall.specs.Values.{IsSoundKept}
use Rattle.hp_hall.specs.declared.kept.Kept.TheVariants.{Names}
use Rattle.hp_hall.specs.declared.slot.TheConstants.{NAMES_SLOT}
use Rattle.hp_heap.specs.History.{HeapView}
use Rattle.hp_proc.specs.Contexts.{Context}
use Rattle.hp_proc.specs.Heaps.{sockets_of}
use Rattle.hp_proc.specs.HeldMarks.{HoldsMarked}
use Rattle.hp_proc.specs.NamesInHand.{IsIndexMeant, entries_in, with_naming}
use Rattle.hp_proc.specs.OwnChunks.{with_own_chunk, without_own_chunk}
use Rattle.hp_proc.specs.ParticipantView.{ParticipantView}
use Rattle.hp_proc.specs.declared.own_chunk.OwnChunk.{OwnChunk}
use Rattle.hp_script.specs.declared.answer.Answer.TheVariants as answer
use Rattle.hp_script.specs.declared.answer.Answer.{Answer}
use Rattle.hp_script.specs.declared.line.Act.TheVariants as act
use Rattle.hp_script.specs.declared.line.Act.{Act}
use Rattle.hp_serve.specs.Party.{IsSameParty}
use Rattle.hp_zone.specs.Directory.{PlainDirectory}
use Rattle.hp_zone.specs.declared.names.Names.{Names as NamesView}

-- it has the names and such a heap in hand, as its steps tell; they agree but for what they say of that heap and of its memory, and
-- they opened with the heaps of the pools' sockets
pub record HoldsNamedMarked (me : ℕ) (doer : ParticipantView) (names : NamesView) (heap : HeapView) (state : HallState) : Type 0 where
  pub holds : HoldsMarked me doer heap state
  pub told : has_names (state.done me) ≡ true
  pub was : NamesView
  pub taken : state.taken NAMES_SLOT ≡ Some (Names was)
  pub sound : IsSoundKept (Names names)
  pub goes_on : GivesNames (entries_in me state) was names
  pub agrees : AgreeWith (with_naming heap (state.part me)) names
  pub sockets : names.heaps.sockets ≡ sockets_of doer.context.pools

-- it did something with them, and has them in hand still, and no other value; it is the same one of the same workload, and nobody else did anything
pub record KeepsMarked (me : ℕ) (old new : ParticipantView) (names : NamesView) (heap heap' : HeapView) (from to : HallState) : Type 0 where
  pub holds : HoldsNamedMarked me new names heap' to
  pub index : heap'.plain.index ≡ heap.plain.index
  pub its_socket : heap'.plain.serves ≡ heap.plain.serves
  pub same : IsSameParty old.party new.party
  pub pools : new.context.pools ≡ old.context.pools
  pub slots : SlotsStay from to
  pub others : OthersStay me from to

-- what it notes to be attached once a line on a chunk was answered so, and nothing else it noted changed
abbrev pub NotesMapped : Answer → OwnChunk → Context → Context → Type 0
NotesMapped answer.Done chunk old new =
    new.standing ≡ record old.standing { chunks = with_own_chunk chunk old.standing.chunks }
NotesMapped _ chunk old new = new.standing ≡ old.standing

abbrev pub NotesLeft : Answer → OwnChunk → Context → Context → Type 0
NotesLeft answer.Done chunk old new =
    new.standing ≡ record old.standing { chunks = without_own_chunk chunk old.standing.chunks }
NotesLeft _ chunk old new = new.standing ≡ old.standing

-- so it is for a line on the external heap of that index
abbrev pub NotesAct : Act → ℕ → Answer → Context → Context → Type 0
NotesAct (act.Map heap addr len) index given old new = NotesMapped given (record { heap = index; addr = addr; len = len }) old new
NotesAct (act.Unmap heap addr len) index given old new = NotesLeft given (record { heap = index; addr = addr; len = len }) old new
NotesAct _ index given old new = new.standing ≡ old.standing

-- and for one on the heap that it means, or none
abbrev pub NotesNamed : Act → PlainDirectory → Answer → Context → Context → Type 0
NotesNamed deed plain given old new =
    ((given ≢ answer.Done) × (new ≡ old)) ⊎ ((index : ℕ) × IsIndexMeant deed plain index × NotesAct deed index given old new)
