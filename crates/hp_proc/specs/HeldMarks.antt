-- A participant that has a heap in hand, in which its own marks on chunks may have changed.
use Rattle.std.specs.Prelude.{◌≡◌, ℕ, ◌==◌, List, if◌then◌else◌}
use Rattle.hp_base.specs.declared.chunk.Chunk.{Chunk}
use Rattle.hp_hall.specs.HallState.{HallState, HasMapped, MayServe}
use Rattle.hp_hall.specs.Naming.{marked_by}
use Rattle.hp_heap.specs.History.{HeapView}
use Rattle.hp_proc.specs.Heaps.{sockets_of}
use Rattle.hp_proc.specs.LineInHall.{moment}
use Rattle.hp_proc.specs.OwnChunks.{AreMarkedAs}
use Rattle.hp_proc.specs.ParticipantView.{ParticipantView}
use Rattle.hp_proc.specs.Progress.{AreSettled, IsInHand}
use Rattle.hp_serve.specs.InHall.{marked_in}
use Rattle.hp_serve.specs.Party.{Party}
use Rattle.hp_serve.specs.Tied.{IsTiedAs}

-- the chunks of each heap that have its mark, with the heap in its hand as that is by now
abbrev pub marked_with : ℕ → HeapView → HallState → ℕ → List Chunk
marked_with me heap state index = if index == heap.plain.index then marked_by me heap.plain else marked_in me state index

-- its table is what the hall knows of it, but for its marks in the heap in its hand
abbrev pub IsTiedWith : ℕ → Party → HeapView → HallState → Type 0
IsTiedWith me party heap state =
    IsTiedAs (state.seen me) (state.own me) (marked_with me heap state) (state.joined me) party.joined party.maps

-- its marks are those that it had with that heap in its hand
abbrev pub HasMarksOf : ℕ → HeapView → HallState → HallState → Type 0
HasMarksOf me heap old new = (index : ℕ) → marked_in me new index ≡ marked_with me heap old index

-- it has a heap in hand, in which its own marks may have changed: its table is tied to these, and they are what it notes to be attached; its asks
-- are settled, it is in the roster where its lines left it attached, the names that it sees opened with the heaps of the pools' sockets, and where
-- it is in the roster its own table has the heap's pages
pub record HoldsMarked (me : ℕ) (doer : ParticipantView) (heap : HeapView) (state : HallState) : Type 0 where
  pub may : MayServe me state
  pub tied : IsTiedWith me doer.party heap state
  pub chunks : (index : ℕ) → AreMarkedAs index (marked_with me heap state index) doer.context.standing.chunks
  pub in_hand : IsInHand state.taken (moment me doer state) heap
  pub settled : AreSettled (moment me doer state)
  pub attached : state.joined me ≡ doer.context.standing.attached
  pub named : (state.named me).sockets ≡ sockets_of doer.context.pools
  pub mapped : HasMapped me state
