-- A participant in a hall: the rules "Serving" and "Tables" of docs/PARTICIPANTS.md.
use Rattle.std.specs.Prelude.{◌≡◌, ℕ, ◌+◌, List}
use Rattle.hp_base.specs.declared.chunk.Chunk.{Chunk}
use Rattle.hp_hall.specs.HallState.{HallState, IsLater, MayServe, OthersStay, SlotsStay, Waits}
use Rattle.hp_serve.specs.Falling.{own_measure}
use Rattle.hp_serve.specs.Party.{IsSameParty, Party}
use Rattle.hp_serve.specs.SegmentSlot.{MarksStay}
use Rattle.hp_serve.specs.Tied.{IsTiedAs}

-- the chunks of a heap that have a participant's mark, as it gave the heap back last
abbrev pub marked_in : ℕ → HallState → ℕ → List Chunk
marked_in me state heap = (state.part me heap).marked

-- its table is what the hall knows of it, and it has one where it is in the roster
abbrev pub IsTiedIn : ℕ → Party → HallState → Type 0
IsTiedIn me party state = IsTiedAs (state.seen me) (state.own me) (marked_in me state) (state.joined me) party.joined party.maps

-- the measure by which serving ends, the participant's own part of it among it
abbrev pub left_to_do : ℕ → (ℕ → ℕ → ℕ) → Party → HallState → ℕ
left_to_do scale pending party state = state.measure + own_measure scale (pending state.clock) party.core

-- it may serve, and its table is tied
pub record CanServe (me : ℕ) (party : Party) (state : HallState) : Type 0 where
  pub may : MayServe me state
  pub tied : IsTiedIn me party state

-- participant 0 may serve, and its table is tied
pub record CanCoordinate (party : Party) (state : HallState) : Type 0 where
  pub primary : party.me ≡ 0
  pub may : MayServe 0 state
  pub tied : IsTiedIn 0 party state

-- a participant goes on in a hall, while it does something or waits: it is the same one, its table is tied, the slots stay, and so do
-- its marks on chunks and the lines that it has told to be done
pub record RemainsIn (me : ℕ) (old new : Party) (from to : HallState) : Type 0 where
  pub same : IsSameParty old new
  pub tied : IsTiedIn me new to
  pub slots : SlotsStay from to
  pub marked : MarksStay me from to
  pub joined : to.joined me ≡ from.joined me
  pub lines : to.lines me ≡ from.lines me
  pub later : IsLater from to

-- a participant goes on in a hall, and its parts in heaps stay
pub record StaysIn (me : ℕ) (old new : Party) (from to : HallState) : Type 0 where
  pub same : IsSameParty old new
  pub tied : IsTiedIn me new to
  pub waits : Waits me from to

-- a participant goes on so, and nobody else does anything
pub record StaysAlone (me : ℕ) (old new : Party) (from to : HallState) : Type 0 where
  pub stays : StaysIn me old new from to
  pub others : OthersStay me from to
