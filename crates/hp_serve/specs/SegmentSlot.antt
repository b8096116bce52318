-- How a participant holds the segment value: the rule "Halls" of docs/PARTICIPANTS.md.
use Rattle.std.specs.Prelude.{◌≡◌, ℕ, ◌^◌, ◌<◌, ◌≤◌, Bool, List, Contains, Some, None}
use Rattle.hp_base.specs.declared.chunk.Chunk.{Chunk}
use Rattle.hp_base.specs.declared.limits.TheConstants.{MAX_HEAPS}
use Rattle.hp_hall.specs.AgreedNames.{chunk_memory}
use Rattle.hp_hall.specs.HallCalls.{HasGiven}
use Rattle.hp_hall.specs.HallState.{HallState, OthersStay, PartsStay, SlotsStay, SlotsStayBut}
use Rattle.hp_hall.specs.Holding.{AreStanding}
use Rattle.hp_hall.specs.Mail.{HasInHand}
use Rattle.hp_hall.specs.Own.{Own}
use Rattle.hp_hall.specs.declared.kept.Kept.TheVariants.{Segments}
use Rattle.hp_maps.specs.MapsView.{MapsView, calls_of}
use Rattle.hp_segs.specs.SegsView.{SegsView, is_member}
use Rattle.hp_serve.specs.Tied.{IsTied}

-- the hall takes its calls, and it may take the segment value
pub record MayHold (me : ℕ) (state : HallState) : Type 0 where
  pub serves : state.serves me
  pub free : state.taken MAX_HEAPS ≡ None
  pub home : state.may_take MAX_HEAPS

-- it has taken the segment value, which has what it knows
pub record HasSegs (me : ℕ) (segs : SegsView) (state : HallState) : Type 0 where
  pub serves : state.serves me
  pub taken : state.taken MAX_HEAPS ≡ Some (Segments segs)
  pub roster : is_member segs.roster me ≡ state.joined me
  pub standing : AreStanding me (state.part me) segs

-- the hall knows that it has taken that value, which has the records that it sees
pub record HasJustTaken (me : ℕ) (segs : SegsView) (state : HallState) : Type 0 where
  pub has : HasSegs me segs state
  pub hand : HasInHand MAX_HEAPS (state.done me)
  pub seen : segs.log ≡ state.seen me

-- it has given a segment value back, and did nothing else
pub record GivesBack (me : ℕ) (segs : SegsView) (old new : HallState) : Type 0 where
  pub gave : HasGiven me MAX_HEAPS (Segments segs) old new
  pub slots : SlotsStayBut MAX_HEAPS old new
  pub others : OthersStay me old new
  pub measure : new.measure ≤ old.measure

-- it has given a segment value back and did nothing else, and its parts in heaps stay
pub record PutsBack (me : ℕ) (segs : SegsView) (old new : HallState) : Type 0 where
  pub back : GivesBack me segs old new
  pub parts : PartsStay me old new

-- it has given the segment value back after what else it did with it, and its parts in heaps stay
pub record FreesSegs (me : ℕ) (old new : HallState) : Type 0 where
  pub taken : new.taken MAX_HEAPS ≡ None
  pub home : new.may_take MAX_HEAPS
  pub slots : SlotsStayBut MAX_HEAPS old new
  pub parts : PartsStay me old new
  pub others : OthersStay me old new

-- the chunks that have a participant's mark are those that had it
abbrev pub MarksStay : ℕ → HallState → HallState → Type 0
MarksStay me old new = (heap : ℕ) → (new.part me heap).marked ≡ (old.part me heap).marked

-- a participant did something that may change its parts in heaps, and nothing else
pub record StaysButParts (me : ℕ) (old new : HallState) : Type 0 where
  pub slots : SlotsStay old new
  pub marked : MarksStay me old new
  pub joined : new.joined me ≡ old.joined me
  pub own : new.own me ≡ old.own me
  pub lines : new.lines me ≡ old.lines me
  pub others : OthersStay me old new
  pub measure : new.measure ≤ old.measure

-- it did something that may change its own part, and nothing else
pub record StaysButOwn (me : ℕ) (old new : HallState) : Type 0 where
  pub slots : SlotsStay old new
  pub parts : PartsStay me old new
  pub others : OthersStay me old new
  pub measure : new.measure ≤ old.measure

-- it did something that may change its own part and whether it is in the roster, and nothing else
pub record StaysButRoster (me : ℕ) (old new : HallState) : Type 0 where
  pub slots : SlotsStay old new
  pub part : (heap : ℕ) → new.part me heap ≡ old.part me heap
  pub lines : new.lines me ≡ old.lines me
  pub others : OthersStay me old new
  pub measure : new.measure ≤ old.measure

-- its table is tied to the log of a segment value and to the chunks that are marked for it, whose memory that value has claimed, and its mapper
-- has made few calls
pub record MayCatchUp (segs : SegsView) (marked : ℕ → List Chunk) (own : Own) (joined : Bool) (maps : MapsView) : Type 0 where
  pub tied : IsTied segs.log own marked joined maps
  pub claimed : (heap : ℕ) (chunk : Chunk) → heap < MAX_HEAPS → Contains (marked heap) chunk → Contains segs.ranges (chunk_memory chunk)
  pub calls : calls_of maps ≤ 2 ^ 63
