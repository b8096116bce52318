-- The moves of the coordinator: what a step does to the segment value, by calls of it under their conditions.
use Rattle.std.specs.Prelude.{◌≡◌, ℕ, ◌+◌, ◌≤◌, List, [], length, Some, None, replicate}
use Rattle.hp_base.specs.declared.map_answer.MapAnswer.{MapAnswer}
use Rattle.hp_base.specs.declared.row.Row.{Row}
use Rattle.hp_base.specs.declared.row.Run.{Run}
use Rattle.hp_segs.specs.Calls.{MayAgree, MayCancel, MayClose, MayDrop, MayLogFreed, MayLogStale, MayNote, MayOpen}
use Rattle.hp_segs.specs.LaterSteps.{after_note, after_stale, noted_failure}
use Rattle.hp_segs.specs.SegsView.{SegsView}
use Rattle.std.specs.Option.{option_map}
use Rattle.hp_core.specs.Mapped.{other_members}
use Rattle.hp_segs.specs.Steps.{after_agree, after_cancel, after_close, after_drop, after_freed, after_open, lowest_below}
use Rattle.hp_segs.specs.declared.ask.Ask.{Ask}
use Rattle.hp_segs.specs.declared.outcome.Cause.{Cause}
use Rattle.hp_segs.specs.declared.outcome.Cause.TheVariants.{Late}
use Rattle.hp_core.specs.declared.event.CoreEvent.{CoreEvent}
use Rattle.hp_core.specs.declared.event.CoreEvent.TheVariants.{Grow, Shrink, SelfMapped, Poll}
use Rattle.hp_core.specs.declared.phase.Phase.{Phase}
use Rattle.hp_core.specs.declared.phase.Phase.TheVariants.{Idle, Mapping, Waiting}
use Rattle.hp_core.specs.declared.times.Times.{Times}

-- an ask for memory, after the drops
pub data IsGrowStart (old new : SegsView) : Type 0 where
  -- it is refused without a growth
  refuses : (ask : Ask) (cause : Cause) → MayClose ask cause old → new ≡ after_close ask cause old → IsGrowStart old new
  -- its growth is opened by the planned run
  opens : (ask : Ask) (run : Run) → MayOpen ask run old → new ≡ after_open ask run old → IsGrowStart old new

-- an ask is started
pub data IsStart (old new : SegsView) : Type 0 where
  -- it is none with which its participant is armed
  passes : new ≡ old → IsStart old new
  -- it is closed
  stale : (from number : ℕ) → MayLogStale from number old → new ≡ after_stale from number old → IsStart old new
  -- what is Retiring goes, and the ask is for memory
  grows : MayDrop old → IsGrowStart (after_drop old) new → IsStart old new
  -- what is Retiring goes, and the ask is answered by that
  frees : (from number : ℕ) → MayDrop old → MayLogFreed from number (after_drop old) → new ≡ after_freed from number (after_drop old)
      → IsStart old new

-- a member is late: nothing is noted, it is the lowest one whose number is below the growth's generation, and so long as the deadline
-- has gone by from the reading at the first SYNC to the present one
pub record IsLate (times : Times) (acks : List ℕ) (segs : SegsView) (participant from to : ℕ) : Type 0 where
  pub unnoted : noted_failure segs ≡ None
  pub acked : ℕ
  pub lowest : lowest_below segs acks ≡ Some (record { participant = participant; acked = acked })
  pub sent : from ≡ times.since
  pub read : to ≡ times.present
  pub passed : from + times.deadline ≤ to

-- an open growth is cancelled for the failure that is noted, or for a late member
pub data IsTimely (times : Times) (acks : List ℕ) (segs : SegsView) (cause : Cause) : Type 0 where
  failed : noted_failure segs ≡ Some cause → IsTimely times acks segs cause
  is_late : (participant from to : ℕ) → cause ≡ Late participant from to → IsLate times acks segs participant from to
      → IsTimely times acks segs cause

-- a round goes on or ends
pub data IsRoundMove (times : Times) (acks : List ℕ) (old new : SegsView) : Type 0 where
  waits : new ≡ old → IsRoundMove times acks old new
  -- by the handed numbers all members have acknowledged the growth
  grants : MayAgree old → length acks ≡ 16 → lowest_below old acks ≡ None → new ≡ after_agree acks old → IsRoundMove times acks old new
  -- participant 0 is alone and has mapped the growth, whose generation its own number then is
  grants_alone : (generation : ℕ) → other_members old ≡ 0 → option_map (λ growth. growth.generation) old.growth ≡ Some generation → MayAgree old
      → lowest_below old (replicate 16 generation) ≡ None → new ≡ after_agree (replicate 16 generation) old → IsRoundMove times acks old new
  -- the growth is cancelled, and its cause stands
  cancels : (cause : Cause) → MayCancel cause old → IsTimely times acks old cause → new ≡ after_cancel cause old → IsRoundMove times acks old new

-- a step
pub data IsCoreMove (times : Times) (acks : List ℕ) (old new : SegsView) : Type 0 where
  starts : IsStart old new → IsCoreMove times acks old new
  rounds : IsRoundMove times acks old new → IsCoreMove times acks old new
  -- a failed mapping of participant 0's own is noted first
  notes : (call : ℕ) (row : Row) (got : MapAnswer) → MayNote 0 row got old → IsRoundMove times acks (after_note 0 call row got old) new
      → IsCoreMove times acks old new

-- the readings of a step: since when the round waits, and the present one
abbrev pub times_at : ℕ → Phase → ℕ → Times
times_at deadline Idle now = record { deadline = deadline; since = now; present = now }
times_at deadline (Mapping round) now = record { deadline = deadline; since = now; present = now }
times_at deadline (Waiting round since) now = record { deadline = deadline; since = since; present = now }

abbrev pub times_of : ℕ → Phase → CoreEvent → Times
times_of deadline phase (Grow ask) = times_at deadline phase 0
times_of deadline phase (Shrink from number) = times_at deadline phase 0
times_of deadline phase (SelfMapped caught now) = times_at deadline phase now
times_of deadline phase (Poll now acks) = times_at deadline phase now

-- the numbers that a step is handed
abbrev pub acks_of : CoreEvent → List ℕ
acks_of (Grow ask) = []
acks_of (Shrink from number) = []
acks_of (SelfMapped caught now) = []
acks_of (Poll now acks) = acks
