-- Laws of the segment value: failed growths, steps of the plain machine, and moves by calls.
use Rattle.std.specs.Prelude.{◌≡◌, ℕ, ◌+◌, ◌-◌, ◌≤◌, Bool, true, false, List, [], ◌∷◌, ◌++◌, map, Some, None, IsTrue, slice_get, if◌then◌else◌}
use Rattle.std.specs.List.{All}
use Rattle.hp_base.specs.declared.row.Run.{Run}
use Rattle.hp_segs.specs.Calls.{OwnsRun, IsUnclaimedGrant}
use Rattle.hp_log.specs.Log.{table_of}
use Rattle.hp_segs.specs.Machine.{Grows, Claims, Retires, Drops, machine_of}
use Rattle.hp_segs.specs.Moved.{SegsCall, Agree, Claim, Retire, DropRetiring, May, after, Appends, IsMovedBy, is_growth_step}
use Rattle.hp_log.specs.Rows.{IsUnusedRun, rows_of}
use Rattle.hp_segs.specs.SegsView.{SegsView, grant_of, is_opened}
use Rattle.hp_segs.specs.Sound.{IsSound}
use Rattle.hp_segs.specs.SoundAsks.{is_granted}
use Rattle.hp_segs.specs.SoundRows.{of_generation}
use Rattle.hp_segs.specs.Steps.{after_claim, after_retire, after_drop, after_grant, segment_of}
use Rattle.hp_segs.specs.declared.growth.Growth.{Growth}
use Rattle.hp_segs.specs.declared.row_state.RowState.TheVariants.{Owned}
use Rattle.hp_segs.specs.declared.row_state.Segment.{Segment}
use Rattle.hp_log.specs.declared.log_record.LogRecord.{LogRecord}
use Rattle.hp_log.specs.declared.log_record.LogRecord.TheVariants.{Add, Drop}

-- the two records of a failed growth leave the table of the log as it was
abbrev pub FailedGrowthLeaves : Type 0
FailedGrowthLeaves = (log : List LogRecord) (run : Run) (heap : ℕ) → IsUnusedRun (table_of log) run
    → table_of (log ++ Add run heap ∷ [] ++ Drop run ∷ []) ≡ table_of log

-- each call under its condition leaves a sound value sound
abbrev pub CallsKeep : Type 0
CallsKeep = (call : SegsCall) (segs : SegsView) → IsSound segs → May call segs → IsSound (after call segs)

-- each allowed call under its condition moves the value, by one growth step where it opens or grants a growth
abbrev pub CallsMove : Type 0
CallsMove = (allowed : SegsCall → Bool) (call : SegsCall) (segs : SegsView) → IsTrue (allowed call) → May call segs
    → IsMovedBy allowed (if is_growth_step call then 1 else 0) segs (after call segs)

-- a value moves to itself without a growth step; moves compose, and their growth steps add up; and they leave a sound value sound
abbrev pub MovesStay : Type 0
MovesStay = (allowed : SegsCall → Bool) (segs : SegsView) → IsMovedBy allowed 0 segs segs

abbrev pub MovesCompose : Type 0
MovesCompose = (allowed : SegsCall → Bool) (steps more : ℕ) (first second third : SegsView)
    → IsMovedBy allowed steps first second → IsMovedBy allowed more second third → IsMovedBy allowed (steps + more) first third

abbrev pub MovesKeep : Type 0
MovesKeep = (allowed : SegsCall → Bool) (steps : ℕ) (old new : SegsView) → IsSound old → IsMovedBy allowed steps old new → IsSound new

-- moves by fewer calls and steps are moves by more
abbrev pub MovesWiden : Type 0
MovesWiden = (allowed wider : SegsCall → Bool) (steps more : ℕ) (old new : SegsView)
    → ((call : SegsCall) → IsTrue (allowed call) → IsTrue (wider call)) → steps ≤ more → IsMovedBy allowed steps old new
    → IsMovedBy wider more old new

-- each call, and so each move, leaves the pools, and appends records and outcomes
abbrev pub CallsAppend : Type 0
CallsAppend = (call : SegsCall) (segs : SegsView) → Appends segs (after call segs)

abbrev pub MovesAppend : Type 0
MovesAppend = (allowed : SegsCall → Bool) (steps : ℕ) (old new : SegsView) → IsMovedBy allowed steps old new → Appends old new

-- a grant, a claim, what retires and what drops are steps of the plain machine
abbrev pub GrantIsStep : Type 0
GrantIsStep = (segs : SegsView) (growth : Growth) → IsSound segs → segs.growth ≡ Some growth
    → Grows segs.pools growth.ask growth.generation (machine_of segs) (machine_of (after_grant growth segs))

abbrev pub ClaimIsStep : Type 0
ClaimIsStep = (segs : SegsView) (from number generation : ℕ) → grant_of segs.asks from number ≡ Some generation
    → Claims generation (machine_of segs) (machine_of (after_claim from number segs))

abbrev pub RetireIsStep : Type 0
RetireIsStep = (segs : SegsView) (heap : ℕ) (run : Run) → IsSound segs → OwnsRun heap run segs
    → Retires run (machine_of segs) (machine_of (after_retire heap run segs))

abbrev pub DropIsStep : Type 0
DropIsStep = (segs : SegsView) → IsSound segs → segs.growth ≡ None → Drops segs.pools (machine_of segs) (machine_of (after_drop segs))

-- the call is a step of the plain machine, unless a member keeps a growth from being granted
abbrev pub is_machine_step : SegsCall → Bool
is_machine_step (Agree acks) = true
is_machine_step (Claim from number) = true
is_machine_step (Retire heap run) = true
is_machine_step DropRetiring = true
is_machine_step _ = false

-- the other calls leave the plain machine as it was
abbrev pub OthersLeave : Type 0
OthersLeave = (call : SegsCall) (segs : SegsView) → IsSound segs → is_machine_step call ≡ false → machine_of (after call segs) ≡ machine_of segs

-- the rows that are not Opened are those of grants: a grant of their generation is logged
abbrev pub RowsAreGranted : Type 0
RowsAreGranted = (segs : SegsView) → IsSound segs
    → All (λ segment. is_opened segment.state ≡ false → is_granted segs.asks segment.row.generation ≡ true) segs.segments

-- the segments of the generation are all rows of its record's run, each Owned by the heap of the record
pub record IsWholeClaim (log : List LogRecord) (segments : List Segment) (generation : ℕ) : Type 0 where
  pub run : Run
  pub heap : ℕ
  pub added : slice_get log (generation - 1) ≡ Some (Add run heap)
  pub rows : of_generation generation segments ≡ map (segment_of (Owned heap)) (rows_of run generation)

-- a claim leaves all rows of the grant's run Owned
abbrev pub ClaimOwnsAll : Type 0
ClaimOwnsAll = (segs : SegsView) (from number generation : ℕ) → IsSound segs → grant_of segs.asks from number ≡ Some generation
    → IsUnclaimedGrant from number segs → IsWholeClaim segs.log (after_claim from number segs).segments generation
