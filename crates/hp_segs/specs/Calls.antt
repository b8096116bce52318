-- The conditions of the calls of a segment value.
use Rattle.std.specs.Prelude.{◌≡◌, ◌≢◌, ℕ, ◌+◌, ◌*◌, ◌<◌, ◌≤◌, Bool, false, ◌&&◌, [], length, Option, Some, None, Result, Ok, Err, IsTrue, IsSomeAnd}
use Rattle.std.specs.List.{list_any}
use Rattle.hp_base.specs.declared.row.Row.{Row}
use Rattle.hp_base.specs.declared.row.Run.{Run}
use Rattle.hp_base.specs.declared.map_answer.MapAnswer.{MapAnswer}
use Rattle.hp_segs.specs.SegsView.{SegsView, closed_number, total_of, grant_of, is_unclaimed, is_member, is_owned_by}
use Rattle.hp_segs.specs.Plan.{plan_of}
use Rattle.hp_segs.specs.LaterSteps.{armed_ask, is_failure}
use Rattle.hp_log.specs.Rows.{is_row_at, HasSlots}
use Rattle.hp_segs.specs.declared.ask.Ask.{Ask}
use Rattle.hp_segs.specs.declared.outcome.Cause.{Cause}
use Rattle.hp_segs.specs.declared.outcome.Cause.TheVariants as why
use Rattle.hp_segs.specs.declared.growth.Growth.{Growth}
use Rattle.hp_segs.specs.declared.plan_refusal.PlanRefusal.{PlanRefusal}
use Rattle.hp_segs.specs.declared.plan_refusal.PlanRefusal.TheVariants as plan
use Rattle.hp_segs.specs.declared.row_state.Segment.{Segment}

-- `open_run`: the plan of the ask is this run, and a place is left
pub record MayOpen (ask : Ask) (run : Run) (segs : SegsView) : Type 0 where
  pub participant : ask.from < 16
  pub planned : plan_of ask segs ≡ Ok run
  pub spare : 0 < segs.spare

-- the cause is that of a refused plan
abbrev pub IsRefusalOf : PlanRefusal → Cause → Type 0
IsRefusalOf (plan.StaleAsk number done) cause = ⊥
IsRefusalOf (plan.GrowthOpen generation) cause = ⊥
IsRefusalOf plan.NoList cause = cause ≡ why.NoList
IsRefusalOf (plan.TooFew have need) cause = cause ≡ why.TooFew have need
IsRefusalOf (plan.ListFull longest need) cause = cause ≡ why.ListFull longest need
IsRefusalOf (plan.CannotHold addr len) cause = cause ≡ why.CannotHold addr len

-- no row is Retiring, and a limit below the bytes of the socket with the run's denies it
abbrev pub IsDenial : Ask → Run → SegsView → Cause → Type 0
IsDenial ask run segs (why.Denied validator limit total) =
    (segs.retiring ≡ []) × (total ≡ total_of segs.segments ask.socket + run.count * run.page) × (limit < total)
IsDenial ask run segs _ = ⊥

-- the cause with which an ask is refused without a growth: that of the refused plan, or else a denial of the planned run
abbrev pub IsCloseCause : Ask → SegsView → Cause → Result Run PlanRefusal → Type 0
IsCloseCause ask segs cause (Ok run) = IsDenial ask run segs cause
IsCloseCause ask segs cause (Err refusal) = IsRefusalOf refusal cause

-- `close_ask`: the ask is not closed, no growth is open, a place is left, and the cause is the one that stands
pub record MayClose (ask : Ask) (cause : Cause) (segs : SegsView) : Type 0 where
  pub participant : ask.from < 16
  pub above : closed_number segs.asks ask.from < ask.number
  pub alone : segs.growth ≡ None
  pub spare : 0 < segs.spare
  pub caused : IsCloseCause ask segs cause (plan_of ask segs)

-- a growth is open, and no failed mapping is noted for it
abbrev pub IsUnnotedGrowth : SegsView → Type 0
IsUnnotedGrowth segs = IsSomeAnd segs.growth (λ growth. growth.noted ≡ None)

-- the cause is Late, of a member of the roster
abbrev pub IsLateMember : SegsView → Cause → Type 0
IsLateMember segs (why.Late participant from to) = IsTrue (is_member segs.roster participant)
IsLateMember segs _ = ⊥

-- the noted failure is the cause, and where none is noted a Late member
abbrev pub IsFailureCause : SegsView → Cause → Option Cause → Type 0
IsFailureCause segs cause (Some noted) = cause ≡ noted
IsFailureCause segs cause None = IsLateMember segs cause

-- the cause with which an open growth is cancelled
abbrev pub IsCancelCause : Cause → SegsView → Type 0
IsCancelCause cause segs = IsSomeAnd segs.growth (λ growth. IsFailureCause segs cause growth.noted)

-- the ask has a grant, and it is not claimed
abbrev pub IsUnclaimedGrant : ℕ → ℕ → SegsView → Type 0
IsUnclaimedGrant from number segs =
    IsSomeAnd (grant_of segs.asks from number) (λ generation. IsTrue (is_unclaimed segs.segments generation))

-- the segment is that of a run's slot at place n, and the heap's
abbrev pub is_owned_at : ℕ → Run → ℕ → Segment → Bool
is_owned_at heap run n segment =
    is_owned_by heap segment.state && is_row_at run n segment.row

-- the run has slots, and each has a row of the heap at the run's own place
pub record OwnsRun (heap : ℕ) (run : Run) (segs : SegsView) : Type 0 where
  pub some : HasSlots run
  pub owned : (n : ℕ) → n < run.count → IsTrue (list_any (is_owned_at heap run n) segs.segments)

-- no growth of the ask's participant is open
abbrev pub HasNoGrowth : ℕ → Option Growth → Type 0
HasNoGrowth from None = Unit {0}
HasNoGrowth from (Some growth) = growth.ask.from ≢ from

-- `log_stale`: the ask is closed, and a place is left
pub record MayLogStale (from number : ℕ) (segs : SegsView) : Type 0 where
  pub participant : from < 16
  pub closed : number ≤ closed_number segs.asks from
  pub spare : 0 < segs.spare

-- `log_freed`: the ask is not closed, and a place is left
pub record MayLogFreed (from number : ℕ) (segs : SegsView) : Type 0 where
  pub participant : from < 16
  pub above : closed_number segs.asks from < number
  pub spare : 0 < segs.spare

-- `note_failed`: the participant is in the roster, and the answer is a failure
pub record MayNote (participant : ℕ) (row : Row) (got : MapAnswer) (segs : SegsView) : Type 0 where
  pub member : IsTrue (is_member segs.roster participant)
  pub failure : IsTrue (is_failure row got)

-- `agree`: a growth is open, nothing is noted, and a place is left
pub record MayAgree (segs : SegsView) : Type 0 where
  pub unnoted : IsUnnotedGrowth segs
  pub spare : 0 < segs.spare

-- `cancel`: a growth is open, the cause is the one that stands, and two places are left
pub record MayCancel (cause : Cause) (segs : SegsView) : Type 0 where
  pub caused : IsCancelCause cause segs
  pub spare : 2 ≤ segs.spare

-- `drop_retiring`: no growth is open, and a place is left for each Retiring run
pub record MayDrop (segs : SegsView) : Type 0 where
  pub alone : segs.growth ≡ None
  pub spare : length segs.retiring ≤ segs.spare

-- `arm`: no growth of the ask's participant is open
pub record MayArm (ask : Ask) (segs : SegsView) : Type 0 where
  pub participant : ask.from < 16
  pub alone : HasNoGrowth ask.from segs.growth

-- `withdraw`: the participant is armed with an ask of that number
pub record MayWithdraw (from number : ℕ) (segs : SegsView) : Type 0 where
  pub participant : from < 16
  pub armed : IsSomeAnd (armed_ask segs from) (λ ask. ask.number ≡ number)

-- `join_roster`: the participant is not in the roster, and has acknowledged all records
pub record MayJoin (participant acked : ℕ) (segs : SegsView) : Type 0 where
  pub declared : participant < 16
  pub out : is_member segs.roster participant ≡ false
  pub all : acked ≡ length segs.log

-- `leave_roster`: the participant is in the roster, and is not the primary
pub record MayLeave (participant : ℕ) (segs : SegsView) : Type 0 where
  pub member : IsTrue (is_member segs.roster participant)
  pub secondary : 0 < participant
