-- What holds of the logged outcomes of every segment value, and of the records that they settle.
use Rattle.std.specs.Prelude.{◌≡◌, ◌⊎◌, ℕ, ◌+◌, ◌-◌, ◌<◌, ◌≤◌, Bool, false, ◌==◌, List, [], Option, Some, None, IfSome, IsTrue, slice_get, count_by}
use Rattle.std.specs.List.{All, list_any}
use Rattle.std.specs.List.Sorted.{IsNonDecreasingBy}
use Rattle.hp_base.specs.declared.row.Run.{Run}
use Rattle.hp_base.specs.declared.pool_line.PoolLine.{PoolLine}
use Rattle.hp_log.specs.Log.{table_at}
use Rattle.hp_log.specs.declared.log_record.LogRecord.{LogRecord}
use Rattle.hp_log.specs.declared.log_record.LogRecord.TheVariants.{Add, Drop}
use Rattle.hp_segs.specs.Causes.{AllCaused}
use Rattle.hp_segs.specs.Refusals.{IsNoted}
use Rattle.hp_segs.specs.SegsView.{grants_or_refuses, is_unanswered, run_of}
use Rattle.hp_segs.specs.SoundRows.{IsOfOneHeap}
use Rattle.hp_segs.specs.declared.growth.Growth.{Growth}
use Rattle.hp_segs.specs.declared.outcome.AskLog.{AskLog}
use Rattle.hp_segs.specs.declared.outcome.Outcome.{Outcome}
use Rattle.hp_segs.specs.declared.outcome.Outcome.TheVariants.{Granted, Refused, Stale, Freed}

-- the record of a grant adds a run
abbrev pub IsGranted : List LogRecord → Outcome → Type 0
IsGranted log (Granted generation) = (0 < generation) × ((run : Run) × (run_of log generation ≡ Some run))
IsGranted log (Refused cause) = Unit {0}
IsGranted log (Stale done) = Unit {0}
IsGranted log (Freed generation) = Unit {0}

-- each ask is granted or refused at most once
abbrev pub AreAnsweredOnce : List AskLog → Type 0
AreAnsweredOnce asks = (from number : ℕ) → count_by (grants_or_refuses from number) asks ≤ 1

-- the ask of the open growth has neither a grant nor a refusal yet
abbrev pub HasUnansweredAsk : List AskLog → Option Growth → Type 0
HasUnansweredAsk asks growth = IfSome growth (λ growth. IsTrue (is_unanswered asks (Some growth.ask)))

-- the outcome is a grant of that generation
abbrev pub is_grant_of : ℕ → Outcome → Bool
is_grant_of generation (Granted granted) = granted == generation
is_grant_of generation (Refused cause) = false
is_grant_of generation (Stale done) = false
is_grant_of generation (Freed freed) = false

abbrev pub grants : ℕ → AskLog → Bool
grants generation entry = is_grant_of generation entry.outcome

-- a grant of that generation is logged
abbrev pub is_granted : List AskLog → ℕ → Bool
is_granted asks generation = list_any (grants generation) asks

-- the record of that generation is the Add of the open growth
abbrev pub is_open : Option Growth → ℕ → Bool
is_open None generation = false
is_open (Some growth) generation = growth.generation == generation

-- the record of the open growth is not granted yet
abbrev pub IsUngranted : List AskLog → Option Growth → Type 0
IsUngranted asks growth = IfSome growth (λ growth. is_granted asks growth.generation ≡ false)

-- each Add is that of the open growth, or granted, or the next record is its Drop
abbrev pub AreSettled : List LogRecord → List AskLog → Option Growth → Type 0
AreSettled log asks growth = (place : ℕ) (run : Run) (heap : ℕ) → slice_get log place ≡ Some (Add run heap)
    → is_open growth (place + 1) ≡ false → is_granted asks (place + 1) ≡ false → slice_get log (place + 1) ≡ Some (Drop run)

-- the record before that place adds the run, and is not granted
pub record IsFailedBefore (log : List LogRecord) (asks : List AskLog) (place : ℕ) (run : Run) : Type 0 where
  pub heap : ℕ
  pub some : 0 < place
  pub added : slice_get log (place - 1) ≡ Some (Add run heap)
  pub ungranted : is_granted asks place ≡ false

-- each Drop is that of a failed growth, or of a run of the rows of one heap
abbrev pub AreDrops : List LogRecord → List AskLog → Type 0
AreDrops log asks = (place : ℕ) (run : Run) → slice_get log place ≡ Some (Drop run)
    → IsFailedBefore log asks place run ⊎ IsOfOneHeap log (table_at log place) run

-- the outcomes are sound
pub record AreAsks (pools : List PoolLine) (log : List LogRecord) (asks : List AskLog) (growth : Option Growth) : Type 0 where
  -- each ask is answered at most once, and that of the open growth not yet
  pub once : AreAnsweredOnce asks
  pub unanswered : HasUnansweredAsk asks growth
  -- each outcome has its cause, and the numbers of records that they keep never fall
  pub caused : AllCaused pools log [] asks
  pub in_time : IsNonDecreasingBy (λ entry. entry.at) asks
  -- what is noted for the open growth is a failed mapping of one of its rows
  pub noted : IsNoted asks growth
  -- each generation is granted at most once, and that of the open growth not yet
  pub granted : All (λ entry. IsGranted log entry.outcome) asks
  pub granted_once : (generation : ℕ) → count_by (grants generation) asks ≤ 1
  pub ungranted : IsUngranted asks growth
  -- each record of the log is accounted for
  pub settled : AreSettled log asks growth
  pub drops : AreDrops log asks
