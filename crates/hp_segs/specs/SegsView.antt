-- What contracts see of a segment value, and what is read off it.
use Rattle.std.specs.Prelude.{ℕ, ◌+◌, ◌-◌, max, Bool, true, false, not, ◌&&◌, ◌==◌, List, [], ◌∷◌, map, find, Option, Some, None, slice_get, slice_index_or, if◌then◌else◌, sum_by, count_by}
use Rattle.std.specs.List.{fold, list_any}
use Rattle.std.specs.Option.{option_map, option_and_then}
use Rattle.hp_base.specs.declared.row.Row.{Row}
use Rattle.hp_base.specs.declared.row.Run.{Run}
use Rattle.hp_base.specs.declared.pool_line.PoolLine.{PoolLine}
use Rattle.hp_log.specs.Rows.{at_slot}
use Rattle.hp_segs.specs.Lists.{pages_beside}
use Rattle.hp_segs.specs.declared.ask.Ask.{Ask}
use Rattle.hp_segs.specs.declared.outcome.Outcome.{Outcome}
use Rattle.hp_segs.specs.declared.outcome.Outcome.TheVariants.{Granted, Refused, Stale, Freed}
use Rattle.hp_segs.specs.declared.outcome.AskLog.{AskLog}
use Rattle.hp_log.specs.declared.log_record.LogRecord.{LogRecord}
use Rattle.hp_log.specs.declared.log_record.LogRecord.TheVariants.{Add, Drop}
use Rattle.hp_segs.specs.declared.row_state.RowState.{RowState}
use Rattle.hp_segs.specs.declared.row_state.RowState.TheVariants.{Opened, Agreed, Owned, Retiring}
use Rattle.hp_segs.specs.declared.row_state.Segment.{Segment}
use Rattle.hp_segs.specs.declared.growth.Growth.{Growth}
use Rattle.hp_segs.specs.declared.external_range.ExternalRange.{ExternalRange}

pub record SegsView : Type 0 where
  -- the pools, each with its segment list, in their order
  pub pools : List PoolLine
  -- the records, from generation 1 on
  pub log : List LogRecord
  -- the mapped segments with their states, in the order of the log
  pub segments : List Segment
  -- the runs that are given up and not yet dropped, by rising address
  pub retiring : List Run
  -- all runs that were given up so far, in order, each with the heap that gave it up
  pub retired : List (ℕ × Run)
  -- the logged outcomes
  pub asks : List AskLog
  -- the growth that is under way
  pub growth : Option Growth
  -- which of the participants 0 to 15 are in the roster
  pub roster : List Bool
  -- the ask that each of the participants 0 to 15 armed last
  pub armed : List (Option Ask)
  -- the external memory that has a list
  pub ranges : List ExternalRange
  -- how many records and outcomes more can be logged without memory
  pub spare : ℕ

-- the rows of segments
abbrev pub rows_in : List Segment → List Row
rows_in segments = map (λ segment. segment.row) segments

-- the free pages of the pool of that place
abbrev pub pages_left : SegsView → ℕ → ℕ
pages_left segs pool = pages_beside segs.pools (rows_in segs.segments) pool

abbrev pub is_opened : RowState → Bool
is_opened Opened = true
is_opened (Agreed heap) = false
is_opened (Owned heap) = false
is_opened Retiring = false

abbrev pub is_agreed : RowState → Bool
is_agreed Opened = false
is_agreed (Agreed heap) = true
is_agreed (Owned heap) = false
is_agreed Retiring = false

abbrev pub is_owned_by : ℕ → RowState → Bool
is_owned_by owner Opened = false
is_owned_by owner (Agreed heap) = false
is_owned_by owner (Owned heap) = heap == owner
is_owned_by owner Retiring = false

abbrev pub is_retiring : RowState → Bool
is_retiring Opened = false
is_retiring (Agreed heap) = false
is_retiring (Owned heap) = false
is_retiring Retiring = true

-- the state counts for the memory of a socket: Agreed and Owned
abbrev pub is_counted : RowState → Bool
is_counted Opened = false
is_counted (Agreed heap) = true
is_counted (Owned heap) = true
is_counted Retiring = false

-- the state of a slot, where it is mapped
abbrev pub state_at : List Segment → ℕ → ℕ → Option RowState
state_at segments list slot =
    option_map (λ segment. segment.state) (find (λ segment. at_slot list slot segment.row) segments)

-- the bytes that a segment counts for on a socket: those of an Agreed or Owned row there
abbrev pub counted_bytes : ℕ → Segment → ℕ
counted_bytes socket segment =
    if (segment.row.socket == socket) && is_counted segment.state then segment.row.page else 0

-- the bytes of the Agreed and Owned rows of a socket
abbrev pub total_of : List Segment → ℕ → ℕ
total_of segments socket = sum_by (counted_bytes socket) segments

abbrev pub is_stale : Outcome → Bool
is_stale (Granted generation) = false
is_stale (Refused cause) = false
is_stale (Stale done) = true
is_stale (Freed generation) = false

-- the closed number of a participant: its greatest one with an outcome other than Stale, and 0 before that
abbrev pub closed_number : List AskLog → ℕ → ℕ
closed_number asks from =
    fold (λ done entry. if (entry.from == from) && not (is_stale entry.outcome) then max done entry.number else done) 0 asks

-- the entry is an outcome other than Stale of that ask
abbrev pub is_outcome_for : ℕ → ℕ → AskLog → Bool
is_outcome_for from number entry = (entry.from == from) && ((entry.number == number) && not (is_stale entry.outcome))

-- the first outcome other than Stale that is logged for an ask
abbrev pub outcome_of : List AskLog → ℕ → ℕ → Option Outcome
outcome_of asks from number = option_map (λ entry. entry.outcome) (find (is_outcome_for from number) asks)

-- the outcome is a grant or a refusal
abbrev pub is_grant_or_refusal : Outcome → Bool
is_grant_or_refusal (Granted generation) = true
is_grant_or_refusal (Refused cause) = true
is_grant_or_refusal (Stale done) = false
is_grant_or_refusal (Freed generation) = false

-- the entry is a grant or a refusal of that ask
abbrev pub grants_or_refuses : ℕ → ℕ → AskLog → Bool
grants_or_refuses from number entry = (entry.from == from) && ((entry.number == number) && is_grant_or_refusal entry.outcome)

-- the first grant or refusal that is logged for an ask
abbrev pub grant_or_refusal_of : List AskLog → ℕ → ℕ → Option Outcome
grant_or_refusal_of asks from number = option_map (λ entry. entry.outcome) (find (grants_or_refuses from number) asks)

-- the generation of a grant
abbrev pub granted_by : Outcome → Option ℕ
granted_by (Granted generation) = Some generation
granted_by (Refused cause) = None
granted_by (Stale done) = None
granted_by (Freed generation) = None

-- the generation of the grant of an ask
abbrev pub grant_of : List AskLog → ℕ → ℕ → Option ℕ
grant_of asks from number = option_and_then granted_by (grant_or_refusal_of asks from number)

-- the run that a record adds
abbrev pub added_run : LogRecord → Option Run
added_run (Add run heap) = Some run
added_run (Drop run) = None

-- the run that the record of that generation adds
abbrev pub run_of : List LogRecord → ℕ → Option Run
run_of log generation = option_and_then added_run (slice_get log (generation - 1))

-- the grant of that generation is not yet claimed: a row of it is Agreed
abbrev pub is_unclaimed : List Segment → ℕ → Bool
is_unclaimed segments generation =
    list_any (λ segment. (segment.row.generation == generation) && is_agreed segment.state) segments

-- the participant is in the roster
abbrev pub is_member : List Bool → ℕ → Bool
is_member roster participant = slice_index_or roster participant false

-- the roster as a number: bit p stands for participant p
abbrev pub roster_bits : List Bool → ℕ
roster_bits [] = 0
roster_bits (member ∷ roster) = (if member then 1 else 0) + (roster_bits roster + roster_bits roster)

-- there is an ask, and it has neither a grant nor a refusal
abbrev pub is_unanswered : List AskLog → Option Ask → Bool
is_unanswered asks None = false
is_unanswered asks (Some ask) = not (list_any (grants_or_refuses ask.from ask.number) asks)

-- the places that are set aside: two for each armed ask without a grant or a refusal
abbrev pub set_aside : SegsView → ℕ
set_aside segs = count_by (is_unanswered segs.asks) segs.armed + count_by (is_unanswered segs.asks) segs.armed
