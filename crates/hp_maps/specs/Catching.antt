-- Catching up with the log: which rows go, which come, and what the mapper answers. The rule "Catching up" of docs/TABLES.md.
use Rattle.std.specs.Prelude.{◌≡◌, ℕ, ◌+◌, ◌-◌, ◌*◌, ◌^◌, ◌<◌, ◌≤◌, Bool, true, false, not, ◌&&◌, List, [], ◌∷◌, ◌++◌, length, filter, map, take, drop, Option, Some, slice_get}
use Rattle.std.specs.List.{All, list_any}
use Rattle.hp_base.specs.Mapping.{AreApart, FailingCall, FailsSo, is_refused, own_place}
use Rattle.hp_base.specs.declared.caught.Caught.{Caught}
use Rattle.hp_base.specs.declared.caught.Caught.TheVariants as caught
use Rattle.hp_base.specs.declared.map_answer.MapAnswer.{MapAnswer}
use Rattle.hp_base.specs.declared.map_answer.MapAnswer.TheVariants as answer
use Rattle.hp_base.specs.declared.row.Row.{Row}
use Rattle.hp_base.specs.declared.row.Run.{Run}
use Rattle.hp_log.specs.Log.{IsWellFormed, run_in, table_at}
use Rattle.hp_log.specs.Rows.{rows_of, in_run, IsSmallRun}
use Rattle.hp_log.specs.declared.log_record.LogRecord.{LogRecord}
use Rattle.hp_log.specs.declared.log_record.LogRecord.TheVariants.{Add, Drop}
use Rattle.hp_maps.specs.MapsView.{MapsView, AreClearOf, calls_of, chunk_rows, is_of_log, table_in}

-- the records after the first n, up to record `to`
abbrev pub newer : List LogRecord → ℕ → ℕ → List LogRecord
newer records n to = take (to - n) (drop n records)

-- the record drops a row that stands before it
abbrev pub drops : Row → LogRecord → Bool
drops row (Add run heap) = false
drops row (Drop run) = in_run run row

-- one of the records drops the row
abbrev pub is_dropped : List LogRecord → Row → Bool
is_dropped records row = list_any (drops row) records

-- the rows that none of the records drops
abbrev pub undropped : List LogRecord → List Row → List Row
undropped records rows = filter (λ row. not (is_dropped records row)) rows

-- what a record of that generation brings where others follow it: the rows of its Add that none of these drops, by rising address
abbrev pub brought : ℕ → LogRecord → List LogRecord → List Row
brought generation (Add run heap) later = undropped later (rows_of run generation)
brought generation (Drop run) later = []

-- what the records after the first n bring, in the order of the log
abbrev pub new_rows : ℕ → List LogRecord → List Row
new_rows n [] = []
new_rows n (entry ∷ records) = brought (n + 1) entry records ++ new_rows (n + 1) records

-- a row of the log that one of the records drops
abbrev pub goes : List LogRecord → Row → Bool
goes records row = is_of_log row && is_dropped records row

-- the rows that stay: those of chunks, and those of the log that none of the records drops
abbrev pub kept : List LogRecord → List Row → List Row
kept records rows = filter (λ row. not (goes records row)) rows

-- the rows at the end: the new ones are there only where all of them are mapped
abbrev pub rows_after : List Row → List Row → Caught → List Row
rows_after stay fresh caught.Done = stay ++ fresh
rows_after stay fresh (caught.Refused row call) = stay
rows_after stay fresh (caught.Elsewhere row call got) = stay

-- the number at the end: it moves only where all new rows are mapped
abbrev pub number_after : ℕ → ℕ → Caught → ℕ
number_after n to caught.Done = to
number_after n to (caught.Refused row call) = n
number_after n to (caught.Elsewhere row call got) = n

-- the mapper refused a row
abbrev pub was_refused : Caught → Bool
was_refused caught.Done = false
was_refused (caught.Refused row call) = true
was_refused (caught.Elsewhere row call got) = false

-- an answer is another place than the row's own
pub record IsElsewhere (row : Row) (got : MapAnswer) : Type 0 where
  pub mapped : is_refused got ≡ false
  pub other : got ≡ own_place row → ⊥

-- the mapping calls of rows up to one that failed: the rows before it came out at their own places, and this call is the last
pub record HasFailed (fresh : List Row) (old new : List MapAnswer) (row : Row) (call : ℕ) (got : MapAnswer) : Type 0 where
  pub place : ℕ
  pub its_row : slice_get fresh place ≡ Some row
  pub answered : new ≡ (old ++ map own_place (take place fresh)) ++ got ∷ []
  pub its_call : call ≡ length new

-- the mapping calls of rows, by all answers before and after: one call for each row, in order, each answered its own place; or none after
-- one that failed
abbrev pub HasAnswered : List Row → List MapAnswer → List MapAnswer → Caught → Type 0
HasAnswered fresh old new caught.Done = new ≡ old ++ map own_place fresh
HasAnswered fresh old new (caught.Refused row call) = HasFailed fresh old new row call answer.Refused
HasAnswered fresh old new (caught.Elsewhere row call got) = HasFailed fresh old new row call got × IsElsewhere row got

-- a mapping that failed has a reason: at that call the mapper may answer the row so
abbrev pub HasReason : Option (List FailingCall) → Caught → Type 0
HasReason may_fail caught.Done = Unit {0}
HasReason may_fail (caught.Refused row call) = FailsSo may_fail call row answer.Refused
HasReason may_fail (caught.Elsewhere row call got) = FailsSo may_fail call row got

-- the numbers of a run are within their types, also one page behind its end, where a misplaced row may come out
pub record IsMappableRun (run : Run) : Type 0 where
  pub small : IsSmallRun run
  pub beyond : run.addr + (run.count + 1) * run.page < 2 ^ 64

-- how a table lags behind the log: it is the table of the first n records, without what the records up to another one drop
pub record Lags (records : List LogRecord) (n to : ℕ) (table : List Row) : Type 0 where
  pub reached : ℕ
  pub from : n ≤ reached
  pub up_to : reached ≤ to
  pub left : table ≡ undropped (newer records n reached) (table_at records n)

-- when a table may catch up with the records up to `to`
pub record CanCatchUp (maps : MapsView) (records : List LogRecord) (to : ℕ) : Type 0 where
  pub from : maps.number ≤ to
  pub within : to ≤ length records
  -- no slot has two rows at any of the records
  pub formed : IsWellFormed records
  pub mappable : All (λ entry. IsMappableRun (run_in entry)) records
  -- it is a table of these records, or one that lags
  pub lags : Lags records maps.number to (table_in maps.rows)
  -- there is room for the table at `to` beside the rows of chunks
  pub room : length (chunk_rows maps.rows) + length (table_at records to) ≤ maps.capacity
  -- no row that stays has the address of a new one, nor has another new one
  pub clear : AreClearOf (kept (newer records maps.number to) maps.rows) (new_rows maps.number (newer records maps.number to))
  pub apart : AreApart (new_rows maps.number (newer records maps.number to))
  pub calls : calls_of maps ≤ 2 ^ 63
