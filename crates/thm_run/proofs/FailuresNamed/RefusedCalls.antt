-- What a catching up leaves of a mapper's calls: one that failed is a call more, at which the mapper may fail, and the row is one of the
-- log.
use Rattle.std.proofs.Common.{◌≡◌, ◌∙◌, ℕ, zero, suc, ◌+◌, ◌-◌, ◌<◌, ◌≤◌, true, List, [], ◌∷◌, ◌++◌, length, map, take, get_or, Option, Some, None, ◌==◌, eq-eqb, inl, inr, refl, ap, sym, subst, arith, append_assoc, length-append}
use Rattle.std.specs.Prelude.{Contains, slice_get, ⊤}
use Rattle.std.specs.List.{All}
use Rattle.std.specs.List.Sorted.{IsStrictlyIncreasing}
use Rattle.std.proofs.lemmas.Bool.{cases_lt}
use Rattle.std.proofs.lemmas.List.{get_or-append_right, get_or_append_left, take-append-le}
use Rattle.hp_base.specs.Mapping.{FailingCall, may_fail_at, own_place, FailsSo}
use Rattle.hp_base.specs.declared.caught.Caught.{Caught}
use Rattle.hp_base.specs.declared.caught.Caught.TheVariants as caught
use Rattle.hp_base.specs.declared.chunk.Chunk.{Chunk}
use Rattle.hp_base.specs.declared.map_answer.MapAnswer.{MapAnswer}
use Rattle.hp_base.specs.declared.map_answer.MapAnswer.TheVariants as answer
use Rattle.hp_base.specs.declared.row.Row.{Row}
use Rattle.hp_heap.proofs.AllocFacts.ChoiceLaw.{Contains-here, Contains-there}
use Rattle.hp_log.specs.Log.{table_at, table_of}
use Rattle.hp_log.specs.declared.log_record.LogRecord.{LogRecord}
use Rattle.hp_maps.specs.Catching.{HasAnswered, HasFailed, HasReason, new_rows, newer}
use Rattle.hp_maps.specs.Chunks.{rows_of_chunk}
use Rattle.hp_maps.specs.MapsView.{MapsView}
use Rattle.hp_proc.specs.Courses.{call_refused}
use Rattle.hp_proc.specs.Doing.{Done}
use Rattle.hp_proc.specs.Doing.Done.{CaughtUp, ChunkMapped, Looked}
use Rattle.hp_proc.specs.Seen.{IsRefusedRow}
use Rattle.hp_proc.specs.Handed.{IsRowOfChunk, calls_failed}
use Rattle.hp_serve.specs.Serving.{CatchesUp}
use Rattle.thm_run.proofs.SeatFacts.TableRows.{row_of_table}
use Rattle.std.proofs.lemmas.List.Folds.{list_any_at}

-- what is read at a place is among them
read_among : {X : Type 0} (xs : List X) (place : ℕ) (x : X) → slice_get xs place ≡ Some x → Contains xs x
read_among [] place x here = cc
read_among (first ∷ xs) zero x here =
    let same : first ≡ x = cc in
    subst (Contains (first ∷ xs)) same (Contains-here first xs)
read_among (first ∷ xs) (suc place) x here = Contains-there first x xs (read_among xs place x here)

-- the calls by which catchings up were refused, of two traces
pub refusals_both : (trace more : List Done) → calls_failed (trace ++ more) ≡ calls_failed trace ++ calls_failed more
refusals_both [] more = refl
refusals_both (CaughtUp to ended ∷ trace) more =
    ap (λ calls. call_refused ended ++ calls) (refusals_both trace more)
    ∙ sym (append_assoc (call_refused ended) (calls_failed trace) (calls_failed more))
refusals_both (ChunkMapped chunk ended ∷ trace) more =
    ap (λ calls. call_refused ended ++ calls) (refusals_both trace more)
    ∙ sym (append_assoc (call_refused ended) (calls_failed trace) (calls_failed more))
refusals_both (_ ∷ trace) more = refusals_both trace more

-- numbers that rise still do with one more that is above a bound of theirs
pub rising_push : (xs : List ℕ) (bound last : ℕ) → IsStrictlyIncreasing xs → All (λ n. n ≤ bound) xs → bound < last
    → IsStrictlyIncreasing (xs ++ last ∷ [])
rising_push xs bound last rising below above k within =
    let long = length-append xs (last ∷ []) in
    elim (cases_lt (k + 1) (length xs)) [
      | inl inside ↦
          let here = get_or_append_left xs (last ∷ []) 0 k (omega (arith, inside)) in
          let next = get_or_append_left xs (last ∷ []) 0 (k + 1) inside in
          omega (arith, here, next, rising k inside)
      | inr outside ↦
          let end : k + 1 ≡ length xs = omega (arith, outside, within, long) in
          let here = get_or_append_left xs (last ∷ []) 0 k (omega (arith, end)) in
          let next = get_or-append_right xs (last ∷ []) (length xs) (k + 1) 0 refl (omega (arith, end)) in
          let place : k + 1 - length xs ≡ 0 = omega (arith, end) in
          let seam : get_or (last ∷ []) (k + 1 - length xs) 0 ≡ last = ap (λ n. get_or (last ∷ []) n 0) place in
          omega (arith, here, next, seam, below k 0 (omega (arith, end)), above)
    ]

-- where a call may fail with an answer, it may fail
fails_there : (may_fail : Option (List FailingCall)) (call : ℕ) (row : Row) (got : MapAnswer) → FailsSo may_fail call row got
    → may_fail_at may_fail call ≡ true
fails_there None call row got so = refl
fails_there (Some calls) call row got so =
    let (place, below, here) = so.its in
    list_any_at (λ (one : FailingCall). one.call == call) calls place (record { call = call; how = so.how }) below
    (subst (λ (one : FailingCall). (one.call == call) ≡ true) (sym here) (eq-eqb call call refl))

-- what a catching up brings of refused calls: none, or one that is a call more, at which the mapper may fail
pub data BringsCalls (old new : List MapAnswer) (may_fail : Option (List FailingCall)) (calls : List ℕ) : Type 0 where
  none : calls ≡ [] → length old ≤ length new → BringsCalls old new may_fail calls
  one : (call : ℕ) → calls ≡ call ∷ [] → length old < call → call ≡ length new → may_fail_at may_fail call ≡ true
      → BringsCalls old new may_fail calls

pub brings_longer : (old new : List MapAnswer) (may_fail : Option (List FailingCall)) (calls : List ℕ) → BringsCalls old new may_fail calls
    → length old ≤ length new
brings_longer old new may_fail calls (none is longer) = longer
brings_longer old new may_fail calls (one call is more last may) = omega (arith, more, last)

failed_call : (fresh : List Row) (old new : List MapAnswer) (row : Row) (call : ℕ) (got : MapAnswer)
    → HasFailed fresh old new row call got → length old < length new
failed_call fresh old new row call got failed =
    let before = length-append (old ++ map own_place (take failed.place fresh)) (got ∷ []) in
    let first = length-append old (map own_place (take failed.place fresh)) in
    omega (arith, ap length failed.answered, before, first)

pub brings_calls : (fresh : List Row) (old new : List MapAnswer) (may_fail : Option (List FailingCall)) (ended : Caught) → HasAnswered fresh old new ended
    → HasReason may_fail ended → BringsCalls old new may_fail (call_refused ended)
brings_calls fresh old new may_fail caught.Done answered reason =
    none refl (omega (arith, ap length answered, length-append old (map own_place fresh)))
brings_calls fresh old new may_fail (caught.Refused row call) failed reason =
    one call refl (omega (arith, failed.its_call, failed_call fresh old new row call _ failed)) failed.its_call
    (fails_there may_fail call row answer.Refused reason)
brings_calls fresh old new may_fail (caught.Elsewhere row call got) failed reason =
    one call refl (omega (arith, failed.0.its_call, failed_call fresh old new row call got failed.0)) failed.0.its_call
    (fails_there may_fail call row got reason)

-- a row that was refused is one of the table of all records
refused_row : (log : List LogRecord) (old new : MapsView) (ended : Caught)
    → HasAnswered (new_rows old.number (newer log old.number (length log))) old.answers new.answers ended
    → IsRefusedRow log (CaughtUp (length log) ended)
refused_row log old new caught.Done answered = tt
refused_row log old new (caught.Refused row call) failed =
    row_of_table log old.number row (read_among (new_rows old.number (newer log old.number (length log))) failed.place row failed.its_row)
refused_row log old new (caught.Elsewhere row call got) failed = (
  row_of_table log old.number row
      (read_among (new_rows old.number (newer log old.number (length log))) failed.0.place row failed.0.its_row),
  failed.1,
)

module _ (log : List LogRecord) (old new : MapsView) (ended : Caught) (caught_up : CatchesUp log old new ended) where
  -- a catching up brings such calls
  pub catching_brings : BringsCalls old.answers new.answers old.may_fail (call_refused ended)
  catching_brings =
      brings_calls (new_rows old.number (newer log old.number (length log))) old.answers new.answers old.may_fail ended caught_up.answered
      caught_up.reason

  -- and where it was refused, the row is one of the log
  pub catching_row : IsRefusedRow log (CaughtUp (length log) ended)
  catching_row = refused_row log old new ended caught_up.answered

  -- the mapper made no fewer calls
  pub catching_longer : length old.answers ≤ length new.answers
  catching_longer = brings_longer old.answers new.answers old.may_fail (call_refused ended) catching_brings

-- a row of a chunk that was refused is one of the chunk's
pub chunk_row : (chunk : Chunk) (old new : List MapAnswer) (ended : Caught) → HasAnswered (rows_of_chunk chunk) old new ended
    → IsRowOfChunk chunk ended
chunk_row chunk old new caught.Done answered = tt
chunk_row chunk old new (caught.Refused row call) failed = read_among (rows_of_chunk chunk) failed.place row failed.its_row
chunk_row chunk old new (caught.Elsewhere row call got) failed =
    (read_among (rows_of_chunk chunk) failed.0.place row failed.0.its_row, failed.1)

-- what was done is of these records: a look shows no more than there are, and a row that was refused is one of them, or of a chunk
abbrev pub IsOfLog : List LogRecord → Done → Type 0
IsOfLog log (Looked records) = records ≤ length log
IsOfLog log (CaughtUp to ended) = (to ≤ length log) × IsRefusedRow log (CaughtUp to ended)
IsOfLog log (ChunkMapped chunk ended) = IsRowOfChunk chunk ended
IsOfLog log _ = ⊤

-- so it is with more records
pub of_more_records : (log more : List LogRecord) (done : Done) → IsOfLog log done → IsOfLog (log ++ more) done
of_more_records log more (Looked records) is = omega (arith, is, length-append log more)
of_more_records log more (CaughtUp to ended) is = (omega (arith, is.0, length-append log more), by_end ended is.1)
  where
    table_stays : table_at log to ≡ table_at (log ++ more) to
    table_stays = ap table_of (sym (take-append-le to log more is.0))

    by_end : (ended : Caught) → IsRefusedRow log (CaughtUp to ended) → IsRefusedRow (log ++ more) (CaughtUp to ended)
    by_end caught.Done row = tt
    by_end (caught.Refused row call) its = subst (λ table. Contains table row) table_stays its
    by_end (caught.Elsewhere row call got) its = (subst (λ table. Contains table row) table_stays its.0, its.1)
of_more_records log more (ChunkMapped chunk ended) is = is
of_more_records log more _ is = tt
