-- A growth that ends has its cause: that of its grant, or that of its failure.
use Rattle.std.proofs.Common.{◌≡◌, ◌∙◌, ℕ, ◌+◌, ◌-◌, ◌<◌, ◌≤◌, List, [], ◌∷◌, ◌++◌, length, take, get_or, Option, Some, None, refl, ap, sym, subst, arith, length-append}
use Rattle.std.specs.List.{slice_get}
use Rattle.std.proofs.lemmas.List.{append_cancel_right}
use Rattle.std.proofs.lemmas.Option.{get_or_from_slice_get}
use Rattle.std.proofs.Math.Seq.{take-length}
use Rattle.hp_base.specs.declared.row.Row.{Row}
use Rattle.hp_base.specs.declared.row.Run.{Run}
use Rattle.hp_base.specs.declared.pool_line.PoolLine.{PoolLine}
use Rattle.hp_segs.specs.Calls.{IsFailureCause, IsLateMember}
use Rattle.hp_segs.specs.Causes.{HasCause, IsCaused, IsKeptAsk}
use Rattle.hp_segs.specs.Lists.{pages_beside}
use Rattle.hp_log.specs.Log.{table_after, table_of, table_at}
use Rattle.hp_segs.specs.Machine.{unopened}
use Rattle.hp_segs.specs.Plan.{IsFirstFor}
use Rattle.hp_segs.specs.Refusals.{IsAddOf, IsFailedGrowth, HasRefusalCause, IsNotedCause, IsNoted}
use Rattle.hp_log.specs.Rows.{rows_of}
use Rattle.hp_segs.specs.SegsView.{SegsView, rows_in}
use Rattle.hp_segs.specs.SoundRows.{IsGrowth}
use Rattle.hp_segs.specs.Table.{IsTable}
use Rattle.hp_segs.specs.declared.growth.Growth.{Growth}
use Rattle.hp_log.specs.declared.log_record.LogRecord.{LogRecord}
use Rattle.hp_log.specs.declared.log_record.LogRecord.TheVariants.{Add, Drop}
use Rattle.hp_segs.specs.declared.outcome.AskLog.{AskLog}
use Rattle.hp_segs.specs.declared.outcome.Cause.{Cause}
use Rattle.hp_segs.specs.declared.outcome.Cause.TheVariants.{NoList, TooFew, ListFull, CannotHold, Denied, MapFailed, Late, Withdrawn}
use Rattle.hp_segs.specs.declared.outcome.Outcome.TheVariants.{Granted, Refused}
use Rattle.hp_segs.specs.declared.row_state.RowState.TheVariants.{Opened}
use Rattle.hp_segs.specs.declared.row_state.Segment.{Segment}
use Rattle.hp_segs.proofs.AskFacts.CausedLemmas.{grown_stays}
use Rattle.hp_segs.proofs.SlotFacts.ListFacts.{get_pushed}
use Rattle.hp_log.proofs.LogLemmas.{table_of_more}
use Rattle.hp_segs.proofs.RowTables.StateLemmas.{opened_rows}

-- where the last record adds a run, the rows beside the run's are the table before it
table_before : (log : List LogRecord) (run : Run) (heap : ℕ) (rows : List Row) → 0 < length log
    → slice_get log (length log - 1) ≡ Some (Add run heap) → rows ++ rows_of run (length log) ≡ table_of log
    → rows ≡ table_at log (length log - 1)
table_before log run heap rows some last table =
    let n : ℕ = length log - 1 in
    let all : n + 1 ≡ length log = omega (arith, some) in
    let entry : get_or log n (Add run heap) ≡ Add run heap = get_or_from_slice_get log n (Add run heap) (Add run heap) last in
    let whole : take (n + 1) log ≡ log = ap (λ k. take k log) all ∙ take-length log in
    let more : table_of (take (n + 1) log) ≡ table_after (table_of (take n log)) (n + 1) (get_or log n (Add run heap)) =
    table_of_more log n (Add run heap) (omega (arith, some)) in
    let split : table_of log ≡ table_of (take n log) ++ rows_of run (length log) =
    ap table_of (sym whole)
    ∙ (more
    ∙ (ap (table_after (table_of (take n log)) (n + 1)) entry ∙ ap (λ k. table_of (take n log) ++ rows_of run k) all)) in
    append_cancel_right rows (table_of (take n log)) (rows_of run (length log)) (table ∙ split)

module _ {pools : List PoolLine} {log : List LogRecord} {segments : List Segment} (growth : Growth) (old : IsGrowth pools log segments growth) where
  -- the rows that are not Opened are the table before the growth's record
  others_before : IsTable pools log (rows_in segments) → rows_in (unopened segments) ≡ table_at log (growth.generation - 1)
  others_before table =
      let some : 0 < length log = omega (arith, old.some, old.last) in
      let rows : rows_in segments ≡ rows_in (unopened segments) ++ rows_of growth.run growth.generation =
      ap rows_in old.behind ∙ opened_rows (unopened segments) Opened (rows_of growth.run growth.generation) in
      let last : slice_get log (length log - 1) ≡ Some (Add growth.run growth.ask.heap) =
      ap (λ n. slice_get log (n - 1)) (sym old.last) ∙ old.added in
      let split : rows_in (unopened segments) ++ rows_of growth.run (length log) ≡ table_of log =
      ap (λ n. rows_in (unopened segments) ++ rows_of growth.run n) (sym old.last) ∙ (sym rows ∙ table.table) in
      table_before log growth.run growth.ask.heap (rows_in (unopened segments)) some last split
      ∙ ap (λ n. table_at log (n - 1)) (sym old.last)

  growth_grant : IsTable pools log (rows_in segments) → IsAddOf pools log growth.generation growth.ask growth.run
  growth_grant table =
      let before = others_before table in
      record {
        some = old.some;
        added = old.added;
        first = subst (λ rows. IsFirstFor pools rows growth.ask growth.run) before old.first;
        enough = subst (λ rows. growth.run.count ≤ pages_beside pools rows growth.run.list) before old.pages;
        place = old.place;
      }

  -- a grant has its cause
  pub granted_caused : (before : List AskLog) (entry : AskLog) → IsTable pools log (rows_in segments)
      → entry.outcome ≡ Granted growth.generation → entry.at ≡ length log → IsKeptAsk entry growth.ask → IsCaused pools log before entry
  granted_caused before entry table grants at kept =
      let same : growth.generation ≡ entry.at = old.last ∙ sym at in
      record {
        within = omega (arith, at);
        cause =
            subst (HasCause pools log before entry) (sym grants)
            (growth.ask, growth.run, kept, same, subst (λ at. IsAddOf pools log at growth.ask growth.run) same (growth_grant table));
      }

  growth_failed : IsTable pools log (rows_in segments)
      → IsFailedGrowth pools (log ++ Drop growth.run ∷ []) growth.generation growth.ask growth.run
  growth_failed table = record {
    grown = grown_stays pools log (Drop growth.run ∷ []) growth.generation growth.ask growth.run (omega (arith, old.last)) (growth_grant table);
    dropped = ap (slice_get (log ++ Drop growth.run ∷ [])) old.last ∙ get_pushed log (Drop growth.run);
  }

  late_cause : IsTable pools log (rows_in segments) → (segs : SegsView) (before : List AskLog) (cause : Cause) → IsLateMember segs cause
      → HasRefusalCause pools (log ++ Drop growth.run ∷ []) before growth.generation growth.ask cause
  late_cause table segs before NoList is = absurd is
  late_cause table segs before (TooFew have need) is = absurd is
  late_cause table segs before (ListFull longest need) is = absurd is
  late_cause table segs before (CannotHold addr len) is = absurd is
  late_cause table segs before (Denied validator limit total) is = absurd is
  late_cause table segs before (MapFailed participant call addr got) is = absurd is
  late_cause table segs before (Late participant from to) is = (growth.run, growth_failed table)
  late_cause table segs before (Withdrawn from to) is = absurd is

  noted_cause : IsTable pools log (rows_in segments) → (before : List AskLog) (cause : Cause) → IsNotedCause before growth cause
      → HasRefusalCause pools (log ++ Drop growth.run ∷ []) before growth.generation growth.ask cause
  noted_cause table before NoList is = absurd is
  noted_cause table before (TooFew have need) is = absurd is
  noted_cause table before (ListFull longest need) is = absurd is
  noted_cause table before (CannotHold addr len) is = absurd is
  noted_cause table before (Denied validator limit total) is = absurd is
  noted_cause table before (MapFailed participant call addr got) is =
      (record { run = growth.run; failed = growth_failed table; row = is.0 }, is.1)
  noted_cause table before (Late participant from to) is = absurd is
  noted_cause table before (Withdrawn from to) is = absurd is

  failure_cause : IsTable pools log (rows_in segments) → (segs : SegsView) (before : List AskLog) (cause : Cause) (noted : Option Cause) → growth.noted ≡ noted
      → IsNoted before (Some growth) → IsFailureCause segs cause noted
      → HasRefusalCause pools (log ++ Drop growth.run ∷ []) before growth.generation growth.ask cause
  failure_cause table segs before cause None none known is = late_cause table segs before cause is
  failure_cause table segs before cause (Some noted) some known is =
      noted_cause table before cause (subst (IsNotedCause before growth) (sym is) (rw some at known))

  -- a failure has its cause
  pub failed_caused : IsTable pools log (rows_in segments) → (segs : SegsView) (before : List AskLog) (cause : Cause) (entry : AskLog) → IsNoted before (Some growth)
      → IsFailureCause segs cause growth.noted → entry.outcome ≡ Refused cause → entry.at ≡ length log → IsKeptAsk entry growth.ask
      → IsCaused pools (log ++ Drop growth.run ∷ []) before entry
  failed_caused table segs before cause entry known is refuses at kept =
      let same : growth.generation ≡ entry.at = old.last ∙ sym at in
      record {
        within = omega (arith, at, length-append log (Drop growth.run ∷ []));
        cause =
            subst (HasCause pools (log ++ Drop growth.run ∷ []) before entry) (sym refuses) (
              growth.ask,
              kept,
              subst (λ at. HasRefusalCause pools (log ++ Drop growth.run ∷ []) before at growth.ask cause) same
                  (failure_cause table segs before cause growth.noted refl known is),
            );
      }
