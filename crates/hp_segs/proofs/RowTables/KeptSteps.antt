-- The room that a value keeps beside what is sound, after each kind of call.
use Rattle.std.proofs.Common.{◌≡◌, ℕ, ◌+◌, ◌-◌, ◌<◌, ◌≤◌, Bool, true, false, not, if◌then◌else◌, List, [], ◌∷◌, ◌++◌, map, filter, length, Option, Some, None, sym, subst, arith, count_by, sum_by}
use Rattle.hp_base.specs.declared.pool_line.PoolLine.{PoolLine}
use Rattle.std.proofs.lemmas.List.Sums.{count_by-le-length}
use Rattle.hp_base.specs.declared.row.Run.{Run}
use Rattle.hp_log.specs.Rows.{rows_of}
use Rattle.hp_log.specs.declared.log_record.LogRecord.TheVariants.{Add, Drop}
use Rattle.hp_segs.specs.AsksView.{AsksView}
use Rattle.hp_segs.specs.Calls.{MayDrop, MayOpen, OwnsRun}
use Rattle.hp_segs.specs.SegsLayout.{IsKept, view_of}
use Rattle.hp_segs.specs.SegsView.{is_retiring, is_unanswered}
use Rattle.hp_segs.specs.Sound.{IsSound}
use Rattle.hp_segs.specs.Steps.{agreed_segment, claimed_segment, insert_by_address, retired_segment, segment_of, without_run}
use Rattle.hp_segs.specs.Table.{TableView}
use Rattle.hp_segs.specs.declared.ask.Ask.{Ask}
use Rattle.hp_segs.specs.declared.external_range.ExternalRange.{ExternalRange}
use Rattle.hp_segs.specs.declared.growth.Growth.{Growth}
use Rattle.hp_segs.specs.declared.outcome.AskLog.{AskLog}
use Rattle.hp_segs.specs.declared.row_state.RowState.TheVariants.{Opened}
use Rattle.hp_segs.proofs.AskFacts.ClosedLemmas.{aside_push}
use Rattle.hp_segs.proofs.RowTables.KeptLemmas.{logged_more}
use Rattle.hp_segs.proofs.RetiredRuns.RetireLemmas.{retiring_within}
use Rattle.hp_segs.proofs.SoundSteps.{sound_dropped, sound_opened, sound_retired}

module _ {table : TableView} {asks : AsksView} {retiring : List Run} {retired : List (ℕ × Run)} {growth : Option Growth} {roster : List Bool} {armed : List (Option Ask)} {ranges : List ExternalRange} {spare room : ℕ} where
  -- an outcome is logged
  pub kept_logged : (entry : AskLog) → IsKept table asks retiring retired growth roster armed ranges spare room
      → IsSound (view_of table (logged_more asks entry) retiring retired growth roster armed ranges (spare - 1)) → 0 < spare
      → IsKept table (logged_more asks entry) retiring retired growth roster armed ranges (spare - 1) room
  kept_logged entry kept sound some =
      let fewer = aside_push asks.entries entry armed in
      record {
        sound = sound;
        records = omega (arith, kept.records, fewer, some);
        outcomes = omega (arith, kept.outcomes, fewer, some);
        runs = kept.runs;
      }

  -- there is room for more records and outcomes
  pub kept_rooms : (more records outcomes : ℕ) → IsKept table asks retiring retired growth roster armed ranges spare room
      → more + 32 ≤ records → more + 32 ≤ outcomes
      → (others : List (Option Ask)) → IsSound (view_of table asks retiring retired growth roster others ranges more)
      → IsKept (record table { room = records }) (record asks { room = outcomes }) retiring retired growth roster others ranges more room
  kept_rooms more records outcomes kept for_records for_outcomes others sound =
      let few = count_by-le-length (is_unanswered asks.entries) others in
      record {
        sound = record { rows = sound.rows; asks = sound.asks; places = sound.places; returned = sound.returned };
        records = omega (arith, few, sound.places.armed_places, for_records);
        outcomes = omega (arith, few, sound.places.armed_places, for_outcomes);
        runs = kept.runs;
      }

  -- a growth opens
  pub kept_opened : (ask : Ask) (run : Run) → IsKept table asks retiring retired growth roster armed ranges spare room
      → MayOpen ask run (view_of table asks retiring retired growth roster armed ranges spare)
      → IsKept
      (record table {
        log = table.log ++ Add run ask.heap ∷ [];
        segments = table.segments ++ map (segment_of Opened) (rows_of run (length table.log + 1));
        room = table.room - 1;
      })
      asks retiring retired (Some (record { generation = length table.log + 1; ask = ask; run = run; noted = None })) roster armed ranges (spare - 1) room
  kept_opened ask run kept may =
      let some = may.spare in
      record {
        sound = sound_opened (view_of table asks retiring retired growth roster armed ranges spare) kept.sound ask run may;
        records = omega (arith, kept.records, some);
        outcomes = omega (arith, kept.outcomes, some);
        runs = kept.runs;
      }

  -- the open growth is granted
  pub kept_granted : (grown : Growth) (entry : AskLog) → IsKept table asks retiring retired growth roster armed ranges spare room
      → IsSound
      (view_of (record table { segments = map (agreed_segment grown.generation grown.ask.heap) table.segments }) (logged_more asks entry) retiring retired None
      roster armed ranges (spare - 1)) → 0 < spare
      → IsKept (record table { segments = map (agreed_segment grown.generation grown.ask.heap) table.segments }) (logged_more asks entry) retiring retired None
      roster armed ranges (spare - 1) room
  kept_granted grown entry kept sound some =
      let fewer = aside_push asks.entries entry armed in
      record {
        sound = sound;
        records = omega (arith, kept.records, fewer, some);
        outcomes = omega (arith, kept.outcomes, fewer, some);
        runs = kept.runs;
      }

  -- the open growth fails
  pub kept_failed : (run : Run) (entry : AskLog) → IsKept table asks retiring retired growth roster armed ranges spare room
      → IsSound
      (view_of (record table { log = table.log ++ Drop run ∷ []; segments = without_run run table.segments; room = table.room - 1 })
      (logged_more asks entry) retiring retired None roster armed ranges (spare - 2)) → 2 ≤ spare
      → IsKept (record table { log = table.log ++ Drop run ∷ []; segments = without_run run table.segments; room = table.room - 1 })
      (logged_more asks entry) retiring retired None roster armed ranges (spare - 2) room
  kept_failed run entry kept sound some =
      let fewer = aside_push asks.entries entry armed in
      record {
        sound = sound;
        records = omega (arith, kept.records, fewer, some);
        outcomes = omega (arith, kept.outcomes, fewer, some);
        runs = kept.runs;
      }

  -- the rows of a grant are claimed
  pub kept_claimed : (generation : ℕ) → IsKept table asks retiring retired growth roster armed ranges spare room
      → IsSound (view_of (record table { segments = map (claimed_segment generation) table.segments }) asks retiring retired growth roster armed ranges spare)
      → IsKept (record table { segments = map (claimed_segment generation) table.segments }) asks retiring retired growth roster armed ranges spare room
  kept_claimed generation kept sound = record { sound = sound; records = kept.records; outcomes = kept.outcomes; runs = kept.runs }

  -- a run is given up
  pub kept_retired : {more : ℕ} (heap : ℕ) (run : Run) → room ≤ more → (kept : IsKept table asks retiring retired growth roster armed ranges spare room)
      → OwnsRun heap run (view_of table asks retiring retired growth roster armed ranges spare)
      → IsKept (record table { segments = map (retired_segment run) table.segments }) asks (insert_by_address run retiring) (retired ++ (heap, run) ∷ []) growth roster armed ranges
      spare more
  kept_retired heap run enough kept owns =
      record {
        sound = sound_retired (view_of table asks retiring retired growth roster armed ranges spare) kept.sound heap run owns;
        records = kept.records;
        outcomes = kept.outcomes;
        runs = omega (arith, kept.runs, enough);
      }

  -- there is room for one Retiring run more
  pub room_to_retire : (heap : ℕ) (run : Run) → IsKept table asks retiring retired growth roster armed ranges spare room
      → OwnsRun heap run (view_of table asks retiring retired growth roster armed ranges spare) → length retiring < room
  room_to_retire heap run kept owns =
      let within = retiring_within (view_of table asks retiring retired growth roster armed ranges spare) kept.sound heap run owns in
      omega (arith, within, kept.runs)

  -- all Retiring runs go
  pub kept_dropped : {more : ℕ} → room ≤ more → IsKept table asks retiring retired growth roster armed ranges spare room
      → MayDrop (view_of table asks retiring retired growth roster armed ranges spare)
      → IsKept
      (record table {
        log = table.log ++ map (λ run. Drop run) retiring;
        segments = filter (λ segment. not (is_retiring segment.state)) table.segments;
        room = table.room - length retiring;
      })
      asks [] retired growth roster armed ranges (spare - length retiring) more
  kept_dropped enough kept may =
      let some = may.spare in
      record {
        sound = sound_dropped (view_of table asks retiring retired growth roster armed ranges spare) kept.sound may;
        records = omega (arith, kept.records, some);
        outcomes = omega (arith, kept.outcomes, some);
        runs = omega (arith, kept.runs, enough);
      }

  -- the places of the participants and external memory change, and no armed ask
  pub kept_places : (members : List Bool) (others : List ExternalRange) → IsKept table asks retiring retired growth roster armed ranges spare room
      → IsSound (view_of table asks retiring retired growth members armed others spare) → IsKept table asks retiring retired growth members armed others spare room
  kept_places members others kept sound = record { sound = sound; records = kept.records; outcomes = kept.outcomes; runs = kept.runs }

  -- what is noted for the open growth changes
  pub kept_growth : (other : Option Growth) → IsKept table asks retiring retired growth roster armed ranges spare room
      → IsSound (view_of table asks retiring retired other roster armed ranges spare) → IsKept table asks retiring retired other roster armed ranges spare room
  kept_growth other kept sound = record { sound = sound; records = kept.records; outcomes = kept.outcomes; runs = kept.runs }

  -- an armed ask is answered by the places that are set aside for it, and takes so many records
  pub kept_answered : (log : TableView) (entry : AskLog) (other : Option Growth) → IsKept table asks retiring retired growth roster armed ranges spare room
      → log.pools ≡ table.pools → table.room ≤ log.room + 1
      → IsSound (view_of log (logged_more asks entry) retiring retired other roster armed ranges spare)
      → count_by (is_unanswered (asks.entries ++ entry ∷ [])) armed + 1 ≤ count_by (is_unanswered asks.entries) armed
      → IsKept log (logged_more asks entry) retiring retired other roster armed ranges spare room
  kept_answered log entry other kept pools records sound falls = record {
    sound = sound;
    records = omega (arith, kept.records, falls, records);
    outcomes = omega (arith, kept.outcomes, falls);
    runs = subst (λ pools. sum_by (λ (line : PoolLine). line.slots) pools ≤ room) (sym pools) kept.runs;
  }

-- one of two kept values is kept
pub kept_ranges_by : {table : TableView} {asks : AsksView} {retiring : List Run} {retired : List (ℕ × Run)} {growth : Option Growth} {roster : List Bool} {armed : List (Option Ask)} {more fewer : List ExternalRange} {spare room : ℕ}
    (b : Bool) → IsKept table asks retiring retired growth roster armed more spare room → IsKept table asks retiring retired growth roster armed fewer spare room
    → IsKept table asks retiring retired growth roster armed (if b then more else fewer) spare room
kept_ranges_by true more fewer = more
kept_ranges_by false more fewer = fewer
