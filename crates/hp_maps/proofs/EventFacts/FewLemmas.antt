-- A catch-up tells no more events than it takes in records.
use Rattle.std.proofs.Common.{◌≡◌, ◌≤◌, ◌⊎◌, ℕ, zero, suc, ◌+◌, Bool, true, false, not, ◌&&◌, List, [], ◌∷◌, ◌++◌, Option, Some, None, option_to_list, find, filter, length, get_or, refl, ap, ◌∙◌, sym, subst, arith, inl, inr, length-append, append_assoc, count_by}
use Rattle.std.specs.List.{All}
use Rattle.std.proofs.lemmas.Bool.{cases_Bool}
use Rattle.std.proofs.lemmas.List.Elements.{All-append, All-filter, All-head, All-tail, filter-append}
use Rattle.std.proofs.lemmas.List.Sums.{count_by-le-length}
use Rattle.hp_base.specs.declared.event.EventKind.TheVariants.{Alloc, Free}
use Rattle.hp_base.specs.declared.row.Row.{Row}
use Rattle.hp_base.specs.declared.row.Run.{Run}
use Rattle.hp_log.specs.Log.{AllMayFollow, run_in, table_from}
use Rattle.hp_log.specs.Places.{IsRowOf, IsRunOf, IsSmallPlace, ListPlace}
use Rattle.hp_log.specs.Rows.{IsUsedRun, at_slot, in_run, rows_at, rows_of}
use Rattle.hp_log.specs.declared.log_record.LogRecord.{LogRecord}
use Rattle.hp_log.specs.declared.log_record.LogRecord.TheVariants.{Add, Drop}
use Rattle.hp_log.proofs.Counts.{count_agree, count_append, count_filter, count_none, count_split}
use Rattle.hp_log.proofs.PlaceLemmas.{row_of_place}
use Rattle.hp_log.proofs.RowLemmas.{all_rows_below, in_run_from, run_rows_at}
use Rattle.hp_log.proofs.TableLemmas.{once_added}
use Rattle.hp_maps.specs.Catching.{is_dropped, undropped}
use Rattle.hp_maps.specs.Events.{dropped_events, events_of, joins_by, rows_from, stands_at}
use Rattle.hp_maps.specs.MapsView.{is_of_log, table_in}
use Rattle.hp_maps.proofs.EndLemmas.{ends_append, events_end, last_rows}
use Rattle.hp_maps.proofs.EventFacts.FreedLemmas.{drop_told, ends_dropped, run_ends_once}
use Rattle.hp_maps.proofs.ListFacts.{found_counts}
use Rattle.hp_maps.proofs.TableLaw.{every}

-- the rows that a record leaves of old ones
abbrev pub left : LogRecord → List Row → List Row
left (Add run heap) old = old
left (Drop run) old = filter (λ row. not (in_run run row)) old

-- of the rows of a table a record finds none at its slots, or finds the old ones
abbrev pub Stands : List Row → List LogRecord → List Row → LogRecord → Type 0
Stands rows before old (Add run heap) = Unit {0}
Stands rows before old (Drop run) = All (λ row. in_run run row ≡ false) (table_in rows) ⊎ (undropped before (table_in rows) ≡ old)

abbrev pub AllStand : List Row → List LogRecord → List Row → List LogRecord → Type 0
AllStand rows before old [] = Unit {0}
AllStand rows before old (entry ∷ records) =
    Stands rows before old entry × AllStand rows (before ++ entry ∷ []) (left entry old) records

-- a catch-up between two records: the old rows that are left and the fresh ones are the table there, and these records follow
pub record IsUnderWay (lists : List ListPlace) (rows : List Row) (before : List LogRecord) (n : ℕ) (old fresh : List Row) (records : List LogRecord)
    : Type 0 where
  pub follow : AllMayFollow n (old ++ fresh) records
  pub once : (list slot : ℕ) → rows_at (old ++ fresh) list slot ≤ 1
  pub placed : All (IsRowOf lists) fresh
  pub runs : All (λ entry. IsRunOf lists (run_in entry)) records
  pub stand : AllStand rows before old records

shuffled : (here logged gone : Bool) → (here && (logged && not gone)) ≡ (logged && (not gone && here))
shuffled true true true = refl
shuffled true true false = refl
shuffled true false gone = refl
shuffled false true true = refl
shuffled false true false = refl
shuffled false false gone = refl

-- the rows that stand at a slot are those of the table that are left there
stand_count : (rows : List Row) (before : List LogRecord) (list slot : ℕ)
    → count_by (stands_at before list slot) rows ≡ rows_at (undropped before (table_in rows)) list slot
stand_count rows before list slot =
    count_agree (stands_at before list slot) (λ row. is_of_log row && (not (is_dropped before row) && at_slot list slot row)) rows
    (every _ (λ row. shuffled (at_slot list slot row) (is_of_log row) (is_dropped before row)) rows)
    ∙ (sym (count_filter (λ row. not (is_dropped before row) && at_slot list slot row) is_of_log rows)
    ∙ sym (count_filter (at_slot list slot) (λ row. not (is_dropped before row)) (table_in rows)))

-- where none of the table is in a run, none stands at its slots
none_stands : (rows : List Row) (before : List LogRecord) (run : Run) → All (λ row. in_run run row ≡ false) (table_in rows)
    → (n k : ℕ) → k + n ≤ run.count → length (last_rows (joins_by Free) (rows_from rows before run k n)) ≡ 0
none_stands rows before run none zero k within = refl
none_stands rows before run none (suc n) k within =
    let away : All (λ row. at_slot run.list (run.first + k) row ≡ false) (undropped before (table_in rows)) =
    All-filter (λ row. not (is_dropped before row)) (λ row. at_slot run.list (run.first + k) row ≡ false) (table_in rows)
    (λ j d below. off (get_or (table_in rows) j d) (none j d below)) in
    let nothing : count_by (stands_at before run.list (run.first + k)) rows ≡ 0 =
    stand_count rows before run.list (run.first + k)
    ∙ count_none (at_slot run.list (run.first + k)) (undropped before (table_in rows)) away in
    let found : find (stands_at before run.list (run.first + k)) rows ≡ None =
    by_length (find (stands_at before run.list (run.first + k)) rows)
    (omega (arith, nothing, found_counts (stands_at before run.list (run.first + k)) rows)) in
    ap (λ o. length (last_rows (joins_by Free) (option_to_list o ++ rows_from rows before run (k + 1) n))) found
    ∙ none_stands rows before run none n (k + 1) (omega (arith, within))
  where
    off : (row : Row) → in_run run row ≡ false → at_slot run.list (run.first + k) row ≡ false
    off row out =
        elim (cases_Bool (at_slot run.list (run.first + k) row)) [
          | inl at ↦
              let wrong : true ≡ false = sym (in_run_from run k row (omega (arith, within)) at) ∙ out in
              cc
          | inr other ↦ other
        ]

    by_length : (o : Option Row) → length (option_to_list o) ≤ 0 → o ≡ None
    by_length None few = refl
    by_length (Some row) few = absurd (omega (arith, few))

module _ (lists : List ListPlace) (small : All IsSmallPlace lists) (rows : List Row)
    (known : All (λ row. is_of_log row ≡ true → IsRowOf lists row) rows) where
  -- a Drop tells at most one event more than there are fewer stretches of fresh rows after it
  drop_step : (run : Run) (before : List LogRecord) (old fresh : List Row) → Stands rows before old (Drop run) → IsUsedRun (old ++ fresh) run
      → ((list slot : ℕ) → rows_at (old ++ fresh) list slot ≤ 1) → All (IsRowOf lists) fresh
      → length (last_rows (joins_by Free) (rows_from rows before run 0 run.count))
      + length (last_rows (joins_by Alloc) (filter (λ row. not (in_run run row)) fresh))
      ≤ length (last_rows (joins_by Alloc) fresh) + 1
  drop_step run before old fresh (inl gone) used once placed =
      let few = once run.list run.first in
      omega (
        arith,
        none_stands rows before run gone run.count 0 (omega arith),
        ends_dropped lists small run fresh placed,
        count_by-le-length (λ row. not (in_run run row)) (last_rows (joins_by Alloc) fresh),
        count_append (at_slot run.list run.first) old fresh,
        few,
      )
  drop_step run before old fresh (inr same) used once placed =
      drop_told lists small rows before run fresh known placed
      (λ k below.
      let one = used.used k below in
      let stand : count_by (stands_at before run.list (run.first + k)) rows ≡ rows_at old run.list (run.first + k) =
      stand_count rows before run.list (run.first + k) ∙ ap (λ l. rows_at l run.list (run.first + k)) same in
      omega (arith, one, stand, count_append (at_slot run.list (run.first + k)) old fresh))
      (let few = once run.list run.first in omega (arith, few, count_append (at_slot run.list run.first) old fresh))

  after_add : (run : Run) (heap : ℕ) (before : List LogRecord) (n : ℕ) (old fresh : List Row) (records : List LogRecord)
      → IsUnderWay lists rows before n old fresh (Add run heap ∷ records)
      → IsUnderWay lists rows (before ++ Add run heap ∷ []) (n + 1) old (fresh ++ rows_of run (n + 1)) records
  after_add run heap before n old fresh records now =
      let whole : (old ++ fresh) ++ rows_of run (n + 1) ≡ old ++ (fresh ++ rows_of run (n + 1)) = append_assoc old fresh (rows_of run (n + 1)) in
      let at : IsRunOf lists run = All-head (λ entry. IsRunOf lists (run_in entry)) (Add run heap) records now.runs in
      record {
        follow = subst (λ table. AllMayFollow (n + 1) table records) whole now.follow.1;
        once = λ list slot.
            subst (λ table. rows_at table list slot ≤ 1) whole
            (once_added (old ++ fresh) run (n + 1) list slot now.follow.0.unused (now.once list slot)
            (run_rows_at run (n + 1) run.count list slot));
        placed =
            All-append (IsRowOf lists) fresh (rows_of run (n + 1)) now.placed
            (all_rows_below (IsRowOf lists) run (n + 1) run.count (λ k below. row_of_place lists run (n + 1) k at below));
        runs = All-tail (λ entry. IsRunOf lists (run_in entry)) (Add run heap) records now.runs;
        stand = now.stand.1;
      }

  after_drop : (run : Run) (before : List LogRecord) (n : ℕ) (old fresh : List Row) (records : List LogRecord)
      → IsUnderWay lists rows before n old fresh (Drop run ∷ records)
      → IsUnderWay lists rows (before ++ Drop run ∷ []) (n + 1) (filter (λ row. not (in_run run row)) old)
      (filter (λ row. not (in_run run row)) fresh) records
  after_drop run before n old fresh records now =
      let whole = filter-append (λ row. not (in_run run row)) old fresh in
      record {
        follow = subst (λ table. AllMayFollow (n + 1) table records) whole now.follow.1;
        once = λ list slot.
            subst (λ table. rows_at table list slot ≤ 1) whole
            (let few = now.once list slot in
            omega (arith, few, count_split (at_slot list slot) (λ row. not (in_run run row)) (old ++ fresh)));
        placed = All-filter (λ row. not (in_run run row)) (IsRowOf lists) fresh now.placed;
        runs = All-tail (λ entry. IsRunOf lists (run_in entry)) (Drop run) records now.runs;
        stand = now.stand.1;
      }

  -- the events of what goes and the stretches of what comes, together
  pub told_few : (before : List LogRecord) (n : ℕ) (old fresh : List Row) (records : List LogRecord) → IsUnderWay lists rows before n old fresh records
      → length (dropped_events rows before records) + length (last_rows (joins_by Alloc) (table_from n fresh records))
      ≤ length (last_rows (joins_by Alloc) fresh) + length records
  told_few before n old fresh [] now = omega arith
  told_few before n old fresh (Add run heap ∷ records) now =
      omega (
        arith,
        told_few (before ++ Add run heap ∷ []) (n + 1) old (fresh ++ rows_of run (n + 1)) records
            (after_add run heap before n old fresh records now),
        ends_append (joins_by Alloc) fresh (rows_of run (n + 1)),
        run_ends_once run (n + 1) run.count,
      )
  told_few before n old fresh (Drop run ∷ records) now =
      let gone = rows_from rows before run 0 run.count in
      omega (
        arith,
        told_few (before ++ Drop run ∷ []) (n + 1) (filter (λ row. not (in_run run row)) old)
            (filter (λ row. not (in_run run row)) fresh) records (after_drop run before n old fresh records now),
        drop_step run before old fresh now.stand.0 now.follow.0 now.once now.placed,
        events_end Free gone,
        length-append (events_of Free gone) (dropped_events rows (before ++ Drop run ∷ []) records),
      )
