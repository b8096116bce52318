-- Retiring runs that go one after another.
use Rattle.std.proofs.Common.{◌≡◌, ℕ, ◌+◌, ◌-◌, ◌<◌, Bool, true, false, not, ◌&&◌, ◌||◌, List, [], ◌∷◌, ◌++◌, map, length, filter, get_or, drop, refl, ap, ◌∙◌, sym, subst, arith, add-one, append_assoc}
use Rattle.std.proofs.Math.Seq.{drop-cons}
use Rattle.std.specs.List.{All}
use Rattle.std.proofs.lemmas.List.{append-nil}
use Rattle.hp_base.specs.declared.row.Row.{Row}
use Rattle.hp_base.specs.declared.row.Run.{Run}
use Rattle.hp_log.specs.Rows.{in_run}
use Rattle.hp_segs.specs.SegsView.{is_retiring}
use Rattle.hp_segs.specs.SoundRows.{AreHeld, in_runs}
use Rattle.hp_segs.specs.Steps.{without_run}
use Rattle.hp_segs.specs.Table.{TableView}
use Rattle.hp_segs.specs.TableLayout.{removed_one, removed_all}
use Rattle.hp_segs.specs.declared.list_info.ListInfo.{ListInfo}
use Rattle.hp_log.specs.declared.log_record.LogRecord.TheVariants.{Drop}
use Rattle.hp_segs.specs.declared.row_state.Segment.{Segment}
use Rattle.hp_segs.proofs.SlotFacts.ListFacts.{filter_alike, filter_twice}

-- the run at a place stands before those after it
pub held_from : {lists : List ListInfo} {rows : List Row} (runs : List Run) (i : ℕ) (d : Run) → i < length runs → AreHeld lists rows (drop i runs)
    → AreHeld lists rows (get_or runs i d ∷ drop (i + 1) runs)
held_from {lists} {rows} runs i d within held =
    subst (AreHeld lists rows) (drop-cons runs i d within ∙ ap (λ n. get_or runs i d ∷ drop n runs) (sym (add-one i))) held

pub removed_from : (runs : List Run) (i : ℕ) (d : Run) (table : TableView) → i < length runs
    → removed_all (drop i runs) table ≡ removed_all (drop (i + 1) runs) (removed_one (get_or runs i d) table)
removed_from runs i d table within =
    ap (λ rest. removed_all rest table) (drop-cons runs i d within ∙ ap (λ n. get_or runs i d ∷ drop n runs) (sym (add-one i)))

pub length_from : (runs : List Run) (i : ℕ) (d : Run) → i < length runs → length (drop i runs) ≡ length (drop (i + 1) runs) + 1
length_from runs i d within =
    let split = ap length (drop-cons runs i d within ∙ ap (λ n. get_or runs i d ∷ drop n runs) (sym (add-one i))) in
    omega (arith, split)

pub demorgan : (a b : Bool) → (not a && not b) ≡ not (a || b)
demorgan true b = refl
demorgan false b = refl

pub filter_all : {X : Type 0} (xs : List X) → filter (λ x. true) xs ≡ xs
filter_all [] = refl
filter_all (x ∷ xs) = ap (λ rest. x ∷ rest) (filter_all xs)

-- the table without all of the runs
pub removed_all_is : (runs : List Run) (table : TableView)
    → removed_all runs table
    ≡ record table {
      log = table.log ++ map (λ run. Drop run) runs;
      segments = filter (λ segment. not (in_runs runs segment.row)) table.segments;
      room = table.room - length runs;
    }
removed_all_is [] table =
    let log : table.log ≡ table.log ++ [] = sym (append-nil table.log) in
    let room : table.room ≡ table.room - 0 = omega arith in
    let segments : table.segments ≡ filter (λ segment. true) table.segments = sym (filter_all table.segments) in
    ap (λ l. record { pools = table.pools; log = l; segments = table.segments; room = table.room }) log
    ∙ (ap (λ g. record { pools = table.pools; log = table.log ++ []; segments = g; room = table.room }) segments
    ∙ ap (λ n. record { pools = table.pools; log = table.log ++ []; segments = filter (λ segment. true) table.segments; room = n }) room)
removed_all_is (run ∷ runs) table =
    let log : (table.log ++ Drop run ∷ []) ++ map (λ run. Drop run) runs ≡ table.log ++ (Drop run ∷ map (λ run. Drop run) runs) =
    append_assoc table.log (Drop run ∷ []) (map (λ run. Drop run) runs) in
    let room : table.room - 1 - length runs ≡ table.room - length (run ∷ runs) = omega arith in
    let segments : filter (λ segment. not (in_runs runs segment.row)) (without_run run table.segments)
    ≡ filter (λ segment. not (in_runs (run ∷ runs) segment.row)) table.segments =
    filter_twice (λ segment. not (in_run run segment.row)) (λ segment. not (in_runs runs segment.row)) table.segments
    ∙ filter_alike
    (λ segment. not (in_run run segment.row) && not (in_runs runs segment.row))
    (λ segment. not (in_runs (run ∷ runs) segment.row))
    table.segments
    (λ k d within. demorgan (in_run run (get_or table.segments k d).row) (in_runs runs (get_or table.segments k d).row)) in
    removed_all_is runs (removed_one run table)
    ∙ (ap (λ l. record { pools = table.pools; log = l; segments = filter (λ segment. not (in_runs runs segment.row)) (without_run run table.segments); room = table.room - 1 - length runs }) log
    ∙ (ap (λ g. record { pools = table.pools; log = table.log ++ (Drop run ∷ map (λ run. Drop run) runs); segments = g; room = table.room - 1 - length runs }) segments
    ∙ ap (λ n. record { pools = table.pools; log = table.log ++ (Drop run ∷ map (λ run. Drop run) runs); segments = filter (λ segment. not (in_runs (run ∷ runs) segment.row)) table.segments; room = n }) room))

-- the rows of all Retiring runs are the Retiring rows
pub retiring_out : (segments : List Segment) (runs : List Run)
    → All (λ segment. is_retiring segment.state ≡ in_runs runs segment.row) segments
    → filter (λ segment. not (in_runs runs segment.row)) segments ≡ filter (λ segment. not (is_retiring segment.state)) segments
retiring_out segments runs retired =
    filter_alike (λ segment. not (in_runs runs segment.row)) (λ segment. not (is_retiring segment.state)) segments
    (λ k d within. ap not (sym (retired k d within)))

-- the table without the Retiring rows
pub table_dropped : (runs : List Run) (table : TableView)
    → All (λ segment. is_retiring segment.state ≡ in_runs runs segment.row) table.segments
    → removed_all runs table
    ≡ record table {
      log = table.log ++ map (λ run. Drop run) runs;
      segments = filter (λ segment. not (is_retiring segment.state)) table.segments;
      room = table.room - length runs;
    }
table_dropped runs table retired =
    removed_all_is runs table
    ∙ ap
    (λ g. record { pools = table.pools; log = table.log ++ map (λ run. Drop run) runs; segments = g; room = table.room - length runs })
    (retiring_out table.segments runs retired)
