-- The table after each step that logs records.
use Rattle.std.proofs.Common.{◌≡◌, ◌==◌, ◌∙◌, ℕ, ◌+◌, ◌<◌, ◌≤◌, Bool, true, false, not, ◌&&◌, cond, List, [], ◌∷◌, ◌++◌, map, filter, length, get_or, Some, inl, inr, refl, ap, sym, subst, arith, count_by, append_assoc}
use Rattle.std.specs.List.{All, AllPairs, slice_get}
use Rattle.std.specs.Option.{option_map_or}
use Rattle.std.proofs.lemmas.Bool.{and_parts, cases_eq, cases_lt, eqb-true}
use Rattle.std.proofs.lemmas.List.{append-nil}
use Rattle.std.proofs.lemmas.Option.{get_or_from_slice_get, slice_get_within}
use Rattle.hp_base.specs.PoolLines.{IsOtherPool}
use Rattle.hp_base.specs.declared.pool_line.PoolLine.{PoolLine}
use Rattle.hp_base.specs.declared.row.Row.{Row}
use Rattle.hp_base.specs.declared.row.Run.{Run}
use Rattle.hp_log.specs.Rows.{in_run, rows_of, IsUnusedRun}
use Rattle.hp_log.specs.declared.log_record.LogRecord.{LogRecord}
use Rattle.hp_log.specs.declared.log_record.LogRecord.TheVariants.{Add, Drop}
use Rattle.hp_segs.specs.Lists.{free_pages, is_of_pool, lists_of, pages_beside}
use Rattle.hp_segs.specs.SegsView.{rows_in, is_retiring}
use Rattle.hp_segs.specs.SoundRows.{AreHeld, in_runs}
use Rattle.hp_segs.specs.Steps.{segment_of, without_run}
use Rattle.hp_segs.specs.Table.{HasPages, IsListRun, IsTable}
use Rattle.hp_segs.specs.declared.row_state.RowState.TheVariants.{Opened}
use Rattle.hp_segs.specs.declared.row_state.Segment.{Segment}
use Rattle.hp_segs.proofs.AddLemmas.{table_added}
use Rattle.hp_segs.proofs.RetiredRuns.DropLemmas.{held_first, held_without}
use Rattle.hp_segs.proofs.SlotFacts.ListFacts.{filter_alike, filter_twice}
use Rattle.hp_segs.proofs.SlotFacts.ListsLemmas.{line_of_list}
use Rattle.hp_segs.proofs.SlotFacts.PoolCounts.{added_count, run_of_pool}
use Rattle.hp_segs.proofs.RetiredRuns.RemoveAllLemmas.{demorgan, filter_all, retiring_out}
use Rattle.hp_segs.proofs.RetiredRuns.RemoveLemmas.{rows_without, table_removed}
use Rattle.hp_segs.proofs.RowTables.StateLemmas.{opened_rows, removed_rows}

-- a pool of the socket and page size of another is that one
same_pool : (pools : List PoolLine) (k place : ℕ) (d line : PoolLine) → AllPairs IsOtherPool pools → k < length pools → slice_get pools place ≡ Some line
    → (get_or pools k d).socket ≡ line.socket → (get_or pools k d).page ≡ line.page → get_or pools k d ≡ line
same_pool pools k place d line distinct within here socket page =
    let at : get_or pools place d ≡ line = get_or_from_slice_get pools place line d here in
    let inside = slice_get_within pools place line here in
    elim (cases_eq k place) [
      | inl same ↦ ap (λ i. get_or pools i d) same ∙ at
      | inr other ↦
          elim (cases_lt k place) [
            | inl before ↦
                absurd (distinct k place d before inside (socket ∙ ap (λ (l : PoolLine). l.socket) (sym at), page ∙ ap (λ (l : PoolLine). l.page) (sym at)))
            | inr behind ↦
                absurd
                (distinct place k d (omega (arith, behind, other)) within
                (ap (λ (l : PoolLine). l.socket) at ∙ sym socket, ap (λ (l : PoolLine). l.page) at ∙ sym page))
          ]
    ]

paged_by : (pools : List PoolLine) (rows : List Row) (run : Run) (generation k : ℕ) (d line : PoolLine) → AllPairs IsOtherPool pools → k < length pools
    → slice_get pools run.list ≡ Some line → line.socket ≡ run.socket → line.page ≡ run.page → HasPages pools rows run
    → count_by (is_of_pool (get_or pools k d)) rows ≤ (get_or pools k d).pages
    → (own : Bool) → run_of_pool (get_or pools k d) run ≡ own
    → count_by (is_of_pool (get_or pools k d)) rows + cond own run.count 0 ≤ (get_or pools k d).pages
paged_by pools rows run generation k d line distinct within here socket page pages paged true own =
    let parts = and_parts (run.socket == (get_or pools k d).socket) (run.page == (get_or pools k d).page) own in
    let same : get_or pools k d ≡ line =
    same_pool pools k run.list d line distinct within here
    (sym (eqb-true run.socket (get_or pools k d).socket parts.0) ∙ sym socket)
    (sym (eqb-true run.page (get_or pools k d).page parts.1) ∙ sym page) in
    let left : pages_beside pools rows run.list ≡ free_pages rows (get_or pools k d) =
    ap (λ o. option_map_or (free_pages rows) o 0) here ∙ ap (free_pages rows) (sym same) in
    omega (arith, left, pages, paged)
paged_by pools rows run generation k d line distinct within here socket page pages paged false other = omega (arith, paged)

-- the table after the Add of a planned run
pub table_opened : (pools : List PoolLine) (log : List LogRecord) (segments : List Segment) (run : Run) (heap : ℕ) → IsListRun (lists_of pools) run
    → IsUnusedRun (rows_in segments) run → HasPages pools (rows_in segments) run → IsTable pools log (rows_in segments)
    → IsTable pools (log ++ Add run heap ∷ []) (rows_in (segments ++ map (segment_of Opened) (rows_of run (length log + 1))))
table_opened pools log segments run heap listed unused pages old =
    let found = line_of_list pools run.list listed.info listed.its_list in
    let socket : found.line.socket ≡ run.socket = sym (ap (λ (r : Run). r.socket) listed.is_run ∙ found.alike.socket) in
    let page : found.line.page ≡ run.page = sym (ap (λ (r : Run). r.page) listed.is_run ∙ found.alike.page) in
    subst (IsTable pools (log ++ Add run heap ∷ [])) (sym (opened_rows segments Opened (rows_of run (length log + 1))))
    (table_added pools log (rows_in segments) run heap listed unused
    (λ k d within.
    let few =
    paged_by pools (rows_in segments) run (length log + 1) k d found.line old.limits.distinct within found.its_line socket page pages
    (old.paged k d within) (run_of_pool (get_or pools k d) run) refl in
    omega (arith, few, added_count (get_or pools k d) (rows_in segments) run (length log + 1)))
    old)

-- the table after the Drop of a failed growth
pub table_failed : (pools : List PoolLine) (log : List LogRecord) (segments : List Segment) (run : Run) (runs : List Run)
    → AreHeld (lists_of pools) (rows_in segments) (run ∷ runs) → IsTable pools log (rows_in segments)
    → IsTable pools (log ++ Drop run ∷ []) (rows_in (without_run run segments))
table_failed pools log segments run runs held old =
    let first = held_first run runs held in
    subst (IsTable pools (log ++ Drop run ∷ [])) (sym (removed_rows run segments))
    (table_removed pools log (rows_in segments) run first.0 first.1 old)

-- the table after the Drops of held runs
table_dropped_by : (pools : List PoolLine) (runs : List Run) (log : List LogRecord) (rows : List Row) → AreHeld (lists_of pools) rows runs
    → IsTable pools log rows → IsTable pools (log ++ map (λ run. Drop run) runs) (filter (λ row. not (in_runs runs row)) rows)
table_dropped_by pools [] log rows held old =
    subst (λ log. IsTable pools log (filter (λ row. true) rows)) (sym (append-nil log)) (subst (IsTable pools log) (sym (filter_all rows)) old)
table_dropped_by pools (run ∷ runs) log rows held old =
    let first = held_first run runs held in
    let rest : IsTable pools ((log ++ Drop run ∷ []) ++ map (λ run. Drop run) runs) (filter (λ row. not (in_runs runs row)) (rows_without run rows)) =
    table_dropped_by pools runs (log ++ Drop run ∷ []) (rows_without run rows) (held_without run runs held)
    (table_removed pools log rows run first.0 first.1 old) in
    let all : filter (λ row. not (in_runs runs row)) (rows_without run rows) ≡ filter (λ row. not (in_runs (run ∷ runs) row)) rows =
    filter_twice (λ row. not (in_run run row)) (λ row. not (in_runs runs row)) rows
    ∙ filter_alike (λ row. not (in_run run row) && not (in_runs runs row)) (λ row. not (in_runs (run ∷ runs) row)) rows
    (λ k d within. demorgan (in_run run (get_or rows k d)) (in_runs runs (get_or rows k d))) in
    subst (λ log. IsTable pools log (filter (λ row. not (in_runs (run ∷ runs) row)) rows)) (append_assoc log (Drop run ∷ []) (map (λ run. Drop run) runs))
    (subst (IsTable pools ((log ++ Drop run ∷ []) ++ map (λ run. Drop run) runs)) all rest)

rows_kept_by : (p : Row → Bool) (segment : Segment) (segments : List Segment) (b : Bool)
    → rows_in (filter (λ segment. p segment.row) segments) ≡ filter p (rows_in segments)
    → rows_in (cond b (segment ∷ filter (λ segment. p segment.row) segments) (filter (λ segment. p segment.row) segments))
    ≡ cond b (segment.row ∷ filter p (rows_in segments)) (filter p (rows_in segments))
rows_kept_by p segment segments true rest = ap (λ rows. segment.row ∷ rows) rest
rows_kept_by p segment segments false rest = rest

-- the rows of segments that are kept by their rows
rows_kept : (p : Row → Bool) (segments : List Segment) → rows_in (filter (λ segment. p segment.row) segments) ≡ filter p (rows_in segments)
rows_kept p [] = refl
rows_kept p (segment ∷ segments) = rows_kept_by p segment segments (p segment.row) (rows_kept p segments)

-- the table after the Drops of all Retiring runs
pub table_dropped : (pools : List PoolLine) (log : List LogRecord) (segments : List Segment) (retiring : List Run)
    → AreHeld (lists_of pools) (rows_in segments) retiring → All (λ segment. is_retiring segment.state ≡ in_runs retiring segment.row) segments
    → IsTable pools log (rows_in segments)
    → IsTable pools (log ++ map (λ run. Drop run) retiring) (rows_in (filter (λ segment. not (is_retiring segment.state)) segments))
table_dropped pools log segments retiring held retired old =
    let rows : filter (λ row. not (in_runs retiring row)) (rows_in segments) ≡ rows_in (filter (λ segment. not (is_retiring segment.state)) segments) =
    sym (rows_kept (λ row. not (in_runs retiring row)) segments) ∙ ap rows_in (retiring_out segments retiring retired) in
    subst (IsTable pools (log ++ map (λ run. Drop run) retiring)) rows (table_dropped_by pools retiring log (rows_in segments) held old)
