-- The table after a Drop.
use Rattle.std.proofs.Common.{◌≡◌, ◌==◌, ◌+◌, ◌-◌, ◌≤◌, Bool, true, false, not, ◌&&◌, cond, List, [], ◌∷◌, ◌++◌, length, filter, get_or, set, Some, refl, ap, ◌∙◌, sym, subst, arith, count_by, length-append}
use Rattle.std.specs.List.{All, slice_get}
use Rattle.std.specs.Option.{option_map}
use Rattle.std.proofs.lemmas.Bool.{and_parts, and_from, eqb-true, eq-eqb}
use Rattle.std.proofs.lemmas.List.Elements.{All-weaker, All-push, All-filter}
use Rattle.hp_base.specs.declared.row.Row.{Row}
use Rattle.hp_base.specs.declared.row.Run.{Run}
use Rattle.hp_base.specs.declared.pool_line.PoolLine.{PoolLine}
use Rattle.hp_pool.specs.Pools.{pool_of, with_more, Gives, HasOut}
use Rattle.hp_pool.specs.declared.pool.Pool.{Pool}
use Rattle.hp_log.specs.Log.{run_in}
use Rattle.hp_segs.specs.Lists.{lists_of, is_of_pool, free_pages}
use Rattle.hp_segs.specs.Masks.{with_places}
use Rattle.hp_log.specs.Rows.{at_slot, in_run, IsUsedRun}
use Rattle.hp_segs.specs.Table.{IsTable, IsPlaced, IsStamped, IsListRun}
use Rattle.hp_segs.specs.TableLayout.{IsLaidOut, pool_beside}
use Rattle.hp_segs.specs.declared.list_info.ListInfo.{ListInfo}
use Rattle.hp_log.specs.declared.log_record.LogRecord.{LogRecord}
use Rattle.hp_log.specs.declared.log_record.LogRecord.TheVariants.{Drop}
use Rattle.hp_log.proofs.Counts.{count_split, count_agree, count_none}
use Rattle.hp_log.proofs.LogLemmas.{table_of_push, well_formed_push}
use Rattle.hp_segs.proofs.SlotFacts.MaskStepLemmas.{masks_marked, slots_removed, others_removed}
use Rattle.hp_segs.proofs.SlotFacts.PoolCounts.{run_of_pool, run_count}
use Rattle.hp_log.proofs.RowLemmas.{place_in_run}

-- the rows that are left
abbrev pub rows_without : Run → List Row → List Row
rows_without run rows = filter (λ row. not (in_run run row)) rows

pub fewer_without : (p : Row → Bool) (run : Run) (rows : List Row) → count_by p (rows_without run rows) ≤ count_by p rows
fewer_without p run rows = omega (arith, count_split p (λ row. not (in_run run row)) rows)

-- a row at a slot of a list's run has the run's socket and page size
pub alike_in_run : (lists : List ListInfo) (run : Run) (row : Row) → IsListRun lists run → IsPlaced lists row → in_run run row ≡ true
    → (row.socket ≡ run.socket) × (row.page ≡ run.page)
alike_in_run lists run row listed placed inside =
    let its_list = (place_in_run run row inside).its_list in
    let same : placed.info ≡ listed.info =
    (let one : Some placed.info ≡ Some listed.info =
    sym placed.its_list ∙ (ap (λ l. slice_get lists l) its_list ∙ listed.its_list) in
    cc) in (
      placed.socket ∙ (ap (λ i. i.socket) same ∙ sym (ap (λ r. r.socket) listed.is_run)),
      placed.page ∙ (ap (λ i. i.page) same ∙ sym (ap (λ r. r.page) listed.is_run)),
    )

both_true : (inside of : Bool) (own : Bool) → (inside ≡ true → of ≡ own) → (not (not inside) && of) ≡ (inside && own)
both_true true of own same = same refl
both_true false of own same = refl

pub and_true : (b : Bool) → (b && true) ≡ b
and_true true = refl
and_true false = refl

pub and_false : (b : Bool) → (b && false) ≡ false
and_false true = refl
and_false false = refl

own_count : (run : Run) (rows : List Row) (own : Bool) → IsUsedRun rows run
    → count_by (λ row. in_run run row && own) rows ≡ cond own run.count 0
own_count run rows true used =
    count_agree (λ row. in_run run row && true) (in_run run) rows (λ k d within. and_true (in_run run (get_or rows k d)))
    ∙ run_count run rows used
own_count run rows false used =
    count_none (λ row. in_run run row && false) rows (λ k d within. and_false (in_run run (get_or rows k d)))

-- the rows of a pool are those that are left, and the run's where it is of the pool
pub removed_count : (lists : List ListInfo) (line : PoolLine) (rows : List Row) (run : Run) → IsListRun lists run → IsUsedRun rows run
    → All (IsPlaced lists) rows
    → count_by (is_of_pool line) rows ≡ count_by (is_of_pool line) (rows_without run rows) + cond (run_of_pool line run) run.count 0
removed_count lists line rows run listed used placed =
    let split = count_split (is_of_pool line) (λ row. not (in_run run row)) rows in
    let same =
    count_agree
    (λ row. not (not (in_run run row)) && is_of_pool line row)
    (λ row. in_run run row && run_of_pool line run)
    rows
    (λ k d within.
    both_true
    (in_run run (get_or rows k d))
    (is_of_pool line (get_or rows k d))
    (run_of_pool line run)
    (λ inside.
    let alike = alike_in_run lists run (get_or rows k d) listed (placed k d within) inside in
    ap (λ s. (s == line.socket) && ((get_or rows k d).page == line.page)) alike.0
    ∙ ap (λ p. (run.socket == line.socket) && (p == line.page)) alike.1)) in
    split ∙ ap (λ n. count_by (is_of_pool line) (rows_without run rows) + n) (same ∙ own_count run rows (run_of_pool line run) used)

gives_own : (counts counts' : List Pool) (rows rows' : List Row) (run : Run) (line : PoolLine)
    → Gives counts counts' run.socket run.page run.count → line.socket ≡ run.socket → line.page ≡ run.page
    → pool_of counts line.socket line.page ≡ Some (pool_beside rows line) → count_by (is_of_pool line) rows ≤ line.pages
    → count_by (is_of_pool line) rows ≡ count_by (is_of_pool line) rows' + run.count
    → pool_of counts' line.socket line.page ≡ Some (pool_beside rows' line)
gives_own counts counts' rows rows' run line gives socket page before fits fewer =
    let old : pool_of counts run.socket run.page ≡ Some (pool_beside rows line) =
    ap (λ s. pool_of counts s run.page) (sym socket) ∙ (ap (λ p. pool_of counts line.socket p) (sym page) ∙ before) in
    let more : free_pages rows line + run.count ≡ free_pages rows' line = omega (arith, fewer, fits) in
    ap (λ s. pool_of counts' s line.page) socket
    ∙ (ap (λ p. pool_of counts' run.socket p) page
    ∙ (gives.this_pool
    ∙ (ap (option_map (with_more run.count)) old
    ∙ ap (λ n. Some (record { socket = line.socket; page = line.page; pages = line.pages; free = n })) more)))

gives_by : (counts counts' : List Pool) (rows rows' : List Row) (run : Run) (line : PoolLine)
    → Gives counts counts' run.socket run.page run.count
    → pool_of counts line.socket line.page ≡ Some (pool_beside rows line) → count_by (is_of_pool line) rows ≤ line.pages
    → (own : Bool) → run_of_pool line run ≡ own → count_by (is_of_pool line) rows ≡ count_by (is_of_pool line) rows' + cond own run.count 0
    → pool_of counts' line.socket line.page ≡ Some (pool_beside rows' line)
gives_by counts counts' rows rows' run line gives before fits true own fewer =
    let parts = and_parts (run.socket == line.socket) (run.page == line.page) own in
    gives_own
    counts
    counts'
    rows
    rows'
    run
    line
    gives
    (sym (eqb-true run.socket line.socket parts.0))
    (sym (eqb-true run.page line.page parts.1))
    before
    fits
    fewer
gives_by counts counts' rows rows' run line gives before fits false other fewer =
    let same : count_by (is_of_pool line) rows' ≡ count_by (is_of_pool line) rows = omega (arith, fewer) in
    let apart : (line.socket ≡ run.socket) × (line.page ≡ run.page) → ⊥ = λ both.
    let own : run_of_pool line run ≡ true =
    and_from _ _ (eq-eqb run.socket line.socket (sym both.0)) (eq-eqb run.page line.page (sym both.1)) in
    let wrong : true ≡ false = sym own ∙ other in
    cc in
    gives.other_pools line.socket line.page apart
    ∙ (before
    ∙ ap (λ n. Some (record { socket = line.socket; page = line.page; pages = line.pages; free = line.pages - n })) (sym same))

-- the table after the Drop of a list's used run
pub table_removed : (pools : List PoolLine) (log : List LogRecord) (rows : List Row) (run : Run)
    → IsListRun (lists_of pools) run → IsUsedRun rows run
    → IsTable pools log rows → IsTable pools (log ++ Drop run ∷ []) (rows_without run rows)
table_removed pools log rows run listed used old =
    let long : length (log ++ Drop run ∷ []) ≡ length log + 1 = length-append log (Drop run ∷ []) in
    record {
      limits = old.limits;
      formed = well_formed_push log (Drop run) old.formed (subst (λ table. IsUsedRun table run) old.table used);
      listed = All-push (λ entry. IsListRun (lists_of pools) (run_in entry)) log (Drop run) old.listed listed;
      table = ap (rows_without run) old.table ∙ sym (table_of_push log (Drop run));
      once = λ list slot. omega (arith, fewer_without (at_slot list slot) run rows, old.once list slot);
      placed = All-filter (λ row. not (in_run run row)) (IsPlaced (lists_of pools)) rows old.placed;
      stamped =
          All-filter
          (λ row. not (in_run run row))
          (IsStamped (log ++ Drop run ∷ []))
          rows
          (All-weaker
          (IsStamped log)
          (IsStamped (log ++ Drop run ∷ []))
          (λ row stamp. record { some = stamp.some; within = omega (arith, stamp.within, long) })
          rows
          old.stamped);
      paged = λ k d within. omega (arith, fewer_without (is_of_pool (get_or pools k d)) run rows, old.paged k d within);
    }

-- the table with its masks and counts after the Drop of a list's used run
pub laid_out_removed : {pools : List PoolLine} {lists : List ListInfo} {masks masks' : List (List Bool)} {counts counts' : List Pool} {log : List LogRecord} {rows : List Row}
    (run : Run) → IsListRun (lists_of pools) run → IsUsedRun rows run
    → Gives counts counts' run.socket run.page run.count
    → masks' ≡ set masks run.list (with_places (get_or masks run.list []) run.first run.count false)
    → IsLaidOut pools lists masks counts log rows
    → IsLaidOut pools lists masks' counts' (log ++ Drop run ∷ []) (rows_without run rows)
laid_out_removed {pools} {lists} {masks} {masks'} {counts} {counts'} {log} {rows} run listed used gives marked old =
    record {
      table = table_removed pools log rows run listed used old.table;
      its_lists = old.its_lists;
      fit = old.fit;
      its_masks =
          masks_marked
          rows
          (rows_without run rows)
          lists
          masks
          masks'
          run
          listed.info
          false
          old.its_masks
          (ap (λ l. slice_get l run.list) old.its_lists ∙ listed.its_list)
          (others_removed rows run)
          (slots_removed rows run listed.info.slots listed.within)
          marked;
      its_counts = λ k d within.
          gives_by
          counts
          counts'
          rows
          (rows_without run rows)
          run
          (get_or pools k d)
          gives
          (old.its_counts k d within)
          (old.table.paged k d within)
          (run_of_pool (get_or pools k d) run)
          refl
          (removed_count (lists_of pools) (get_or pools k d) rows run listed used old.table.placed);
    }

-- the pool of a list's used run has as many pages out
pub has_out : (pools : List PoolLine) (counts : List Pool) (rows : List Row) (run : Run) (line : PoolLine)
    → IsListRun (lists_of pools) run → IsUsedRun rows run → All (IsPlaced (lists_of pools)) rows
    → line.socket ≡ run.socket → line.page ≡ run.page → pool_of counts line.socket line.page ≡ Some (pool_beside rows line)
    → count_by (is_of_pool line) rows ≤ line.pages → HasOut counts run.socket run.page run.count
has_out pools counts rows run line listed used placed socket page before fits =
    let old : pool_of counts run.socket run.page ≡ Some (pool_beside rows line) =
    ap (λ s. pool_of counts s run.page) (sym socket) ∙ (ap (λ p. pool_of counts line.socket p) (sym page) ∙ before) in
    let own : run_of_pool line run ≡ true = and_from _ _ (eq-eqb run.socket line.socket (sym socket)) (eq-eqb run.page line.page (sym page)) in
    let count = removed_count (lists_of pools) line rows run listed used placed in
    let more : count_by (is_of_pool line) rows ≡ count_by (is_of_pool line) (rows_without run rows) + run.count = rw own at count in
    rw old (omega (arith, more, fits))
