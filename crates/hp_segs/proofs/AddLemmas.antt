-- The table after an Add.
use Rattle.std.proofs.Common.{◌≡◌, ◌==◌, ℕ, ◌+◌, ◌-◌, ◌*◌, ◌<◌, ◌≤◌, Bool, true, false, cond, List, [], ◌∷◌, ◌++◌, length, get_or, set, Some, IsSomeAnd, refl, ap, ◌∙◌, sym, subst, arith, inl, inr, count_by, length-append}
use Rattle.std.proofs.Math.Nat.{add-mul}
use Rattle.std.specs.List.{All, slice_get}
use Rattle.std.specs.Option.{option_map}
use Rattle.std.proofs.lemmas.Bool.{and_parts, and_from, eqb-true, eq-eqb}
use Rattle.std.proofs.lemmas.List.Elements.{All-weaker, All-append, All-push}
use Rattle.hp_base.specs.declared.row.Row.{Row}
use Rattle.hp_base.specs.declared.row.Run.{Run}
use Rattle.hp_base.specs.declared.pool_line.PoolLine.{PoolLine}
use Rattle.hp_pool.specs.Pools.{pool_of, with_fewer, Takes}
use Rattle.hp_pool.specs.declared.pool.Pool.{Pool}
use Rattle.hp_log.specs.Log.{run_in}
use Rattle.hp_segs.specs.Lists.{lists_of, is_of_pool, free_pages}
use Rattle.hp_segs.specs.Masks.{with_places}
use Rattle.hp_log.specs.Rows.{row_of, rows_of, rows_at, at_slot, IsUnusedRun}
use Rattle.hp_segs.specs.Table.{IsTable, IsPlaced, IsStamped, IsListRun}
use Rattle.hp_segs.specs.TableLayout.{IsLaidOut, pool_beside}
use Rattle.hp_segs.specs.declared.list_info.ListInfo.{ListInfo}
use Rattle.hp_log.specs.declared.log_record.LogRecord.{LogRecord}
use Rattle.hp_log.specs.declared.log_record.LogRecord.TheVariants.{Add}
use Rattle.hp_log.proofs.Counts.{count_append}
use Rattle.hp_log.proofs.LogLemmas.{table_of_push, well_formed_push}
use Rattle.hp_segs.proofs.SlotFacts.MaskStepLemmas.{masks_marked, slots_added, others_added}
use Rattle.hp_segs.proofs.SlotFacts.PoolCounts.{added_count, run_of_pool}
use Rattle.hp_log.proofs.RowLemmas.{all_rows_below, run_rows_at}

-- each slot still has one row at most
pub once_added : (rows : List Row) (run : Run) (generation : ℕ) → IsUnusedRun rows run
    → ((list slot : ℕ) → rows_at rows list slot ≤ 1) → (list slot : ℕ) → rows_at (rows ++ rows_of run generation) list slot ≤ 1
once_added rows run generation unused once list slot =
    let both = count_append (at_slot list slot) rows (rows_of run generation) in
    elim (run_rows_at run generation run.count list slot) [
      | inl none ↦ omega (arith, both, none, once list slot)
      | inr at ↦
          let free : rows_at rows list slot ≡ 0 =
          ap (λ l. rows_at rows l slot) at.its_list
          ∙ (ap (λ s. rows_at rows run.list s) at.its_slot ∙ unused.unused at.place at.within) in
          omega (arith, both, free, at.one)
    ]

-- the rows of a list's run are at their places
pub placed_run : (lists : List ListInfo) (run : Run) (generation : ℕ) → IsListRun lists run
    → (k : ℕ) → k < run.count → IsPlaced lists (row_of run generation k)
placed_run lists run generation listed k within = record {
  info = listed.info;
  its_list = listed.its_list;
  within = omega (arith, listed.within);
  addr =
      let base : run.addr ≡ listed.info.base + run.first * listed.info.page = ap (λ r. r.addr) listed.is_run in
      let page : run.page ≡ listed.info.page = ap (λ r. r.page) listed.is_run in
      let whole = add-mul run.first k listed.info.page in
      ap (λ p. run.addr + k * p) page ∙ omega (arith, base, whole);
  page = ap (λ r. r.page) listed.is_run;
  socket = ap (λ r. r.socket) listed.is_run;
}

-- what the pool of one line has after the pages of a run were taken
pub record TakesFor (counts counts' : List Pool) (rows rows' : List Row) (line : PoolLine) : Type 0 where
  pub its_pool : pool_of counts' line.socket line.page ≡ Some (pool_beside rows' line)
  pub enough : count_by (is_of_pool line) rows' ≤ line.pages

takes_own : (counts counts' : List Pool) (rows rows' : List Row) (run : Run) (line : PoolLine)
    → Takes counts counts' run.socket run.page run.count → line.socket ≡ run.socket → line.page ≡ run.page
    → pool_of counts line.socket line.page ≡ Some (pool_beside rows line) → count_by (is_of_pool line) rows ≤ line.pages
    → count_by (is_of_pool line) rows' ≡ count_by (is_of_pool line) rows + run.count
    → TakesFor counts counts' rows rows' line
takes_own counts counts' rows rows' run line takes socket page before fits more =
    let old : pool_of counts run.socket run.page ≡ Some (pool_beside rows line) =
    ap (λ s. pool_of counts s run.page) (sym socket) ∙ (ap (λ p. pool_of counts line.socket p) (sym page) ∙ before) in
    let enough : run.count ≤ free_pages rows line =
    (let have : IsSomeAnd (option_map (λ pool. pool.free) (pool_of counts run.socket run.page)) (λ have. run.count ≤ have) = takes.enough in
    rw old at have) in
    let left : free_pages rows line - run.count ≡ free_pages rows' line = rw more (omega arith) in
    record {
      its_pool =
          ap (λ s. pool_of counts' s line.page) socket
          ∙ (ap (λ p. pool_of counts' run.socket p) page
          ∙ (takes.this_pool
          ∙ (ap (option_map (with_fewer run.count)) old
          ∙ ap (λ n. Some (record { socket = line.socket; page = line.page; pages = line.pages; free = n })) left)));
      enough = rw more (omega arith);
    }

takes_by : (counts counts' : List Pool) (rows rows' : List Row) (run : Run) (line : PoolLine)
    → Takes counts counts' run.socket run.page run.count
    → pool_of counts line.socket line.page ≡ Some (pool_beside rows line) → count_by (is_of_pool line) rows ≤ line.pages
    → (own : Bool) → run_of_pool line run ≡ own → count_by (is_of_pool line) rows' ≡ count_by (is_of_pool line) rows + cond own run.count 0
    → TakesFor counts counts' rows rows' line
takes_by counts counts' rows rows' run line takes before fits true own more =
    let parts = and_parts (run.socket == line.socket) (run.page == line.page) own in
    takes_own
    counts
    counts'
    rows
    rows'
    run
    line
    takes
    (sym (eqb-true run.socket line.socket parts.0))
    (sym (eqb-true run.page line.page parts.1))
    before
    fits
    more
takes_by counts counts' rows rows' run line takes before fits false other more =
    let same : count_by (is_of_pool line) rows' ≡ count_by (is_of_pool line) rows = omega (arith, more) in
    let apart : (line.socket ≡ run.socket) × (line.page ≡ run.page) → ⊥ = λ both.
    let own : run_of_pool line run ≡ true =
    and_from _ _ (eq-eqb run.socket line.socket (sym both.0)) (eq-eqb run.page line.page (sym both.1)) in
    let wrong : true ≡ false = sym own ∙ other in
    cc in
    record {
      its_pool =
          takes.other_pools line.socket line.page apart
          ∙ (before
          ∙ ap (λ n. Some (record { socket = line.socket; page = line.page; pages = line.pages; free = line.pages - n })) (sym same));
      enough = rw same fits;
    }

-- the table after the Add of a list's unused run
pub table_added : (pools : List PoolLine) (log : List LogRecord) (rows : List Row) (run : Run) (heap : ℕ)
    → IsListRun (lists_of pools) run → IsUnusedRun rows run
    → All (λ line. count_by (is_of_pool line) (rows ++ rows_of run (length log + 1)) ≤ line.pages) pools
    → IsTable pools log rows → IsTable pools (log ++ Add run heap ∷ []) (rows ++ rows_of run (length log + 1))
table_added pools log rows run heap listed unused paged old =
    let long : length (log ++ Add run heap ∷ []) ≡ length log + 1 = length-append log (Add run heap ∷ []) in
    record {
      limits = old.limits;
      formed = well_formed_push log (Add run heap) old.formed (subst (λ table. IsUnusedRun table run) old.table unused);
      listed = All-push (λ entry. IsListRun (lists_of pools) (run_in entry)) log (Add run heap) old.listed listed;
      table = ap (λ table. table ++ rows_of run (length log + 1)) old.table ∙ sym (table_of_push log (Add run heap));
      once = once_added rows run (length log + 1) unused old.once;
      placed =
          All-append
          (IsPlaced (lists_of pools))
          rows
          (rows_of run (length log + 1))
          old.placed
          (all_rows_below (IsPlaced (lists_of pools)) run (length log + 1) run.count (placed_run (lists_of pools) run (length log + 1) listed));
      stamped =
          All-append
          (IsStamped (log ++ Add run heap ∷ []))
          rows
          (rows_of run (length log + 1))
          (All-weaker
          (IsStamped log)
          (IsStamped (log ++ Add run heap ∷ []))
          (λ row stamp. record { some = stamp.some; within = omega (arith, stamp.within, long) })
          rows
          old.stamped)
          (all_rows_below
          (IsStamped (log ++ Add run heap ∷ []))
          run
          (length log + 1)
          run.count
          (λ k within. record { some = omega arith; within = omega (arith, long) }));
      paged = paged;
    }

-- the table with its masks and counts after the Add of a list's unused run
pub laid_out_added : {pools : List PoolLine} {lists : List ListInfo} {masks masks' : List (List Bool)} {counts counts' : List Pool} {log : List LogRecord} {rows : List Row}
    (run : Run) (heap : ℕ) → IsListRun (lists_of pools) run → IsUnusedRun rows run
    → Takes counts counts' run.socket run.page run.count
    → masks' ≡ set masks run.list (with_places (get_or masks run.list []) run.first run.count true)
    → IsLaidOut pools lists masks counts log rows
    → IsLaidOut pools lists masks' counts' (log ++ Add run heap ∷ []) (rows ++ rows_of run (length log + 1))
laid_out_added {pools} {lists} {masks} {masks'} {counts} {counts'} {log} {rows} run heap listed unused takes marked old =
    let rows' : List Row = rows ++ rows_of run (length log + 1) in
    let each : (line : PoolLine) → pool_of counts line.socket line.page ≡ Some (pool_beside rows line)
    → count_by (is_of_pool line) rows ≤ line.pages → TakesFor counts counts' rows rows' line =
    λ line before fits.
    takes_by counts counts' rows rows' run line takes before fits (run_of_pool line run) refl (added_count line rows run (length log + 1)) in
    record {
      table =
          table_added
          pools
          log
          rows
          run
          heap
          listed
          unused
          (λ k d within. (each (get_or pools k d) (old.its_counts k d within) (old.table.paged k d within)).enough)
          old.table;
      its_lists = old.its_lists;
      fit = old.fit;
      its_masks =
          masks_marked
          rows
          rows'
          lists
          masks
          masks'
          run
          listed.info
          true
          old.its_masks
          (ap (λ l. slice_get l run.list) old.its_lists ∙ listed.its_list)
          (others_added rows run (length log + 1))
          (slots_added rows run (length log + 1) listed.info.slots listed.within)
          marked;
      its_counts = λ k d within. (each (get_or pools k d) (old.its_counts k d within) (old.table.paged k d within)).its_pool;
    }
