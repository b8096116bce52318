-- The table with its slots and totals, after each of its calls.
use Rattle.std.proofs.Common.{◌≡◌, ◌==◌, ℕ, ◌+◌, ◌-◌, ◌*◌, ◌^◌, ◌<◌, ◌≤◌, Bool, true, false, not, if◌then◌else◌, List, [], ◌∷◌, ◌++◌, length, map, get_or, set, drop, ap, ◌∙◌, sym, subst, arith, add-one, get_or-set_same}
use Rattle.std.proofs.Math.Seq.{drop-cons}
use Rattle.std.specs.List.{All}
use Rattle.std.proofs.lemmas.Bool.{and_left, ne_eqb}
use Rattle.std.proofs.lemmas.List.FromFn.{length-map-range_with_len}
use Rattle.std.proofs.lemmas.List.Elements.{All-filter, All-head, All-tail, All-weaker}
use Rattle.hp_base.specs.PoolLines.{IsPoolLine}
use Rattle.hp_base.specs.declared.pool_line.PoolLine.{PoolLine}
use Rattle.hp_base.specs.declared.row.Run.{Run}
use Rattle.hp_pool.specs.Pools.{Gives, Takes}
use Rattle.hp_pool.specs.declared.pool.Pool.{Pool}
use Rattle.hp_log.specs.Log.{table_of}
use Rattle.hp_log.specs.Rows.{in_run, rows_of, IsUnusedRun, IsUsedRun}
use Rattle.hp_log.specs.declared.log_record.LogRecord.{LogRecord}
use Rattle.hp_log.specs.declared.log_record.LogRecord.TheVariants.{Add, Drop}
use Rattle.hp_log.proofs.LogLemmas.{table_of_push}
use Rattle.hp_segs.specs.Lists.{lists_of}
use Rattle.hp_segs.specs.Masks.{with_places}
use Rattle.hp_segs.specs.SegsView.{counted_bytes, is_counted, rows_in, total_of}
use Rattle.hp_segs.specs.Slots.{AreSlots, HasRun, SlotsView, changed_slots, kept_segments, stamped_slots}
use Rattle.hp_segs.specs.Steps.{agreed_segment, retired_segment, segment_of, without_run}
use Rattle.hp_segs.specs.Table.{IsListRun, IsPlaced, TableView}
use Rattle.hp_segs.specs.TableCalls.{AllCount, AreTotals, IsCountedRun, IsGrantRun, IsKeptTable, IsOpenRun}
use Rattle.hp_segs.specs.TableLayout.{IsLaidOut}
use Rattle.hp_segs.specs.declared.list_info.ListInfo.{ListInfo}
use Rattle.hp_segs.specs.declared.row_state.RowState.TheVariants.{Opened, Agreed, Owned, Retiring}
use Rattle.hp_segs.specs.declared.row_state.Segment.{Segment}
use Rattle.hp_segs.proofs.AddLemmas.{laid_out_added}
use Rattle.hp_segs.proofs.RowTables.KeptSlots.{has_run, rows_kept, run_stamped, segments_agreed, segments_claimed, segments_opened, segments_removed, segments_retired, slots_changed, slots_removed, slots_stamped}
use Rattle.hp_segs.proofs.SlotFacts.ListFacts.{all_unmap}
use Rattle.hp_segs.proofs.SlotFacts.ListsLemmas.{line_of_list}
use Rattle.hp_segs.proofs.QueryLemmas.{total_fits}
use Rattle.hp_segs.proofs.RetiredRuns.RemoveLemmas.{laid_out_removed}
use Rattle.hp_segs.proofs.RowTables.StateLemmas.{agreed_rows}
use Rattle.hp_segs.proofs.RowTables.TableUse.{at_place, run_fits, run_pool}
use Rattle.hp_segs.proofs.TotalLemmas.{own_bytes, sum_zero, total_at, total_retired, totals_agreed, totals_claimed, totals_opened, totals_removed, totals_retired}

-- tables with the same parts are the same
pub same_table : (pools : List PoolLine) (log : List LogRecord) (segments segments' : List Segment) (room room' : ℕ) → segments ≡ segments' → room ≡ room'
    → ◌≡◌ {A = TableView} (record { pools = pools; log = log; segments = segments; room = room })
    (record { pools = pools; log = log; segments = segments'; room = room' })
same_table pools log segments segments' room room' same rooms =
    ap (λ g. record { pools = pools; log = log; segments = g; room = room }) same
    ∙ ap (λ n. record { pools = pools; log = log; segments = segments'; room = n }) rooms

-- the segments after a Drop
pub segments_dropped : (kept : List SlotsView) (log : List LogRecord) (run : Run)
    → kept_segments kept (table_of (log ++ Drop run ∷ [])) ≡ without_run run (kept_segments kept (table_of log))
segments_dropped kept log run = ap (kept_segments kept) (table_of_push log (Drop run)) ∙ sym (segments_removed kept run (table_of log))

number_small : (new old bytes bound : ℕ) → new ≡ old + bytes → new ≤ bound → old + bytes ≤ bound
number_small new old bytes bound is small = omega (arith, is, small)

module _ {pools : List PoolLine} {lists : List ListInfo} {masks : List (List Bool)} {counts : List Pool} {kept : List SlotsView} {totals : List ℕ}
    {log : List LogRecord} where
  -- the slots of a list's run are kept
  pub run_kept : IsKeptTable pools lists masks counts kept totals log → (run : Run) → IsListRun (lists_of pools) run → HasRun kept run
  run_kept old run listed =
      has_run run old.slots (subst (λ l. IsListRun l run) (sym old.laid.its_lists) listed) (run_fits old.laid run listed).slots

  -- its socket is one of 32
  pub socket_small : IsKeptTable pools lists masks counts kept totals log → (run : Run) → IsListRun (lists_of pools) run → run.socket < 32
  socket_small old run listed =
      let pool = run_pool old.laid run listed in
      let line : IsPoolLine pool.line = at_place IsPoolLine pools run.list pool.line old.laid.table.limits.lines pool.its_line in
      omega (arith, line.socket, pool.socket)

  placed_kept : IsKeptTable pools lists masks counts kept totals log → All (IsPlaced (lists_of pools)) (rows_in (kept_segments kept (table_of log)))
  placed_kept old = subst (All (IsPlaced (lists_of pools))) (sym (rows_kept kept (table_of log))) old.laid.table.placed

  -- the segments after an Add
  pub segments_added : (run : Run) (heap : ℕ) → IsListRun (lists_of pools) run → IsUnusedRun (table_of log) run
      → IsKeptTable pools lists masks counts kept totals log
      → kept_segments (changed_slots (stamped_slots kept run (length log + 1)) run Opened) (table_of (log ++ Add run heap ∷ []))
      ≡ kept_segments kept (table_of log) ++ map (segment_of Opened) (rows_of run (length log + 1))
  segments_added run heap listed unused old =
      let fits = run_kept old run listed in
      ap (kept_segments (changed_slots (stamped_slots kept run (length log + 1)) run Opened)) (table_of_push log (Add run heap))
      ∙ segments_opened kept run (length log + 1) (table_of log) fits (run_stamped kept run (length log + 1) fits) unused

  -- an Add is logged
  pub kept_added : {masks' : List (List Bool)} {counts' : List Pool} (run : Run) (heap : ℕ) → IsListRun (lists_of pools) run
      → IsUnusedRun (table_of log) run → Takes counts counts' run.socket run.page run.count
      → masks' ≡ set masks run.list (with_places (get_or masks run.list []) run.first run.count true)
      → IsKeptTable pools lists masks counts kept totals log
      → IsKeptTable pools lists masks' counts' (changed_slots (stamped_slots kept run (length log + 1)) run Opened) totals (log ++ Add run heap ∷ [])
  kept_added {masks'} {counts'} run heap listed unused takes marked old =
      let fits = run_kept old run listed in
      let table = sym (table_of_push log (Add run heap)) in
      record {
        laid = subst (IsLaidOut pools lists masks' counts' (log ++ Add run heap ∷ [])) table (laid_out_added run heap listed unused takes marked old.laid);
        slots =
            subst (AreSlots (changed_slots (stamped_slots kept run (length log + 1)) run Opened) lists) table
            (slots_changed (stamped_slots kept run (length log + 1)) run (run_stamped kept run (length log + 1) fits) Opened
            (slots_stamped kept run fits (length log + 1) unused old.slots));
        counted =
            subst (λ segments. AreTotals segments totals) (sym (segments_added run heap listed unused old))
            (totals_opened (kept_segments kept (table_of log)) (rows_of run (length log + 1)) totals old.counted);
      }

  -- a Drop is logged
  pub kept_removed : {masks' : List (List Bool)} {counts' : List Pool} (run : Run) → IsListRun (lists_of pools) run → IsUsedRun (table_of log) run
      → AllCount false run (kept_segments kept (table_of log)) → Gives counts counts' run.socket run.page run.count
      → masks' ≡ set masks run.list (with_places (get_or masks run.list []) run.first run.count false)
      → IsKeptTable pools lists masks counts kept totals log → IsKeptTable pools lists masks' counts' kept totals (log ++ Drop run ∷ [])
  kept_removed {masks'} {counts'} run listed used uncounted gives marked old =
      let table = sym (table_of_push log (Drop run)) in
      record {
        laid = subst (IsLaidOut pools lists masks' counts' (log ++ Drop run ∷ [])) table (laid_out_removed run listed used gives marked old.laid);
        slots = subst (AreSlots kept lists) table (slots_removed run old.slots);
        counted =
            subst (λ segments. AreTotals segments totals) (sym (segments_dropped kept log run))
            (totals_removed run (kept_segments kept (table_of log)) totals uncounted old.counted);
      }

  -- a grant's bytes fit
  pub agreed_fits : (run : Run) (generation heap : ℕ) → IsOpenRun (lists_of pools) (kept_segments kept (table_of log)) run generation
      → IsKeptTable pools lists masks counts kept totals log → get_or totals run.socket 0 + run.count * run.page < 2 ^ 64
  agreed_fits run generation heap its old =
      let segments : List Segment = kept_segments kept (table_of log) in
      let agreed : List Segment = map (agreed_segment generation heap) segments in
      let small = socket_small old run its.listed in
      let value : ℕ = get_or totals run.socket 0 + run.count * run.page in
      let are = totals_agreed run segments totals generation heap its (placed_kept old) small old.counted in
      let long : length totals ≡ 32 = ap length old.counted ∙ length-map-range_with_len (total_of segments) 0 32 in
      let is : total_of agreed run.socket ≡ get_or totals run.socket 0 + run.count * run.page =
      sym (total_at agreed (set totals run.socket value) run.socket are small) ∙ get_or-set_same totals run.socket value 0 (omega (arith, long, small)) in
      let fits = total_fits old.laid agreed run.socket (agreed_rows generation heap segments ∙ rows_kept kept (table_of log)) in
      let few = number_small (total_of agreed run.socket) (get_or totals run.socket 0) (run.count * run.page) (2 ^ 48) is fits in
      omega (arith, few)

  -- the rows of an open growth are agreed
  pub kept_agreed : (run : Run) (generation heap : ℕ) → IsOpenRun (lists_of pools) (kept_segments kept (table_of log)) run generation
      → IsKeptTable pools lists masks counts kept totals log
      → IsKeptTable pools lists masks counts (changed_slots kept run (Agreed heap)) (set totals run.socket (get_or totals run.socket 0 + run.count * run.page)) log
  kept_agreed run generation heap its old =
      let fits = run_kept old run its.listed in
      record {
        laid = old.laid;
        slots = slots_changed kept run fits (Agreed heap) old.slots;
        counted =
            subst (λ segments. AreTotals segments (set totals run.socket (get_or totals run.socket 0 + run.count * run.page)))
            (sym (segments_agreed kept run fits generation heap (table_of log) its.same))
            (totals_agreed run (kept_segments kept (table_of log)) totals generation heap its (placed_kept old) (socket_small old run its.listed) old.counted);
      }

  -- the rows of a grant are claimed
  pub kept_claimed : (run : Run) (generation heap : ℕ) → IsGrantRun (lists_of pools) (kept_segments kept (table_of log)) run generation heap
      → IsKeptTable pools lists masks counts kept totals log
      → IsKeptTable pools lists masks counts (changed_slots kept run (Owned heap)) totals log
  kept_claimed run generation heap its old =
      let fits = run_kept old run its.listed in
      record {
        laid = old.laid;
        slots = slots_changed kept run fits (Owned heap) old.slots;
        counted =
            subst (λ segments. AreTotals segments totals) (sym (segments_claimed kept run fits generation heap (table_of log) its.same its.agreed))
            (totals_claimed generation (kept_segments kept (table_of log)) totals old.counted);
      }

  -- the bytes of a run that is given up are counted
  pub retired_fits : (run : Run) → IsCountedRun (lists_of pools) (kept_segments kept (table_of log)) run
      → IsKeptTable pools lists masks counts kept totals log
      → (run.count * run.page ≤ get_or totals run.socket 0) × (get_or totals run.socket 0 < 2 ^ 64)
  retired_fits run its old =
      let segments : List Segment = kept_segments kept (table_of log) in
      let at = total_at segments totals run.socket old.counted (socket_small old run its.listed) in
      let parts =
      total_retired run segments its.listed (placed_kept old) its.used run.socket its.counted
      ∙ ap (λ n. total_of (map (retired_segment run) segments) run.socket + n) (own_bytes run segments its.listed (placed_kept old) its.used) in
      let small = total_fits old.laid segments run.socket (rows_kept kept (table_of log)) in
      numbers (total_of segments run.socket) (total_of (map (retired_segment run) segments) run.socket) (run.count * run.page) (get_or totals run.socket 0)
      parts at small
    where
      numbers : (all rest bytes total : ℕ) → all ≡ rest + bytes → total ≡ all → all ≤ 2 ^ 48 → (bytes ≤ total) × (total < 2 ^ 64)
      numbers all rest bytes total is same small = (omega (arith, is, same), omega (arith, same, small))

  -- no row is of a socket of 32 or more
  pub no_bytes : IsKeptTable pools lists masks counts kept totals log → (socket : ℕ) → 32 ≤ socket → total_of (kept_segments kept (table_of log)) socket ≡ 0
  no_bytes old socket high =
      let segments : List Segment = kept_segments kept (table_of log) in
      let each = all_unmap (IsPlaced (lists_of pools)) (λ (segment : Segment). segment.row) segments (placed_kept old) in
      sum_zero (counted_bytes socket) segments
      (λ k d within.
      let segment : Segment = get_or segments k d in
      let its = each k d within in
      let found = line_of_list pools segment.row.list its.info its.its_list in
      let line : IsPoolLine found.line = at_place IsPoolLine pools segment.row.list found.line old.laid.table.limits.lines found.its_line in
      ap (λ b. if b then segment.row.page else 0)
      (and_left (segment.row.socket == socket) (is_counted segment.state)
      (ne_eqb segment.row.socket socket (λ same. omega (arith, same, high, line.socket, its.socket, found.alike.socket)))))

  -- a run is given up
  pub kept_retired : (run : Run) → IsCountedRun (lists_of pools) (kept_segments kept (table_of log)) run
      → IsKeptTable pools lists masks counts kept totals log
      → IsKeptTable pools lists masks counts (changed_slots kept run Retiring) (set totals run.socket (get_or totals run.socket 0 - run.count * run.page)) log
  kept_retired run its old =
      let fits = run_kept old run its.listed in
      record {
        laid = old.laid;
        slots = slots_changed kept run fits Retiring old.slots;
        counted =
            subst (λ segments. AreTotals segments (set totals run.socket (get_or totals run.socket 0 - run.count * run.page)))
            (sym (segments_retired kept run fits (table_of log)))
            (totals_retired run (kept_segments kept (table_of log)) totals its (placed_kept old) (socket_small old run its.listed) old.counted);
      }

-- what does not count at a place, and after it
pub all_from : {X : Type 0} (P : X → Type 0) (xs : List X) (i : ℕ) (d : X) → i < length xs → All P (drop i xs)
    → P (get_or xs i d) × All P (drop (i + 1) xs)
all_from P xs i d within all =
    let split = subst (All P) (drop-cons xs i d within ∙ ap (λ n. get_or xs i d ∷ drop n xs) (sym (add-one i))) all in
    (All-head P (get_or xs i d) (drop (i + 1) xs) split, All-tail P (get_or xs i d) (drop (i + 1) xs) split)

-- it still does not when the rows of a run go
pub uncounted_without : (run : Run) (runs : List Run) (segments : List Segment) → All (λ other. AllCount false other segments) runs
    → All (λ other. AllCount false other (without_run run segments)) runs
uncounted_without run runs segments each =
    All-weaker (λ other. AllCount false other segments) (λ other. AllCount false other (without_run run segments))
    (λ other none. All-filter (λ segment. not (in_run run segment.row)) (λ segment. in_run other segment.row ≡ true → is_counted segment.state ≡ false) segments none) runs each
