-- A growth that opens keeps the rows sound.
use Rattle.std.proofs.Common.{◌≡◌, ℕ, ◌+◌, ◌-◌, ◌<◌, ◌≤◌, true, false, List, [], ◌∷◌, ◌++◌, map, length, get_or, Some, None, refl, ap, ◌∙◌, sym, subst, arith, length-append, not}
use Rattle.std.specs.List.{All, slice_get}
use Rattle.std.proofs.lemmas.Bool.{eq-eqb, ne_eqb}
use Rattle.std.proofs.lemmas.List.Elements.{All-append, All-map}
use Rattle.hp_base.specs.declared.row.Row.{Row}
use Rattle.hp_base.specs.declared.row.Run.{Run}
use Rattle.hp_segs.specs.Lists.{lists_of}
use Rattle.hp_log.specs.Rows.{row_of, rows_of, rows_at, in_run, IsUnusedRun}
use Rattle.hp_segs.specs.SegsView.{rows_in, is_opened, is_retiring}
use Rattle.hp_segs.specs.SoundRows.{AreHeld, in_runs, has_stamp}
use Rattle.hp_segs.specs.Steps.{segment_of}
use Rattle.hp_segs.specs.Table.{HasPages, IsTable, IsListRun, IsStamped}
use Rattle.hp_segs.specs.declared.growth.Growth.{Growth}
use Rattle.hp_base.specs.declared.pool_line.PoolLine.{PoolLine}
use Rattle.hp_segs.specs.declared.row_state.Segment.{Segment}
use Rattle.hp_log.specs.declared.log_record.LogRecord.TheVariants.{Add}
use Rattle.hp_segs.specs.declared.row_state.RowState.TheVariants.{Opened}
use Rattle.hp_segs.proofs.SlotFacts.ListFacts.{filter_keeps, all_unmap}
use Rattle.hp_log.proofs.RowLemmas.{all_rows_below, in_run_from, row_at_place}
use Rattle.hp_segs.specs.Machine.{unopened}
use Rattle.hp_segs.specs.Plan.{HasPlace, IsFirstFor}
use Rattle.hp_segs.proofs.RowTables.HeapRows.{heaps_open}
use Rattle.hp_segs.proofs.RowTables.StateLemmas.{opened_rows, unopened_before}
use Rattle.hp_log.specs.declared.log_record.LogRecord.{LogRecord}
use Rattle.hp_segs.specs.SoundRows.{AreRows, IsOfOneHeap}
use Rattle.hp_segs.proofs.RetiredRuns.GivenUp.{one_heap_more, one_heap_stays}
use Rattle.hp_segs.proofs.GrowthSteps.OpenLemmas.{held_more, none_in_unused, or_off, or_true, outside_runs, record_pushed}
use Rattle.hp_segs.proofs.RowTables.WholeGrants.{whole_opened}
use Rattle.hp_segs.proofs.SlotFacts.ListFacts.{any_off}

module _ {pools : List PoolLine} {log : List LogRecord} {segments : List Segment} {retiring : List Run} where
  -- a growth opens by an unused run of a list
  pub rows_opened : (growth : Growth) → AreRows pools log segments retiring None
      → growth.generation ≡ length log + 1 → growth.ask.from < 16
      → IsListRun (lists_of pools) growth.run → IsUnusedRun (rows_in segments) growth.run
      → IsFirstFor pools (rows_in segments) growth.ask growth.run → HasPages pools (rows_in segments) growth.run → HasPlace growth.ask growth.run
      → IsTable pools (log ++ Add growth.run growth.ask.heap ∷ []) (rows_in (segments ++ map (segment_of Opened) (rows_of growth.run (length log + 1))))
      → AreRows pools (log ++ Add growth.run growth.ask.heap ∷ []) (segments ++ map (segment_of Opened) (rows_of growth.run (length log + 1)))
      retiring (Some growth)
  rows_opened growth old stamp participant listed unused first pages place new =
      let run : Run = growth.run in
      let generation : ℕ = length log + 1 in
      let fresh : List Row = rows_of run generation in
      let rows : rows_in (segments ++ map (segment_of Opened) fresh) ≡ rows_in segments ++ fresh = opened_rows segments Opened fresh in
      let once : (list slot : ℕ) → rows_at (rows_in segments ++ fresh) list slot ≤ 1 =
      subst (λ rows. (list slot : ℕ) → rows_at rows list slot ≤ 1) rows new.once in
      let others : unopened (segments ++ map (segment_of Opened) fresh) ≡ segments =
      unopened_before segments fresh
      ∙ filter_keeps (λ segment. not (is_opened segment.state)) segments (λ k d within. ap not (old.opened k d within)) in
      let old_out : All (λ segment. in_run run segment.row ≡ false) segments =
      all_unmap (λ row. in_run run row ≡ false) (λ segment. segment.row) segments (none_in_unused (rows_in segments) run unused) in
      let old_stamp : All (λ segment. IsStamped log segment.row) segments =
      all_unmap (IsStamped log) (λ segment. segment.row) segments old.table.stamped in
      let fresh_out : (k : ℕ) → k < run.count → in_runs retiring (row_of run generation k) ≡ false =
      λ k below.
      outside_runs (rows_in segments) run retiring (row_of run generation k) run.list (run.first + k) unused old.held.used
      refl refl (in_run_from run k (row_of run generation k) below (row_at_place run generation k)) in
      record {
        table = new;
        held =
            subst (λ rows. AreHeld (lists_of pools) rows (run ∷ retiring)) (sym rows)
            (held_more run generation old.held listed unused once);
        opened =
            All-append (λ segment. is_opened segment.state ≡ in_runs (run ∷ []) segment.row) segments (map (segment_of Opened) fresh)
            (λ k d within. old.opened k d within ∙ sym (or_off (in_run run (get_or segments k d).row) (old_out k d within)))
            (All-map (λ segment. is_opened segment.state ≡ in_runs (run ∷ []) segment.row) (segment_of Opened) fresh
            (all_rows_below (λ row. true ≡ in_runs (run ∷ []) row) run generation run.count
            (λ k below.
            sym
            (or_true (in_run run (row_of run generation k)) false
            (in_run_from run k (row_of run generation k) below (row_at_place run generation k))))));
        stamped =
            All-append (λ segment. is_opened segment.state ≡ has_stamp (Some growth) segment.row) segments (map (segment_of Opened) fresh)
            (λ k d within.
            old.opened k d within
            ∙ sym
            (ne_eqb (get_or segments k d).row.generation growth.generation
            (λ same. omega (arith, (old_stamp k d within).within, stamp, same))))
            (All-map (λ segment. is_opened segment.state ≡ has_stamp (Some growth) segment.row) (segment_of Opened) fresh
            (all_rows_below (λ row. true ≡ has_stamp (Some growth) row) run generation run.count
            (λ k below. sym (eq-eqb generation growth.generation (sym stamp)))));
        retired =
            All-append (λ segment. is_retiring segment.state ≡ in_runs retiring segment.row) segments (map (segment_of Opened) fresh)
            old.retired
            (All-map (λ segment. is_retiring segment.state ≡ in_runs retiring segment.row) (segment_of Opened) fresh
            (all_rows_below (λ row. false ≡ in_runs retiring row) run generation run.count (λ k below. sym (fresh_out k below))));
        rising = old.rising;
        given_up = λ i d within.
            subst (λ rows. IsOfOneHeap (log ++ Add run growth.ask.heap ∷ []) rows (get_or retiring i d)) (sym rows)
            (one_heap_more (log ++ Add run growth.ask.heap ∷ []) (rows_in segments) fresh (get_or retiring i d)
            (all_rows_below (λ row. in_run (get_or retiring i d) row ≡ false) run generation run.count
            (λ k below. any_off (λ other. in_run other (row_of run generation k)) retiring (fresh_out k below) i d within))
            (one_heap_stays log (Add run growth.ask.heap ∷ []) (rows_in segments) (get_or retiring i d) (old.given_up i d within)));
        heaps = heaps_open log (Add run growth.ask.heap ∷ []) segments fresh old.heaps;
        whole =
            whole_opened log segments old.whole (Add run growth.ask.heap ∷ []) run generation
            (λ k d within. omega (arith, (old_stamp k d within).within));
        logged = record {
          participant = participant;
          some = omega (arith, stamp);
          last = omega (arith, stamp, length-append log (Add run growth.ask.heap ∷ []));
          added =
              ap (λ g. slice_get (log ++ Add run growth.ask.heap ∷ []) (g - 1)) stamp ∙ record_pushed log (Add run growth.ask.heap);
          behind =
              ap (λ front. front ++ map (segment_of Opened) fresh) (sym others)
              ∙ ap (λ g. unopened (segments ++ map (segment_of Opened) fresh) ++ map (segment_of Opened) (rows_of run g)) (sym stamp);
          first = subst (λ segments. IsFirstFor pools (rows_in segments) growth.ask run) (sym others) first;
          pages = subst (λ segments. HasPages pools (rows_in segments) run) (sym others) pages;
          place = place;
        };
      }
