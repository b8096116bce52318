-- Steps that keep the rows sound: growths that end, claims and drops.
use Rattle.std.proofs.Common.{◌≡◌, ◌==◌, ◌∙◌, ℕ, Bool, true, false, not, ◌||◌, List, [], ◌∷◌, ◌++◌, map, filter, get_or, Option, Some, None, refl, ap, sym, subst, arith}
use Rattle.std.specs.List.{All}
use Rattle.std.proofs.lemmas.Bool.{not-true}
use Rattle.std.proofs.lemmas.List.Elements.{All-filter, All-map, All-nil}
use Rattle.std.proofs.lemmas.List.Sorted.{IsNonDecreasingBy-short}
use Rattle.hp_base.specs.declared.row.Run.{Run}
use Rattle.hp_base.specs.declared.pool_line.PoolLine.{PoolLine}
use Rattle.hp_log.specs.Rows.{in_run, IsUsedRun}
use Rattle.hp_log.specs.declared.log_record.LogRecord.{LogRecord}
use Rattle.hp_log.specs.declared.log_record.LogRecord.TheVariants.{Drop}
use Rattle.hp_segs.specs.Lists.{lists_of}
use Rattle.hp_segs.specs.SegsView.{rows_in, is_agreed, is_opened, is_retiring}
use Rattle.hp_segs.specs.SoundRows.{AreHeld, AreRows, IsOfOneHeap, growth_run, has_stamp, in_runs}
use Rattle.hp_segs.specs.Steps.{agreed_segment, claimed_segment, without_run}
use Rattle.hp_segs.specs.Table.{IsTable, IsListRun}
use Rattle.hp_segs.specs.declared.growth.Growth.{Growth}
use Rattle.hp_segs.specs.declared.outcome.Cause.{Cause}
use Rattle.hp_segs.specs.declared.row_state.RowState.{RowState}
use Rattle.hp_segs.specs.declared.row_state.RowState.TheVariants.{Opened, Agreed, Owned, Retiring}
use Rattle.hp_segs.specs.declared.row_state.Segment.{Segment}
use Rattle.hp_segs.proofs.GrowthSteps.ClaimLemmas.{chosen_test, claimed_growth, claimed_opened, claimed_retired}
use Rattle.hp_segs.proofs.RetiredRuns.DropLemmas.{held_without, not_opened}
use Rattle.hp_segs.proofs.RetiredRuns.GivenUp.{one_heap_fewer, one_heap_stays}
use Rattle.hp_segs.proofs.RowTables.HeapRows.{IsOfHeap, heaps_agreed, heaps_claimed, heaps_stay}
use Rattle.hp_segs.proofs.RowTables.KeptLemmas.{agreed_opened, agreed_retired, held_fewer}
use Rattle.hp_segs.proofs.SlotFacts.ListFacts.{all_kept}
use Rattle.hp_segs.proofs.RetiredRuns.RemoveLemmas.{rows_without}
use Rattle.hp_segs.proofs.RowTables.StateLemmas.{agreed_rows, chosen_row, claimed_rows, removed_rows}
use Rattle.hp_segs.proofs.RowTables.WholeGrants.{whole_claimed, whole_filtered, whole_granted}

agreed_alone : (state : RowState) → is_agreed state ≡ true → (is_opened state ≡ false) × (is_retiring state ≡ false)
agreed_alone Opened is = cc
agreed_alone (Agreed heap) is = (refl, refl)
agreed_alone (Owned heap) is = cc
agreed_alone Retiring is = cc

module _ {pools : List PoolLine} {log : List LogRecord} {segments : List Segment} {retiring : List Run} where
  -- a failure is noted for the open growth
  pub rows_noted : (growth : Growth) (cause : Cause) → AreRows pools log segments retiring (Some growth)
      → AreRows pools log segments retiring (Some (record growth { noted = Some cause }))
  rows_noted growth cause old = record {
    table = old.table;
    held = old.held;
    opened = old.opened;
    stamped = old.stamped;
    retired = old.retired;
    rising = old.rising;
    given_up = old.given_up;
    heaps = old.heaps;
    whole = old.whole;
    logged = record {
      participant = old.logged.participant;
      some = old.logged.some;
      last = old.logged.last;
      added = old.logged.added;
      behind = old.logged.behind;
      first = old.logged.first;
      pages = old.logged.pages;
      place = old.logged.place;
    };
  }

  -- the open growth is granted
  pub rows_granted : (growth : Growth) → AreRows pools log segments retiring (Some growth)
      → AreRows pools log (map (agreed_segment growth.generation growth.ask.heap) segments) retiring None
  rows_granted growth old =
      let f : Segment → Segment = agreed_segment growth.generation growth.ask.heap in
      let rows : rows_in (map f segments) ≡ rows_in segments = agreed_rows growth.generation growth.ask.heap segments in
      let opened : All (λ segment. is_opened segment.state ≡ false) (map f segments) =
      All-map (λ segment. is_opened segment.state ≡ false) f segments
      (λ k d within.
      agreed_opened ((get_or segments k d).row.generation == growth.generation) growth.ask.heap (get_or segments k d)
      (old.stamped k d within)) in
      record {
        table = subst (IsTable pools log) (sym rows) old.table;
        held = subst (λ rows. AreHeld (lists_of pools) rows retiring) (sym rows) (held_fewer growth.run retiring old.held);
        opened = opened;
        stamped = opened;
        retired =
            All-map (λ segment. is_retiring segment.state ≡ in_runs retiring segment.row) f segments
            (λ k d within.
            agreed_retired ((get_or segments k d).row.generation == growth.generation) growth.ask.heap (get_or segments k d) retiring
            (old.stamped k d within) (old.retired k d within));
        rising = old.rising;
        given_up = subst (λ rows. All (IsOfOneHeap log rows) retiring) (sym rows) old.given_up;
        heaps = heaps_agreed log growth.run growth.generation growth.ask.heap segments old.logged.added old.heaps;
        whole = whole_granted log segments old.whole growth old.logged old.stamped;
        logged = tt;
      }

  -- the rows of a grant are claimed
  pub rows_claimed : (growth : Option Growth) (generation : ℕ) → AreRows pools log segments retiring growth
      → AreRows pools log (map (claimed_segment generation) segments) retiring growth
  rows_claimed growth generation old =
      let f : Segment → Segment = claimed_segment generation in
      let rows : rows_in (map f segments) ≡ rows_in segments = claimed_rows generation segments in
      let row : (segment : Segment) → (f segment).row ≡ segment.row =
      λ segment. chosen_row (segment.row.generation == generation) _ segment refl in
      record {
        table = subst (IsTable pools log) (sym rows) old.table;
        held = subst (λ rows. AreHeld (lists_of pools) rows (growth_run growth ++ retiring)) (sym rows) old.held;
        opened =
            All-map (λ segment. is_opened segment.state ≡ in_runs (growth_run growth) segment.row) f segments
            (λ k d within.
            chosen_test is_opened claimed_opened ((get_or segments k d).row.generation == generation) (get_or segments k d)
            ∙ (old.opened k d within ∙ ap (in_runs (growth_run growth)) (sym (row (get_or segments k d)))));
        stamped =
            All-map (λ segment. is_opened segment.state ≡ has_stamp growth segment.row) f segments
            (λ k d within.
            chosen_test is_opened claimed_opened ((get_or segments k d).row.generation == generation) (get_or segments k d)
            ∙ (old.stamped k d within ∙ ap (has_stamp growth) (sym (row (get_or segments k d)))));
        retired =
            All-map (λ segment. is_retiring segment.state ≡ in_runs retiring segment.row) f segments
            (λ k d within.
            chosen_test is_retiring claimed_retired ((get_or segments k d).row.generation == generation) (get_or segments k d)
            ∙ (old.retired k d within ∙ ap (in_runs retiring) (sym (row (get_or segments k d)))));
        rising = old.rising;
        given_up = subst (λ rows. All (IsOfOneHeap log rows) retiring) (sym rows) old.given_up;
        heaps = heaps_claimed log generation segments old.heaps;
        whole = whole_claimed log segments old.whole generation;
        logged = claimed_growth pools log generation growth segments old.logged;
      }

  -- the open growth fails
  pub rows_failed : (growth : Growth) → AreRows pools log segments retiring (Some growth)
      → IsTable pools (log ++ Drop growth.run ∷ []) (rows_in (without_run growth.run segments))
      → AreRows pools (log ++ Drop growth.run ∷ []) (without_run growth.run segments) retiring None
  rows_failed growth old new =
      let run : Run = growth.run in
      let outside : Segment → Bool = λ segment. not (in_run run segment.row) in
      let rows : rows_in (without_run run segments) ≡ rows_without run (rows_in segments) = removed_rows run segments in
      let opened : All (λ segment. is_opened segment.state ≡ false) (without_run run segments) =
      all_kept outside (λ segment. is_opened segment.state ≡ in_runs (run ∷ []) segment.row) (λ segment. is_opened segment.state ≡ false)
      (λ segment out is. not_opened segment run out is) segments old.opened in
      record {
        table = new;
        held = subst (λ rows. AreHeld (lists_of pools) rows retiring) (sym rows) (held_without run retiring old.held);
        opened = opened;
        stamped = opened;
        retired = All-filter outside (λ segment. is_retiring segment.state ≡ in_runs retiring segment.row) segments old.retired;
        rising = old.rising;
        given_up =
            subst (λ rows. All (IsOfOneHeap (log ++ Drop run ∷ []) rows) retiring) (sym rows)
            (λ k d within.
            one_heap_fewer (log ++ Drop run ∷ []) (rows_in segments) (λ row. not (in_run run row)) (get_or retiring k d)
            (one_heap_stays log (Drop run ∷ []) (rows_in segments) (get_or retiring k d) (old.given_up k d within)));
        heaps =
            All-filter outside (λ segment. IsOfHeap (log ++ Drop run ∷ []) segment) segments
            (heaps_stay log (Drop run ∷ []) segments old.heaps);
        whole =
            whole_filtered log segments old.whole (Drop run ∷ []) outside
            (λ k d within agreed.
            outside_growth (in_run run (get_or segments k d).row)
            (sym (old.opened k d within) ∙ (agreed_alone (get_or segments k d).state agreed).0));
        logged = tt;
      }
    where
      outside_growth : (inside : Bool) → (inside || false) ≡ false → not inside ≡ true
      outside_growth true none = cc
      outside_growth false none = refl

  -- all Retiring runs go
  pub rows_dropped : AreRows pools log segments retiring None
      → IsTable pools (log ++ map (λ run. Drop run) retiring) (rows_in (filter (λ segment. not (is_retiring segment.state)) segments))
      → AreRows pools (log ++ map (λ run. Drop run) retiring) (filter (λ segment. not (is_retiring segment.state)) segments) [] None
  rows_dropped old new =
      let stays : Segment → Bool = λ segment. not (is_retiring segment.state) in
      record {
        table = new;
        held = record {
          listed = All-nil (IsListRun (lists_of pools));
          used = All-nil (IsUsedRun (rows_in (filter stays segments)));
          apart = λ list slot. omega arith;
        };
        opened = All-filter stays (λ segment. is_opened segment.state ≡ in_runs [] segment.row) segments old.opened;
        stamped = All-filter stays (λ segment. is_opened segment.state ≡ has_stamp None segment.row) segments old.stamped;
        retired =
            all_kept stays (λ segment. is_retiring segment.state ≡ in_runs retiring segment.row) (λ segment. is_retiring segment.state ≡ in_runs [] segment.row)
            (λ segment out is. not-true (is_retiring segment.state) out) segments old.retired;
        rising = IsNonDecreasingBy-short (λ (run : Run). run.addr) [] (omega arith);
        given_up = All-nil (IsOfOneHeap (log ++ map (λ run. Drop run) retiring) (rows_in (filter stays segments)));
        heaps =
            All-filter stays (λ segment. IsOfHeap (log ++ map (λ run. Drop run) retiring) segment) segments
            (heaps_stay log (map (λ run. Drop run) retiring) segments old.heaps);
        whole =
            whole_filtered log segments old.whole (map (λ run. Drop run) retiring) stays
            (λ k d within agreed. ap not (agreed_alone (get_or segments k d).state agreed).1);
        logged = tt;
      }
