-- A run of a heap that is given up.
use Rattle.std.proofs.Common.{◌≡◌, ℕ, ◌+◌, ◌<◌, ◌≤◌, Bool, true, false, ◌||◌, cond, if◌then◌else◌, List, ◌++◌, map, length, get_or, refl, ap, ◌∙◌, sym, subst, arith, count_by, sum_by, length-append}
use Rattle.std.specs.List.{All, list_any}
use Rattle.std.proofs.lemmas.Bool.{false_from_ne_true, true_from_ne_false}
use Rattle.std.proofs.lemmas.List.Elements.{All-map}
use Rattle.std.proofs.lemmas.List.Folds.{list_any_at}
use Rattle.hp_base.specs.declared.row.Row.{Row}
use Rattle.hp_base.specs.declared.row.Run.{Run}
use Rattle.hp_segs.specs.Calls.{OwnsRun}
use Rattle.hp_segs.specs.Lists.{lists_of}
use Rattle.hp_log.specs.Rows.{rows_at, at_slot, in_run, IsUsedRun}
use Rattle.hp_segs.specs.SegsView.{SegsView, rows_in, is_retiring}
use Rattle.hp_segs.specs.Sound.{IsSound}
use Rattle.hp_segs.specs.SoundRows.{AreHeld, AreRows, IsOfOneHeap, has_slot, in_runs, growth_run}
use Rattle.hp_segs.specs.Steps.{segment_of, retired_segment, insert_by_address}
use Rattle.hp_segs.specs.Table.{IsTable, IsListRun}
use Rattle.hp_segs.specs.declared.list_info.ListInfo.{ListInfo}
use Rattle.hp_segs.specs.declared.row_state.RowState.TheVariants.{Retiring}
use Rattle.hp_segs.specs.declared.row_state.Segment.{Segment}
use Rattle.hp_log.proofs.Counts.{count_append, count_none}
use Rattle.hp_segs.proofs.RetiredRuns.DropLemmas.{own_slot}
use Rattle.hp_segs.proofs.RetiredRuns.GivenUp.{owned_none_agreed, owned_one_heap}
use Rattle.hp_segs.proofs.RowTables.HeapRows.{heaps_retired}
use Rattle.hp_segs.proofs.RowTables.WholeGrants.{whole_retired}
use Rattle.hp_segs.proofs.InsertLemmas.{all_insert, count_insert, insert_rises, in_runs_insert, insert_held, length_insert}
use Rattle.hp_segs.proofs.RowTables.OwnedLemmas.{listed_owned, none_held, used_owned}
use Rattle.hp_segs.proofs.Pigeonhole.{length_by_keys, rows_within, slots_of_lists}
use Rattle.hp_segs.proofs.RetiredRuns.RetireGrowth.{logged_retired, opened_retired, stamped_retired}
use Rattle.hp_segs.proofs.SlotFacts.SlotLemmas.{in_run_by_slot}
use Rattle.hp_segs.proofs.RowTables.StateLemmas.{retired_rows}

module _ (segs : SegsView) (sound : IsSound segs) (heap : ℕ) (run : Run) (owns : OwnsRun heap run segs) where
  retired_by : (inside : Bool) (segment : Segment) → in_run run segment.row ≡ inside
      → is_retiring segment.state ≡ in_runs segs.retiring segment.row
      → is_retiring (if inside then segment_of Retiring segment.row else segment).state
      ≡ in_runs (insert_by_address run segs.retiring) (if inside then segment_of Retiring segment.row else segment).row
  retired_by true segment inside is =
      sym (in_runs_insert run segs.retiring segment.row ∙ ap (λ b. b || in_runs segs.retiring segment.row) inside)
  retired_by false segment outside is =
      is ∙ sym (in_runs_insert run segs.retiring segment.row ∙ ap (λ b. b || in_runs segs.retiring segment.row) outside)

  apart_retired : (has : Bool) (list slot : ℕ) → has_slot list slot run ≡ has
      → count_by (has_slot list slot) (growth_run segs.growth ++ insert_by_address run segs.retiring) ≤ 1
  apart_retired true list slot has =
      let one : ◌≡◌ {A = ℕ} (cond (has_slot list slot run) 1 0) 1 = ap (λ b. cond b 1 0) has in
      let none = count_none (has_slot list slot) (growth_run segs.growth ++ segs.retiring) (none_held segs sound heap run owns list slot has) in
      omega (
        arith,
        one,
        none,
        count_append (has_slot list slot) (growth_run segs.growth) segs.retiring,
        count_append (has_slot list slot) (growth_run segs.growth) (insert_by_address run segs.retiring),
        count_insert (has_slot list slot) run segs.retiring,
      )
  apart_retired false list slot has =
      let zero_more : ◌≡◌ {A = ℕ} (cond (has_slot list slot run) 1 0) 0 = ap (λ b. cond b 1 0) has in
      omega (
        arith,
        zero_more,
        sound.rows.held.apart list slot,
        count_append (has_slot list slot) (growth_run segs.growth) segs.retiring,
        count_append (has_slot list slot) (growth_run segs.growth) (insert_by_address run segs.retiring),
        count_insert (has_slot list slot) run segs.retiring,
      )

  -- the held runs with the run among the Retiring ones
  pub held_retired : AreHeld (lists_of segs.pools) (rows_in segs.segments) (growth_run segs.growth ++ insert_by_address run segs.retiring)
  held_retired = record {
    listed = insert_held (IsListRun (lists_of segs.pools)) run (growth_run segs.growth) segs.retiring (listed_owned segs sound heap run owns) sound.rows.held.listed;
    used = insert_held (IsUsedRun (rows_in segs.segments)) run (growth_run segs.growth) segs.retiring (used_owned segs sound heap run owns) sound.rows.held.used;
    apart = λ list slot.
        apart_retired (has_slot list slot run) list slot refl;
  }

  -- the Retiring rows are those of the Retiring runs
  pub retired_retired : All (λ segment. is_retiring segment.state ≡ in_runs (insert_by_address run segs.retiring) segment.row) (map (retired_segment run) segs.segments)
  retired_retired =
      All-map (λ segment. is_retiring segment.state ≡ in_runs (insert_by_address run segs.retiring) segment.row) (retired_segment run) segs.segments
      (λ k d within. retired_by (in_run run (get_or segs.segments k d).row) (get_or segs.segments k d) refl (sound.rows.retired k d within))

outside_at : (at inside : Bool) → (at ≡ true → inside ≡ true) → inside ≡ false → at ≡ false
outside_at true inside is out = let wrong : true ≡ false = sym (is refl) ∙ out in cc
outside_at false inside is out = refl

none_in_rows : (rows : List Row) (run : Run) (list slot : ℕ) → has_slot list slot run ≡ true → list_any (λ row. in_run run row) rows ≡ false
    → rows_at rows list slot ≡ 0
none_in_rows rows run list slot has none =
    count_none (at_slot list slot) rows
    (λ k d within.
    outside_at (at_slot list slot (get_or rows k d)) (in_run run (get_or rows k d))
    (λ at. in_run_by_slot run list slot (get_or rows k d) at ∙ has)
    (false_from_ne_true (in_run run (get_or rows k d)) (λ inside.
    let wrong : true ≡ false = sym (list_any_at (λ row. in_run run row) rows k d within inside) ∙ none in
    cc)))

any_in_run : (rows : List Row) (run : Run) (list slot : ℕ) → has_slot list slot run ≡ true → rows_at rows list slot ≡ 1
    → list_any (λ row. in_run run row) rows ≡ true
any_in_run rows run list slot has one =
    true_from_ne_false (list_any (λ row. in_run run row) rows) (λ none.
    let off = none_in_rows rows run list slot has none in
    omega (arith, one, off))

-- no more held runs than rows
pub runs_within : {lists : List ListInfo} {rows : List Row} (runs : List Run) → AreHeld lists rows runs → length runs ≤ length rows
runs_within {lists} {rows} runs held =
    length_by_keys (λ row run. in_run run row) rows runs
    (λ k d within.
    let run : Run = get_or runs k d in
    let one = (held.used k d within).used 0 (held.listed k d within).some in
    any_in_run rows run run.list (run.first + 0) (own_slot run 0 (held.listed k d within).some) one)
    (λ k d within. held.apart (get_or rows k d).list (get_or rows k d).slot)

module _ (segs : SegsView) (sound : IsSound segs) (heap : ℕ) (run : Run) (owns : OwnsRun heap run segs) where
  -- the rows with the run among the Retiring ones
  pub rows_retired : AreRows segs.pools segs.log (map (retired_segment run) segs.segments) (insert_by_address run segs.retiring) segs.growth
  rows_retired =
      let rows : rows_in (map (retired_segment run) segs.segments) ≡ rows_in segs.segments = retired_rows run segs.segments in
      record {
        table = subst (IsTable segs.pools segs.log) (sym rows) sound.rows.table;
        held =
            subst (λ rows. AreHeld (lists_of segs.pools) rows (growth_run segs.growth ++ insert_by_address run segs.retiring)) (sym rows)
            (held_retired segs sound heap run owns);
        opened = opened_retired segs sound heap run owns;
        stamped = stamped_retired segs sound heap run owns;
        retired = retired_retired segs sound heap run owns;
        rising = insert_rises run segs.retiring sound.rows.rising;
        given_up =
            subst (λ rows. All (IsOfOneHeap segs.log rows) (insert_by_address run segs.retiring)) (sym rows)
            (all_insert (IsOfOneHeap segs.log (rows_in segs.segments)) run segs.retiring
            (owned_one_heap segs.segments heap run sound.rows.table.once owns.owned segs.log sound.rows.heaps) sound.rows.given_up);
        heaps = heaps_retired segs.log run segs.segments sound.rows.heaps;
        whole =
            whole_retired segs.log segs.segments sound.rows.whole run
            (owned_none_agreed segs.segments heap run sound.rows.table.once owns.owned);
        logged = logged_retired segs sound heap run owns segs.growth refl sound.rows.logged;
      }

  -- fewer Retiring runs than slots
  pub retiring_within : length segs.retiring < sum_by (λ line. line.slots) segs.pools
  retiring_within =
      let runs = runs_within (growth_run segs.growth ++ insert_by_address run segs.retiring) (held_retired segs sound heap run owns) in
      let rows = rows_within (lists_of segs.pools) (rows_in segs.segments) sound.rows.table.placed sound.rows.table.once in
      omega (
        arith,
        runs,
        rows,
        slots_of_lists segs.pools,
        length-append (growth_run segs.growth) (insert_by_address run segs.retiring),
        length_insert run segs.retiring,
      )
