-- The calls of a segment value as steps of the plain machine.
use Rattle.std.proofs.Common.{◌≡◌, ◌==◌, ℕ, zero, suc, ◌+◌, ◌≤◌, Bool, true, false, not, ◌&&◌, ◌||◌, cond, List, [], ◌∷◌, ◌++◌, map, length, filter, get_or, Option, Some, refl, ap, ◌∙◌, sym, subst, arith, count_by, slice_index}
use Rattle.std.specs.List.{All, slice_get}
use Rattle.std.proofs.lemmas.List.{append-nil}
use Rattle.std.proofs.lemmas.List.Elements.{filter-append}
use Rattle.std.proofs.lemmas.Bool.{not_from_true, not_from_false}
use Rattle.hp_base.specs.declared.row.Row.{Row}
use Rattle.hp_base.specs.declared.row.Run.{Run}
use Rattle.hp_base.specs.declared.pool_line.PoolLine.{PoolLine}
use Rattle.hp_segs.specs.Laws.{FailedGrowthLeaves, ClaimIsStep, RetireIsStep, DropIsStep}
use Rattle.hp_segs.specs.Lists.{free_pages, is_of_pool}
use Rattle.hp_log.specs.Log.{table_of}
use Rattle.hp_segs.specs.Machine.{Claims, machine_of, free_beside, unopened, is_retiring_of}
use Rattle.hp_log.specs.Rows.{row_of, rows_of, in_run}
use Rattle.hp_segs.specs.SegsView.{SegsView, rows_in, is_opened, is_retiring}
use Rattle.hp_segs.specs.Sound.{IsSound}
use Rattle.hp_segs.specs.SoundRows.{in_runs, growth_run}
use Rattle.hp_segs.specs.Steps.{segment_of, claimed_segment, retired_segment, without_run, claimed_grant, after_open, after_failure}
use Rattle.hp_segs.specs.declared.ask.Ask.{Ask}
use Rattle.hp_segs.specs.declared.outcome.Cause.{Cause}
use Rattle.hp_segs.specs.declared.growth.Growth.{Growth}
use Rattle.hp_log.specs.declared.log_record.LogRecord.TheVariants.{Add, Drop}
use Rattle.hp_segs.specs.declared.row_state.RowState.TheVariants.{Retiring}
use Rattle.hp_segs.specs.declared.row_state.Segment.{Segment}
use Rattle.hp_log.proofs.Counts.{count_split, count_agree}
use Rattle.hp_segs.proofs.GrowthSteps.ClaimLemmas.{chosen_test, claimed_opened}
use Rattle.hp_log.proofs.LogLemmas.{table_of_push}
use Rattle.hp_segs.proofs.GrowthSteps.OpenLemmas.{none_in_unused}
use Rattle.hp_segs.proofs.RowTables.OwnedLemmas.{none_growth}
use Rattle.hp_log.proofs.RowLemmas.{all_rows_below, in_run_from, row_at_place}
use Rattle.hp_segs.proofs.RowTables.StateLemmas.{claimed_rows, retired_rows, unopened_before}
use Rattle.hp_segs.proofs.Finds.{count_mapped}
use Rattle.hp_segs.proofs.SlotFacts.ListFacts.{filter_alike, filter_twice, filter_swap, filter_keeps, filter_drops, filter_mapped}
use Rattle.hp_segs.proofs.RowTables.TableUse.{at_place}

pub failed_growth_leaves : FailedGrowthLeaves
failed_growth_leaves log run heap unused =
    let outside : Row → Bool = λ row. not (in_run run row) in
    let added = table_of_push log (Add run heap) in
    let kept : filter outside (table_of log) ≡ table_of log =
    filter_keeps outside (table_of log) (λ k d within. not_from_false (in_run run (get_or (table_of log) k d)) (none_in_unused (table_of log) run unused k d within)) in
    let gone : filter outside (rows_of run (length log + 1)) ≡ [] =
    filter_drops outside (rows_of run (length log + 1))
    (all_rows_below (λ row. outside row ≡ false) run (length log + 1) run.count
    (λ k below. not_from_true (in_run run (row_of run (length log + 1) k)) (in_run_from run k (row_of run (length log + 1) k) below (row_at_place run (length log + 1) k)))) in
    table_of_push (log ++ Add run heap ∷ []) (Drop run)
    ∙ (ap (filter outside) added
    ∙ (filter-append outside (table_of log) (rows_of run (length log + 1))
    ∙ (ap (λ more. filter outside (table_of log) ++ more) gone ∙ (append-nil (filter outside (table_of log)) ∙ kept))))

claim_machine : (segs : SegsView) (generation : ℕ)
    → Claims generation (machine_of segs) (machine_of (record segs { segments = map (claimed_segment generation) segs.segments }))
claim_machine segs generation =
    let rows : unopened (map (claimed_segment generation) segs.segments) ≡ map (claimed_segment generation) (unopened segs.segments) =
    filter_mapped (λ segment. not (is_opened segment.state)) (claimed_segment generation) segs.segments
    (λ k d within.
    ap not (chosen_test is_opened claimed_opened ((get_or segs.segments k d).row.generation == generation) (get_or segs.segments k d))) in
    record {
      rows = rows;
      free =
          ap (free_beside segs.pools) rows
          ∙ ap (λ rows. map (free_pages rows) segs.pools) (claimed_rows generation (unopened segs.segments));
    }

pub claim_is_step : ClaimIsStep
claim_is_step segs from number generation grant =
    subst (λ g. Claims generation (machine_of segs) (machine_of (claimed_grant segs g))) (sym grant) (claim_machine segs generation)

retire_settled : (inside : Bool) (segment : Segment) → (inside ≡ true → is_opened segment.state ≡ false)
    → not (is_opened (cond inside (segment_of Retiring segment.row) segment).state) ≡ not (is_opened segment.state)
retire_settled true segment out = ap not (sym (out refl))
retire_settled false segment out = refl

pub retire_is_step : RetireIsStep
retire_is_step segs heap run sound owns =
    let rows : unopened (map (retired_segment run) segs.segments) ≡ map (retired_segment run) (unopened segs.segments) =
    filter_mapped (λ segment. not (is_opened segment.state)) (retired_segment run) segs.segments
    (λ k d within.
    retire_settled (in_run run (get_or segs.segments k d).row) (get_or segs.segments k d)
    (λ inside. sound.rows.opened k d within ∙ none_growth segs sound heap run owns (get_or segs.segments k d).row inside)) in
    record {
      rows = rows;
      free =
          ap (free_beside segs.pools) rows ∙ ap (λ rows. map (free_pages rows) segs.pools) (retired_rows run (unopened segs.segments));
    }

-- a growth that opens
pub open_leaves : (segs : SegsView) (ask : Ask) (run : Run) → machine_of (after_open ask run segs) ≡ machine_of segs
open_leaves segs ask run =
    ap (λ rows. record { free = free_beside segs.pools rows; rows = rows })
    (unopened_before segs.segments (rows_of run (length segs.log + 1)))

and_off : (b : Bool) → (b && false) ≡ false
and_off true = refl
and_off false = refl

failed_by : (opened inside : Bool) → opened ≡ (inside || false) → (not inside && not opened) ≡ not opened
failed_by true inside is = and_off (not inside)
failed_by false true is = cc
failed_by false false is = refl

failure_rows : (segs : SegsView) (growth : Growth) → IsSound segs → segs.growth ≡ Some growth
    → unopened (without_run growth.run segs.segments) ≡ unopened segs.segments
failure_rows segs growth sound open_now =
    let opened : All (λ segment. is_opened segment.state ≡ in_runs (growth.run ∷ []) segment.row) segs.segments =
    subst (λ g. All (λ segment. is_opened segment.state ≡ in_runs (growth_run g) segment.row) segs.segments) open_now sound.rows.opened in
    filter_twice (λ segment. not (in_run growth.run segment.row)) (λ segment. not (is_opened segment.state)) segs.segments
    ∙ filter_alike
    (λ segment. not (in_run growth.run segment.row) && not (is_opened segment.state))
    (λ segment. not (is_opened segment.state))
    segs.segments
    (λ k d within. failed_by (is_opened (get_or segs.segments k d).state) (in_run growth.run (get_or segs.segments k d).row) (opened k d within))

-- a growth that fails
pub failure_leaves : (segs : SegsView) (growth : Growth) (cause : Cause) (ask : Option Ask) (places : ℕ) → IsSound segs → segs.growth ≡ Some growth
    → machine_of (after_failure growth cause ask places segs) ≡ machine_of segs
failure_leaves segs growth cause ask places sound open_now =
    ap (λ rows. record { free = free_beside segs.pools rows; rows = rows }) (failure_rows segs growth sound open_now)

retiring_by : (retiring of : Bool) → (not (not retiring) && of) ≡ (of && retiring)
retiring_by true true = refl
retiring_by true false = refl
retiring_by false true = refl
retiring_by false false = refl

-- the free pages of the pool of a place
pub free_at : (rows : List Row) (pools : List PoolLine) (pool : ℕ) (line : PoolLine) → slice_get pools pool ≡ Some line
    → slice_index (map (free_pages rows) pools) pool ≡ free_pages rows line
free_at rows [] pool line here = cc
free_at rows (first ∷ pools) zero line here =
    let same : first ≡ line = cc in
    ap (free_pages rows) same
free_at rows (first ∷ pools) (suc pool) line here = free_at rows pools pool line here

pub drop_is_step : DropIsStep
drop_is_step segs sound alone =
    let stays : Segment → Bool = λ segment. not (is_retiring segment.state) in
    let settled : Segment → Bool = λ segment. not (is_opened segment.state) in
    let rows : unopened (filter stays segs.segments) ≡ filter stays (unopened segs.segments) = filter_swap stays settled segs.segments in
    record {
      rows = rows;
      free = λ pool line here.
          let of : Segment → Bool = λ segment. is_of_pool line segment.row in
          let old_free = free_at (rows_in (unopened segs.segments)) segs.pools pool line here in
          let new_free = free_at (rows_in (unopened (filter stays segs.segments))) segs.pools pool line here in
          let old_count = count_mapped (is_of_pool line) (λ (segment : Segment). segment.row) (unopened segs.segments) in
          let new_count = count_mapped (is_of_pool line) (λ (segment : Segment). segment.row) (unopened (filter stays segs.segments)) in
          let all_count = count_mapped (is_of_pool line) (λ (segment : Segment). segment.row) segs.segments in
          let same = ap (count_by of) rows in
          let split = count_split of stays (unopened segs.segments) in
          let gone =
          count_agree (λ segment. not (stays segment) && of segment) (is_retiring_of line) (unopened segs.segments)
          (λ k d within. retiring_by (is_retiring (get_or (unopened segs.segments) k d).state) (of (get_or (unopened segs.segments) k d))) in
          let few = count_split of settled segs.segments in
          let paged : count_by (is_of_pool line) (rows_in segs.segments) ≤ line.pages =
          at_place (λ line. count_by (is_of_pool line) (rows_in segs.segments) ≤ line.pages) segs.pools pool line sound.rows.table.paged here in
          omega (arith, old_free, new_free, old_count, new_count, all_count, same, split, gone, few, paged);
    }
