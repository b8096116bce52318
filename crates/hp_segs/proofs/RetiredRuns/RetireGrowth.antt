-- The open growth stays where a run of a heap is given up.
use Rattle.std.proofs.Common.{◌≡◌, ℕ, ◌<◌, Bool, true, false, not, ◌||◌, if◌then◌else◌, map, get_or, Option, Some, None, refl, ap, ◌∙◌, sym}
use Rattle.std.specs.List.{All}
use Rattle.std.proofs.lemmas.Bool.{false_from_ne_true}
use Rattle.std.proofs.lemmas.List.Elements.{All-map}
use Rattle.hp_base.specs.declared.row.Row.{Row}
use Rattle.hp_base.specs.declared.row.Run.{Run}
use Rattle.hp_segs.specs.Calls.{OwnsRun}
use Rattle.hp_log.specs.Rows.{row_of, in_run}
use Rattle.hp_segs.specs.SegsView.{SegsView, is_opened}
use Rattle.hp_segs.specs.Sound.{IsSound}
use Rattle.hp_segs.specs.SoundRows.{IsLogged, in_runs, has_stamp, growth_run}
use Rattle.hp_segs.specs.Steps.{segment_of, retired_segment}
use Rattle.hp_segs.specs.declared.growth.Growth.{Growth}
use Rattle.hp_segs.specs.declared.row_state.RowState.TheVariants.{Opened, Retiring}
use Rattle.hp_segs.specs.declared.row_state.Segment.{Segment}
use Rattle.hp_segs.proofs.GrowthSteps.GrowthLemmas.{growth_stays}
use Rattle.hp_segs.proofs.RowTables.OwnedLemmas.{none_growth}
use Rattle.hp_log.proofs.RowLemmas.{all_rows_below, in_run_from, row_at_place}
use Rattle.hp_segs.proofs.RowTables.StateLemmas.{chosen_row}

module _ (segs : SegsView) (sound : IsSound segs) (heap : ℕ) (run : Run) (owns : OwnsRun heap run segs) where
  no_growth : (row : Row) → in_run run row ≡ true → in_runs (growth_run segs.growth) row ≡ false
  no_growth row inside = none_growth segs sound heap run owns row inside

  opened_by : (inside : Bool) (segment : Segment) → in_run run segment.row ≡ inside
      → is_opened segment.state ≡ in_runs (growth_run segs.growth) segment.row
      → is_opened (if inside then segment_of Retiring segment.row else segment).state
      ≡ in_runs (growth_run segs.growth) (if inside then segment_of Retiring segment.row else segment).row
  opened_by true segment inside is = sym (no_growth segment.row inside)
  opened_by false segment outside is = is

  stamped_by : (inside : Bool) (segment : Segment) → in_run run segment.row ≡ inside
      → is_opened segment.state ≡ in_runs (growth_run segs.growth) segment.row → is_opened segment.state ≡ has_stamp segs.growth segment.row
      → is_opened (if inside then segment_of Retiring segment.row else segment).state
      ≡ has_stamp segs.growth (if inside then segment_of Retiring segment.row else segment).row
  stamped_by true segment inside opened is = sym (no_growth segment.row inside) ∙ (sym opened ∙ is)
  stamped_by false segment outside opened is = is

  -- the Opened rows are those of its run
  pub opened_retired : All (λ segment. is_opened segment.state ≡ in_runs (growth_run segs.growth) segment.row) (map (retired_segment run) segs.segments)
  opened_retired =
      All-map (λ segment. is_opened segment.state ≡ in_runs (growth_run segs.growth) segment.row) (retired_segment run) segs.segments
      (λ k d within. opened_by (in_run run (get_or segs.segments k d).row) (get_or segs.segments k d) refl (sound.rows.opened k d within))

  growth_row_out : (growth : Growth) → segs.growth ≡ Some growth → (k : ℕ) → k < growth.run.count
      → in_run run (row_of growth.run growth.generation k) ≡ false
  growth_row_out growth open_now k below =
      let row : Row = row_of growth.run growth.generation k in
      false_from_ne_true (in_run run row) (λ inside.
      let none = no_growth row inside in
      let own : in_run growth.run row ≡ true = in_run_from growth.run k row below (row_at_place growth.run growth.generation k) in
      let held : in_runs (growth_run segs.growth) row ≡ true =
      ap (λ g. in_runs (growth_run g) row) open_now ∙ ap (λ b. b || false) own in
      let wrong : true ≡ false = sym held ∙ none in
      cc)

  own_stays : (inside : Bool) (row : Row) → inside ≡ false → (if inside then segment_of Retiring row else segment_of Opened row) ≡ segment_of Opened row
  own_stays true row out = cc
  own_stays false row out = refl

  settled_stays : (inside : Bool) (segment : Segment) → in_run run segment.row ≡ inside → is_opened segment.state ≡ in_runs (growth_run segs.growth) segment.row
      → not (is_opened (if inside then segment_of Retiring segment.row else segment).state) ≡ not (is_opened segment.state)
  settled_stays true segment inside is = ap not (sym (is ∙ no_growth segment.row inside))
  settled_stays false segment outside is = refl

  -- its record and its rows are as before
  pub logged_retired : (growth : Option Growth) → segs.growth ≡ growth → IsLogged segs.pools segs.log segs.segments growth
      → IsLogged segs.pools segs.log (map (retired_segment run) segs.segments) growth
  logged_retired None is old = tt
  logged_retired (Some growth) is old =
      growth_stays (retired_segment run) segs.segments growth
      (λ segment. chosen_row (in_run run segment.row) _ segment refl)
      (λ k d within. settled_stays (in_run run (get_or segs.segments k d).row) (get_or segs.segments k d) refl (sound.rows.opened k d within))
      (all_rows_below (λ row. retired_segment run (segment_of Opened row) ≡ segment_of Opened row) growth.run growth.generation growth.run.count
      (λ k below.
      own_stays (in_run run (row_of growth.run growth.generation k)) (row_of growth.run growth.generation k) (growth_row_out growth is k below)))
      old

  -- the Opened rows are those of its generation
  pub stamped_retired : All (λ segment. is_opened segment.state ≡ has_stamp segs.growth segment.row) (map (retired_segment run) segs.segments)
  stamped_retired =
      All-map (λ segment. is_opened segment.state ≡ has_stamp segs.growth segment.row) (retired_segment run) segs.segments
      (λ k d within.
      stamped_by (in_run run (get_or segs.segments k d).row) (get_or segs.segments k d) refl (sound.rows.opened k d within) (sound.rows.stamped k d within))
