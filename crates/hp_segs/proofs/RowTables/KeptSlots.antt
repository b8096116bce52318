-- What is kept of the slots, as rows come, change their state and go.
use Rattle.std.proofs.Common.{◌≡◌, ◌==◌, ℕ, ◌+◌, ◌<◌, Bool, true, false, not, ◌&&◌, if◌then◌else◌, List, [], ◌∷◌, ◌++◌, length, map, filter, get_or, set, refl, ap, ◌∙◌, sym, arith, inl, inr, cond, get_or-set_same, get_or-set_other, eq-eqb}
use Rattle.std.proofs.Math.ListN.{length-set}
use Rattle.std.specs.List.{All}
use Rattle.std.proofs.lemmas.Bool.{and_left, cases_eq, ne_eqb}
use Rattle.std.proofs.lemmas.List.{map-append}
use Rattle.std.proofs.lemmas.List.Elements.{All-append, All-filter, All-head, All-tail}
use Rattle.std.proofs.lemmas.Option.{slice_get_within}
use Rattle.hp_base.specs.declared.row.Row.{Row}
use Rattle.hp_base.specs.declared.row.Run.{Run}
use Rattle.hp_log.specs.Rows.{in_run, row_of, rows_of, IsUnusedRun}
use Rattle.hp_log.proofs.RowLemmas.{all_rows_below, in_run_from, row_at_place}
use Rattle.hp_segs.specs.SegsView.{rows_in}
use Rattle.hp_segs.specs.Slots.{AreSlots, HasRun, SlotsView, changed_list, changed_slots, generation_kept, kept_segment, kept_segments, no_slots, slots_in, stamped_list, stamped_slots, state_kept}
use Rattle.hp_segs.specs.SoundRows.{has_slot}
use Rattle.hp_segs.specs.Steps.{agreed_segment, claimed_segment, claimed_state, retired_segment, segment_of, without_run}
use Rattle.hp_segs.specs.Table.{IsListRun}
use Rattle.hp_segs.specs.declared.list_info.ListInfo.{ListInfo}
use Rattle.hp_segs.specs.declared.row_state.RowState.{RowState}
use Rattle.hp_segs.specs.declared.row_state.RowState.TheVariants.{Opened, Agreed, Owned, Retiring}
use Rattle.hp_segs.specs.declared.row_state.Segment.{Segment}
use Rattle.hp_segs.proofs.SlotFacts.ListFacts.{all_unmap, map_after}
use Rattle.hp_segs.proofs.SlotFacts.MaskLemmas.{length_with_places}
use Rattle.hp_segs.proofs.GrowthSteps.OpenLemmas.{none_in_unused}
use Rattle.hp_segs.proofs.SlotFacts.SlotLemmas.{is_between, with_places_at}

-- the rows of segments that are read off what is kept
pub rows_kept : (kept : List SlotsView) (rows : List Row) → rows_in (kept_segments kept rows) ≡ rows
rows_kept kept [] = refl
rows_kept kept (row ∷ rows) = ap (λ rest. row ∷ rest) (rows_kept kept rows)

map_same : {X Y : Type 0} (f g : X → Y) (xs : List X) → All (λ x. f x ≡ g x) xs → map f xs ≡ map g xs
map_same f g [] same = refl
map_same f g (x ∷ xs) same =
    let here = All-head (λ x. f x ≡ g x) x xs same in
    let rest = map_same f g xs (All-tail (λ x. f x ≡ g x) x xs same) in
    cc

module _ (kept : List SlotsView) (run : Run) (changed : SlotsView) (within : run.list < length kept) where
  -- the slots of another list stay, and those of the run's list are the changed ones
  slots_own : slots_in (set kept run.list changed) run.list ≡ changed
  slots_own = get_or-set_same kept run.list changed no_slots within

  slots_other : (list : ℕ) → (list ≡ run.list → ⊥) → slots_in (set kept run.list changed) list ≡ slots_in kept list
  slots_other list other = get_or-set_other kept run.list list changed no_slots other

  -- what the change leaves of a list stays of all
  same_of : {X : Type 0} (part : SlotsView → X) → part changed ≡ part (slots_in kept run.list) → (list : ℕ)
      → part (slots_in (set kept run.list changed) list) ≡ part (slots_in kept list)
  same_of part same list =
      elim (cases_eq list run.list) [
        | inl own ↦
            ap (λ l. part (slots_in (set kept run.list changed) l)) own
            ∙ (ap part slots_own ∙ (same ∙ ap (λ l. part (slots_in kept l)) (sym own)))
        | inr other ↦ ap part (slots_other list other)
      ]

has_by_place : (run : Run) (list slot : ℕ) → list ≡ run.list → has_slot list slot run ≡ is_between run.first run.count slot
has_by_place run list slot same = ap (λ b. b && is_between run.first run.count slot) (eq-eqb list run.list same)

has_not : (run : Run) (list slot : ℕ) → (list ≡ run.list → ⊥) → has_slot list slot run ≡ false
has_not run list slot other = and_left (list == run.list) _ (ne_eqb list run.list other)

module _ (kept : List SlotsView) (run : Run) (fits : HasRun kept run) where
  -- the states after those of a run changed
  pub state_changed : (state : RowState) (list slot : ℕ)
      → state_kept (changed_slots kept run state) list slot ≡ cond (has_slot list slot run) state (state_kept kept list slot)
  state_changed state list slot =
      let changed : SlotsView = changed_list (slots_in kept run.list) run state in
      elim (cases_eq list run.list) [
        | inl same ↦
            ap (λ l. state_kept (changed_slots kept run state) l slot) same
            ∙ (ap (λ (s : SlotsView). get_or s.states slot Opened) (slots_own kept run changed fits.list)
            ∙ (with_places_at (slots_in kept run.list).states run.first run.count state slot Opened fits.states
            ∙ (ap (λ b. cond b state (state_kept kept run.list slot)) (sym (has_by_place run list slot same))
            ∙ ap (λ l. cond (has_slot list slot run) state (state_kept kept l slot)) (sym same))))
        | inr other ↦
            ap (λ (s : SlotsView). get_or s.states slot Opened) (slots_other kept run changed fits.list list other)
            ∙ ap (λ b. cond b state (state_kept kept list slot)) (sym (has_not run list slot other))
      ]

  -- the generations after rows came
  pub generation_stamped : (generation list slot : ℕ)
      → generation_kept (stamped_slots kept run generation) list slot ≡ cond (has_slot list slot run) generation (generation_kept kept list slot)
  generation_stamped generation list slot =
      let changed : SlotsView = stamped_list (slots_in kept run.list) run generation in
      elim (cases_eq list run.list) [
        | inl same ↦
            ap (λ l. generation_kept (stamped_slots kept run generation) l slot) same
            ∙ (ap (λ (s : SlotsView). get_or s.generations slot 0) (slots_own kept run changed fits.list)
            ∙ (with_places_at (slots_in kept run.list).generations run.first run.count generation slot 0 fits.generations
            ∙ (ap (λ b. cond b generation (generation_kept kept run.list slot)) (sym (has_by_place run list slot same))
            ∙ ap (λ l. cond (has_slot list slot run) generation (generation_kept kept l slot)) (sym same))))
        | inr other ↦
            ap (λ (s : SlotsView). get_or s.generations slot 0) (slots_other kept run changed fits.list list other)
            ∙ ap (λ b. cond b generation (generation_kept kept list slot)) (sym (has_not run list slot other))
      ]

  -- a change of states leaves the generations, and rows that come leave the states
  pub generation_stays : (state : RowState) (list slot : ℕ) → generation_kept (changed_slots kept run state) list slot ≡ generation_kept kept list slot
  generation_stays state list slot =
      same_of kept run (changed_list (slots_in kept run.list) run state) fits.list (λ (s : SlotsView). get_or s.generations slot 0) refl list

  pub state_stays : (generation list slot : ℕ) → state_kept (stamped_slots kept run generation) list slot ≡ state_kept kept list slot
  state_stays generation list slot =
      same_of kept run (stamped_list (slots_in kept run.list) run generation) fits.list (λ (s : SlotsView). get_or s.states slot Opened) refl list

  chosen : (state : RowState) (row : Row) (b : Bool)
      → segment_of (cond b state (state_kept kept row.list row.slot)) row ≡ (if b then segment_of state row else kept_segment kept row)
  chosen state row true = refl
  chosen state row false = refl

  -- a row after the states of a run changed
  pub segment_changed : (state : RowState) (row : Row)
      → kept_segment (changed_slots kept run state) row ≡ (if in_run run row then segment_of state row else kept_segment kept row)
  segment_changed state row =
      ap (λ s. segment_of s row) (state_changed state row.list row.slot) ∙ chosen state row (in_run run row)

  -- the run is given up
  pub segments_retired : (rows : List Row) → kept_segments (changed_slots kept run Retiring) rows ≡ map (retired_segment run) (kept_segments kept rows)
  segments_retired rows =
      sym (map_after (retired_segment run) (kept_segment kept) (kept_segment (changed_slots kept run Retiring)) rows
      (λ k d within. sym (segment_changed Retiring (get_or rows k d))))

  -- the rows of a generation, which are the run's, are agreed
  pub segments_agreed : (generation heap : ℕ) (rows : List Row)
      → All (λ segment. (segment.row.generation == generation) ≡ in_run run segment.row) (kept_segments kept rows)
      → kept_segments (changed_slots kept run (Agreed heap)) rows ≡ map (agreed_segment generation heap) (kept_segments kept rows)
  segments_agreed generation heap rows same =
      let each = all_unmap (λ segment. (segment.row.generation == generation) ≡ in_run run segment.row) (kept_segment kept) rows same in
      sym (map_after (agreed_segment generation heap) (kept_segment kept) (kept_segment (changed_slots kept run (Agreed heap))) rows
      (λ k d within.
      ap (λ b. if b then segment_of (Agreed heap) (get_or rows k d) else kept_segment kept (get_or rows k d)) (each k d within)
      ∙ sym (segment_changed (Agreed heap) (get_or rows k d))))

  claimed_by : (heap : ℕ) (row : Row) (b : Bool) → (b ≡ true → state_kept kept row.list row.slot ≡ Agreed heap)
      → (if b then segment_of (claimed_state (state_kept kept row.list row.slot)) row else kept_segment kept row)
      ≡ (if b then segment_of (Owned heap) row else kept_segment kept row)
  claimed_by heap row true agreed = ap (λ s. segment_of (claimed_state s) row) (agreed refl)
  claimed_by heap row false agreed = refl

  -- and claimed
  pub segments_claimed : (generation heap : ℕ) (rows : List Row)
      → All (λ segment. (segment.row.generation == generation) ≡ in_run run segment.row) (kept_segments kept rows)
      → All (λ segment. in_run run segment.row ≡ true → segment.state ≡ Agreed heap) (kept_segments kept rows)
      → kept_segments (changed_slots kept run (Owned heap)) rows ≡ map (claimed_segment generation) (kept_segments kept rows)
  segments_claimed generation heap rows same agreed =
      let each = all_unmap (λ segment. (segment.row.generation == generation) ≡ in_run run segment.row) (kept_segment kept) rows same in
      let all = all_unmap (λ segment. in_run run segment.row ≡ true → segment.state ≡ Agreed heap) (kept_segment kept) rows agreed in
      sym (map_after (claimed_segment generation) (kept_segment kept) (kept_segment (changed_slots kept run (Owned heap))) rows
      (λ k d within.
      let row : Row = get_or rows k d in
      ap (λ b. if b then segment_of (claimed_state (state_kept kept row.list row.slot)) row else kept_segment kept row) (each k d within)
      ∙ (claimed_by heap row (in_run run row) (all k d within) ∙ sym (segment_changed (Owned heap) row))))

  -- the slots are still those of the lists
  pub slots_changed : {lists : List ListInfo} {rows : List Row} (state : RowState) → AreSlots kept lists rows → AreSlots (changed_slots kept run state) lists rows
  slots_changed {rows = rows} state old =
      let changed : SlotsView = changed_list (slots_in kept run.list) run state in
      record {
        long = length-set kept run.list changed ∙ old.long;
        generations = λ list info here.
            same_of kept run changed fits.list (λ (s : SlotsView). length s.generations) refl list ∙ old.generations list info here;
        states = λ list info here.
            same_of kept run changed fits.list (λ (s : SlotsView). length s.states)
            (length_with_places (slots_in kept run.list).states run.first run.count state) list
            ∙ old.states list info here;
        stamped = λ k d within. generation_stays state (get_or rows k d).list (get_or rows k d).slot ∙ old.stamped k d within;
      }

  -- and have the rows that came
  pub slots_stamped : {lists : List ListInfo} {rows : List Row} (generation : ℕ) → IsUnusedRun rows run → AreSlots kept lists rows
      → AreSlots (stamped_slots kept run generation) lists (rows ++ rows_of run generation)
  slots_stamped {rows = rows} generation unused old =
      let changed : SlotsView = stamped_list (slots_in kept run.list) run generation in
      let P : Row → Type 0 = λ row. generation_kept (stamped_slots kept run generation) row.list row.slot ≡ row.generation in
      let outside = none_in_unused rows run unused in
      record {
        long = length-set kept run.list changed ∙ old.long;
        generations = λ list info here.
            same_of kept run changed fits.list (λ (s : SlotsView). length s.generations)
            (length_with_places (slots_in kept run.list).generations run.first run.count generation) list
            ∙ old.generations list info here;
        states = λ list info here.
            same_of kept run changed fits.list (λ (s : SlotsView). length s.states) refl list ∙ old.states list info here;
        stamped =
            All-append P rows (rows_of run generation)
            (λ k d within.
            let row : Row = get_or rows k d in
            generation_stamped generation row.list row.slot
            ∙ (ap (λ b. cond b generation (generation_kept kept row.list row.slot)) (outside k d within) ∙ old.stamped k d within))
            (all_rows_below P run generation run.count
            (λ k below.
            let row : Row = row_of run generation k in
            generation_stamped generation row.list row.slot
            ∙ ap (λ b. cond b generation (generation_kept kept row.list row.slot)) (in_run_from run k row below (row_at_place run generation k))));
      }

-- the rows that come are Opened, and the others stay
pub segments_opened : (kept : List SlotsView) (run : Run) (generation : ℕ) (rows : List Row) → HasRun kept run
    → HasRun (stamped_slots kept run generation) run → IsUnusedRun rows run
    → kept_segments (changed_slots (stamped_slots kept run generation) run Opened) (rows ++ rows_of run generation)
    ≡ kept_segments kept rows ++ map (segment_of Opened) (rows_of run generation)
segments_opened kept run generation rows fits later unused =
    let more : List SlotsView = changed_slots (stamped_slots kept run generation) run Opened in
    let outside = none_in_unused rows run unused in
    let old : map (kept_segment more) rows ≡ map (kept_segment kept) rows =
    map_same (kept_segment more) (kept_segment kept) rows
    (λ k d within.
    let row : Row = get_or rows k d in
    segment_changed (stamped_slots kept run generation) run later Opened row
    ∙ (ap (λ b. if b then segment_of Opened row else kept_segment (stamped_slots kept run generation) row) (outside k d within)
    ∙ ap (λ s. segment_of s row) (state_stays kept run fits generation row.list row.slot))) in
    let new : map (kept_segment more) (rows_of run generation) ≡ map (segment_of Opened) (rows_of run generation) =
    map_same (kept_segment more) (segment_of Opened) (rows_of run generation)
    (all_rows_below (λ row. kept_segment more row ≡ segment_of Opened row) run generation run.count
    (λ k below.
    let row : Row = row_of run generation k in
    segment_changed (stamped_slots kept run generation) run later Opened row
    ∙ ap (λ b. if b then segment_of Opened row else kept_segment (stamped_slots kept run generation) row)
    (in_run_from run k row below (row_at_place run generation k)))) in
    map-append (kept_segment more) rows (rows_of run generation)
    ∙ (ap (λ front. front ++ map (kept_segment more) (rows_of run generation)) old ∙ ap (λ back. map (kept_segment kept) rows ++ back) new)

-- the slots of the run are still kept when generations changed
pub run_stamped : (kept : List SlotsView) (run : Run) (generation : ℕ) → HasRun kept run → HasRun (stamped_slots kept run generation) run
run_stamped kept run generation fits =
    let changed : SlotsView = stamped_list (slots_in kept run.list) run generation in
    let own = slots_own kept run changed fits.list in
    let long : length (stamped_slots kept run generation) ≡ length kept = length-set kept run.list changed in
    let generations : length (slots_in (stamped_slots kept run generation) run.list).generations ≡ length (slots_in kept run.list).generations =
    ap (λ (s : SlotsView). length s.generations) own ∙ length_with_places (slots_in kept run.list).generations run.first run.count generation in
    let states : length (slots_in (stamped_slots kept run generation) run.list).states ≡ length (slots_in kept run.list).states =
    ap (λ (s : SlotsView). length s.states) own in
    record {
      list = omega (arith, long, fits.list);
      generations = omega (arith, generations, fits.generations);
      states = omega (arith, states, fits.states);
      small = fits.small;
    }

without_by : (kept : List SlotsView) (run : Run) (row : Row) (rest : List Segment) (rows : List Row) (b : Bool) → rest ≡ kept_segments kept rows
    → cond b (kept_segment kept row ∷ rest) rest ≡ kept_segments kept (cond b (row ∷ rows) rows)
without_by kept run row rest rows true same = ap (λ more. kept_segment kept row ∷ more) same
without_by kept run row rest rows false same = same

-- rows of a run go
pub segments_removed : (kept : List SlotsView) (run : Run) (rows : List Row)
    → without_run run (kept_segments kept rows) ≡ kept_segments kept (filter (λ row. not (in_run run row)) rows)
segments_removed kept run [] = refl
segments_removed kept run (row ∷ rows) =
    without_by kept run row (without_run run (kept_segments kept rows)) (filter (λ row. not (in_run run row)) rows) (not (in_run run row))
    (segments_removed kept run rows)

pub slots_removed : {kept : List SlotsView} {lists : List ListInfo} {rows : List Row} (run : Run) → AreSlots kept lists rows
    → AreSlots kept lists (filter (λ row. not (in_run run row)) rows)
slots_removed {kept} {rows = rows} run old = record {
  long = old.long;
  generations = old.generations;
  states = old.states;
  stamped = All-filter (λ row. not (in_run run row)) (λ row. generation_kept kept row.list row.slot ≡ row.generation) rows old.stamped;
}

-- the slots of a list's run are kept
pub has_run : {kept : List SlotsView} {lists : List ListInfo} {rows : List Row} (run : Run) → AreSlots kept lists rows → IsListRun lists run
    → run.first + run.count < 4294967296 → HasRun kept run
has_run {kept} {lists} run slots listed below =
    let inside = slice_get_within lists run.list listed.info listed.its_list in
    let generations = slots.generations run.list listed.info listed.its_list in
    let states = slots.states run.list listed.info listed.its_list in
    record {
      list = omega (arith, slots.long, inside);
      generations = omega (arith, generations, listed.within);
      states = omega (arith, states, listed.within);
      small = below;
    }
