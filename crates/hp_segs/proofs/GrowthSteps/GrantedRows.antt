-- The rows that are not Opened are those of grants, and a grant is claimed whole.
use Rattle.std.proofs.Common.{◌≡◌, ◌≢◌, ◌==◌, ◌∙◌, ℕ, zero, suc, ◌+◌, ◌-◌, ◌<◌, ◌≤◌, true, false, not, ◌&&◌, List, [], ◌∷◌, ◌++◌, map, filter, length, get_or, Option, Some, None, IsTrue, IsSomeAnd, refl, ap, sym, subst, arith, eq-eqb, if◌then◌else◌}
use Rattle.std.specs.List.{All, slice_get}
use Rattle.std.proofs.lemmas.Bool.{and_parts, eqb-true, ne_eqb, true_from_ne_false}
use Rattle.std.proofs.lemmas.List.Elements.{All-append, All-filter, All-nil, All-weaker}
use Rattle.std.proofs.lemmas.List.Folds.{Any-from_list_any}
use Rattle.hp_base.specs.declared.row.Row.{Row}
use Rattle.hp_base.specs.declared.row.Run.{Run}
use Rattle.hp_segs.specs.Table.{IsStamped}
use Rattle.hp_log.specs.Log.{IsAddFor, table_after, table_from}
use Rattle.hp_log.specs.Rows.{in_run, row_of, rows_of}
use Rattle.hp_log.specs.declared.log_record.LogRecord.{LogRecord}
use Rattle.hp_log.specs.declared.log_record.LogRecord.TheVariants.{Add, Drop}
use Rattle.hp_log.proofs.RowLemmas.{all_rows_below, in_run_from, row_at_place}
use Rattle.hp_segs.specs.Laws.{ClaimOwnsAll, IsWholeClaim, RowsAreGranted}
use Rattle.hp_segs.specs.SegsView.{SegsView, is_agreed, is_opened, is_retiring, is_unclaimed, rows_in}
use Rattle.hp_segs.specs.Sound.{IsSound}
use Rattle.hp_segs.specs.SoundAsks.{is_granted, is_open}
use Rattle.hp_segs.specs.SoundRows.{IsOfOneHeap, IsStateOf, IsWholeGrant, IsWholeIfAgreed, has_stamp, in_runs}
use Rattle.hp_segs.specs.Steps.{segment_of, claimed_grant, claimed_segment}
use Rattle.hp_segs.specs.declared.growth.Growth.{Growth}
use Rattle.hp_segs.specs.declared.row_state.RowState.{RowState}
use Rattle.hp_segs.specs.declared.row_state.RowState.TheVariants.{Opened, Agreed, Owned, Retiring}
use Rattle.hp_segs.specs.declared.row_state.Segment.{Segment}
use Rattle.hp_segs.proofs.SlotFacts.ListFacts.{all_kept, all_unmap, map_after}
use Rattle.hp_segs.proofs.RowTables.StateLemmas.{chosen_row}
use Rattle.hp_segs.proofs.RowTables.WholeGrants.{of_generation_map}

-- no row of the generation
abbrev IsGone : ℕ → List Row → Type 0
IsGone generation rows = All (λ row. row.generation ≢ generation) rows

gone_after : (generation n : ℕ) (table : List Row) (entry : LogRecord) → generation < n → IsGone generation table
    → IsGone generation (table_after table n entry)
gone_after generation n table (Add run heap) later gone =
    All-append (λ row. row.generation ≢ generation) table (rows_of run n) gone
    (all_rows_below (λ row. row.generation ≢ generation) run n run.count (λ k below same. omega (arith, same, later)))
gone_after generation n table (Drop run) later gone =
    All-filter (λ row. not (in_run run row)) (λ row. row.generation ≢ generation) table gone

-- rows that are gone stay so
gone_from : (generation n : ℕ) (table : List Row) (log : List LogRecord) → generation ≤ n → IsGone generation table
    → IsGone generation (table_from n table log)
gone_from generation n table [] later gone = gone
gone_from generation n table (entry ∷ log) later gone =
    gone_from generation (n + 1) (table_after table (n + 1) entry) log (omega arith)
    (gone_after generation (n + 1) table entry (omega (arith, later)) gone)

below_after : (n : ℕ) (table : List Row) (entry : LogRecord) → All (λ row. row.generation ≤ n) table
    → All (λ row. row.generation ≤ n + 1) (table_after table (n + 1) entry)
below_after n table (Add run heap) below =
    All-append (λ row. row.generation ≤ n + 1) table (rows_of run (n + 1))
    (All-weaker (λ row. row.generation ≤ n) (λ row. row.generation ≤ n + 1) (λ row here. omega (arith, here)) table below)
    (all_rows_below (λ row. row.generation ≤ n + 1) run (n + 1) run.count (λ k within. omega arith))
below_after n table (Drop run) below =
    All-filter (λ row. not (in_run run row)) (λ row. row.generation ≤ n + 1) table
    (All-weaker (λ row. row.generation ≤ n) (λ row. row.generation ≤ n + 1) (λ row here. omega (arith, here)) table below)

dropped_now : (n : ℕ) (table : List Row) (run : Run) → All (λ row. row.generation ≤ n) table
    → IsGone (n + 1) (filter (λ row. not (in_run run row)) (table ++ rows_of run (n + 1)))
dropped_now n table run below =
    all_kept (λ row. not (in_run run row)) (λ row. row.generation ≡ n + 1 → in_run run row ≡ true) (λ row. row.generation ≢ n + 1)
    (λ row out inside same.
    let wrong : not (in_run run row) ≡ false = ap not (inside same) in
    cc)
    (table ++ rows_of run (n + 1))
    (All-append (λ row. row.generation ≡ n + 1 → in_run run row ≡ true) table (rows_of run (n + 1))
    (All-weaker (λ row. row.generation ≤ n) (λ row. row.generation ≡ n + 1 → in_run run row ≡ true)
    (λ row here same. absurd (omega (arith, here, same))) table below)
    (all_rows_below (λ row. row.generation ≡ n + 1 → in_run run row ≡ true) run (n + 1) run.count
    (λ k within same. in_run_from run k (row_of run (n + 1) k) within (row_at_place run (n + 1) k))))

-- the rows of a failed growth are not in the table
failed_gone : (n : ℕ) (table : List Row) (log : List LogRecord) (place : ℕ) (run : Run) (heap : ℕ) → All (λ row. row.generation ≤ n) table
    → slice_get log place ≡ Some (Add run heap) → slice_get log (place + 1) ≡ Some (Drop run)
    → IsGone (n + place + 1) (table_from n table log)
failed_gone n table [] place run heap below added dropped = cc
failed_gone n table (entry ∷ []) zero run heap below added dropped = let wrong : None ≡ Some (Drop run) = dropped in cc
failed_gone n table (entry ∷ (next ∷ log)) zero run heap below added dropped =
    let first : entry ≡ Add run heap = cc in
    let second : next ≡ Drop run = cc in
    let stamp : n + 1 ≡ n + zero + 1 = omega arith in
    subst (λ g. IsGone g (table_from n table (entry ∷ (next ∷ log)))) stamp
    (subst (λ e. IsGone (n + 1) (table_from n table (e ∷ (next ∷ log)))) (sym first)
    (subst (λ e. IsGone (n + 1) (table_from n table (Add run heap ∷ (e ∷ log)))) (sym second)
    (gone_from (n + 1) (n + 1 + 1) (filter (λ row. not (in_run run row)) (table ++ rows_of run (n + 1))) log (omega arith)
    (dropped_now n table run below))))
failed_gone n table (entry ∷ log) (suc place) run heap below added dropped =
    let next : suc place + 1 ≡ suc (place + 1) = omega arith in
    let stamp : n + 1 + place + 1 ≡ n + suc place + 1 = omega arith in
    subst (λ g. IsGone g (table_from (n + 1) (table_after table (n + 1) entry) log)) stamp
    (failed_gone (n + 1) (table_after table (n + 1) entry) log place run heap (below_after n table entry below) added
    (subst (λ i. slice_get (entry ∷ log) i ≡ Some (Drop run)) next dropped))

module _ (segs : SegsView) (sound : IsSound segs) where
  given_up_add : (k : ℕ) (d : Segment) → k < length segs.segments → in_runs segs.retiring (get_or segs.segments k d).row ≡ true
      → (heap : ℕ) × IsAddFor segs.log (get_or segs.segments k d).row.generation heap
  given_up_add k d within inside =
      let row : Row = (get_or segs.segments k d).row in
      let found = Any-from_list_any (λ run. in_run run row) segs.retiring inside in
      let one : IsOfOneHeap segs.log (rows_in segs.segments) found.1 =
      subst (IsOfOneHeap segs.log (rows_in segs.segments)) found.3 (sound.rows.given_up found.0 found.1 found.2) in
      let each = all_unmap (λ row. in_run found.1 row ≡ true → IsAddFor segs.log row.generation one.heap) (λ (segment : Segment). segment.row) segs.segments one.each in
      (one.heap, each k d within found.4)

  -- the record of a row that is not Opened is an Add
  add_of : (k : ℕ) (d : Segment) → k < length segs.segments → (state : RowState) → (get_or segs.segments k d).state ≡ state → is_opened state ≡ false
      → (heap : ℕ) × IsAddFor segs.log (get_or segs.segments k d).row.generation heap
  add_of k d within Opened is settled = cc
  add_of k d within (Agreed heap) is settled =
      (heap, subst (IsStateOf segs.log (get_or segs.segments k d).row.generation) is (sound.rows.heaps k d within))
  add_of k d within (Owned heap) is settled =
      (heap, subst (IsStateOf segs.log (get_or segs.segments k d).row.generation) is (sound.rows.heaps k d within))
  add_of k d within Retiring is settled =
      given_up_add k d within (sym (sound.rows.retired k d within) ∙ ap is_retiring is)

  closed_by : (growth : Option Growth) (row : Row) → has_stamp growth row ≡ false → is_open growth row.generation ≡ false
  closed_by None row off = refl
  closed_by (Some growth) row off =
      ne_eqb growth.generation row.generation (λ same.
      let wrong : true ≡ false = sym (eq-eqb row.generation growth.generation (sym same)) ∙ off in
      cc)

  pub row_granted : (k : ℕ) (d : Segment) → k < length segs.segments → is_opened (get_or segs.segments k d).state ≡ false
      → is_granted segs.asks (get_or segs.segments k d).row.generation ≡ true
  row_granted k d within settled =
      let row : Row = (get_or segs.segments k d).row in
      let add = add_of k d within (get_or segs.segments k d).state refl settled in
      let stamp : All (λ segment. IsStamped segs.log segment.row) segs.segments =
      all_unmap (IsStamped segs.log) (λ (segment : Segment). segment.row) segs.segments sound.rows.table.stamped in
      let some = (stamp k d within).some in
      let next : row.generation - 1 + 1 ≡ row.generation = omega (arith, some) in
      let closed : is_open segs.growth (row.generation - 1 + 1) ≡ false =
      ap (is_open segs.growth) next ∙ closed_by segs.growth row (sym (sound.rows.stamped k d within) ∙ settled) in
      true_from_ne_false (is_granted segs.asks row.generation) (λ off.
      let dropped = sound.asks.settled (row.generation - 1) add.1.run add.0 add.1.added closed (ap (is_granted segs.asks) next ∙ off) in
      let gone = failed_gone 0 [] segs.log (row.generation - 1) add.1.run add.0 (All-nil (λ row. row.generation ≤ 0)) add.1.added dropped in
      let rows : IsGone (0 + (row.generation - 1) + 1) (rows_in segs.segments) =
      subst (IsGone (0 + (row.generation - 1) + 1)) (sym sound.rows.table.table) gone in
      let each = all_unmap (λ row'. row'.generation ≢ 0 + (row.generation - 1) + 1) (λ (segment : Segment). segment.row) segs.segments rows in
      each k d within (omega (arith, some)))

pub rows_are_granted : RowsAreGranted
rows_are_granted segs sound k d within settled = row_granted segs sound k d within settled

pub claim_by : (segs : SegsView) (generation k : ℕ) (d : Segment) (state : RowState) → IsSound segs → k < length segs.segments
    → (get_or segs.segments k d).state ≡ state → is_agreed state ≡ true → (get_or segs.segments k d).row.generation ≡ generation
    → (heap : ℕ) × IsWholeGrant segs.log segs.segments generation heap
claim_by segs generation k d Opened sound within is agreed stamp = cc
claim_by segs generation k d (Agreed heap) sound within is agreed stamp = (
  heap,
  subst (λ g. IsWholeGrant segs.log segs.segments g heap) stamp
      (subst (IsWholeIfAgreed segs.log segs.segments (get_or segs.segments k d).row.generation) is (sound.rows.whole k d within)),
)
claim_by segs generation k d (Owned heap) sound within is agreed stamp = cc
claim_by segs generation k d Retiring sound within is agreed stamp = cc

-- a claim takes a whole grant
claimed_whole : (segs : SegsView) (generation heap : ℕ) → IsWholeGrant segs.log segs.segments generation heap
    → IsWholeClaim segs.log (map (claimed_segment generation) segs.segments) generation
claimed_whole segs generation heap whole = record {
  run = whole.run;
  heap = heap;
  added = whole.added;
  rows =
      of_generation_map generation (claimed_segment generation) segs.segments
      (λ segment. chosen_row (segment.row.generation == generation) _ segment refl)
      ∙ (ap (map (claimed_segment generation)) whole.rows
      ∙ map_after (claimed_segment generation) (segment_of (Agreed heap)) (segment_of (Owned heap)) (rows_of whole.run generation)
      (all_rows_below (λ row. claimed_segment generation (segment_of (Agreed heap) row) ≡ segment_of (Owned heap) row) whole.run generation whole.run.count
      (λ n below.
      ap (λ b. if b then segment_of (Owned heap) (row_of whole.run generation n) else segment_of (Agreed heap) (row_of whole.run generation n))
      (eq-eqb generation generation refl))));
}

pub claim_owns_all : ClaimOwnsAll
claim_owns_all segs from number generation sound grant unclaimed =
    let any : is_unclaimed segs.segments generation ≡ true =
    subst (λ g. IsSomeAnd g (λ generation. IsTrue (is_unclaimed segs.segments generation))) grant unclaimed in
    let found = Any-from_list_any (λ segment. (segment.row.generation == generation) && is_agreed segment.state) segs.segments any in
    let segment : Segment = found.1 in
    let parts = and_parts (segment.row.generation == generation) (is_agreed segment.state) found.4 in
    let whole =
    claim_by segs generation found.0 segment (get_or segs.segments found.0 segment).state sound found.2 refl
    (ap (λ (s : Segment). is_agreed s.state) found.3 ∙ parts.1)
    (ap (λ (s : Segment). s.row.generation) found.3 ∙ eqb-true segment.row.generation generation parts.0) in
    subst (λ g. IsWholeClaim segs.log (claimed_grant segs g).segments generation) (sym grant) (claimed_whole segs generation whole.0 whole.1)
