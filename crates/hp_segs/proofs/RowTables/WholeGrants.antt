-- The rows of a grant are claimed together: steps that keep this.
use Rattle.std.proofs.Common.{◌≡◌, ◌==◌, ◌∙◌, ℕ, ◌-◌, ◌<◌, Bool, true, false, not, if◌then◌else◌, List, [], ◌++◌, map, filter, length, get_or, Some, refl, ap, sym, subst, arith, eq-eqb}
use Rattle.std.specs.List.{All}
use Rattle.std.proofs.lemmas.Bool.{eqb-true, ne_eqb}
use Rattle.std.proofs.lemmas.List.{append-nil}
use Rattle.std.proofs.lemmas.List.Elements.{All-map, All-append, All-filter, filter-append}
use Rattle.hp_base.specs.declared.row.Row.{Row}
use Rattle.hp_base.specs.declared.row.Run.{Run}
use Rattle.hp_base.specs.declared.pool_line.PoolLine.{PoolLine}
use Rattle.hp_log.specs.Rows.{in_run, row_of, rows_of}
use Rattle.hp_log.specs.declared.log_record.LogRecord.{LogRecord}
use Rattle.hp_log.proofs.RowLemmas.{all_rows_below}
use Rattle.hp_segs.specs.SegsView.{is_agreed, is_opened}
use Rattle.hp_segs.specs.SoundRows.{IsGrowth, IsWholeGrant, IsWholeIfAgreed, has_stamp, of_generation}
use Rattle.hp_segs.specs.Machine.{unopened}
use Rattle.hp_segs.specs.Steps.{segment_of, agreed_segment, claimed_segment, claimed_state, retired_segment}
use Rattle.hp_segs.specs.declared.growth.Growth.{Growth}
use Rattle.hp_segs.specs.declared.row_state.RowState.{RowState}
use Rattle.hp_segs.specs.declared.row_state.RowState.TheVariants.{Opened, Agreed, Owned, Retiring}
use Rattle.hp_segs.specs.declared.row_state.Segment.{Segment}
use Rattle.hp_segs.proofs.SlotFacts.ListFacts.{all_kept, all_unmap, filter_drops, filter_keeps, filter_mapped, filter_swap, get_stays, map_after}
use Rattle.hp_segs.proofs.RowTables.StateLemmas.{chosen_row}

-- the grants of the segments are whole
abbrev pub AreWhole : List LogRecord → List Segment → Type 0
AreWhole log segments = All (λ segment. IsWholeIfAgreed log segments segment.row.generation segment.state) segments

whole_if : (log : List LogRecord) (segments : List Segment) (generation : ℕ) (state : RowState)
    → ((heap : ℕ) → state ≡ Agreed heap → IsWholeGrant log segments generation heap) → IsWholeIfAgreed log segments generation state
whole_if log segments generation Opened each = tt
whole_if log segments generation (Agreed heap) each = each heap refl
whole_if log segments generation (Owned heap) each = tt
whole_if log segments generation Retiring each = tt

whole_of : (log : List LogRecord) (segments : List Segment) (generation : ℕ) (state : RowState) (heap : ℕ) → state ≡ Agreed heap
    → IsWholeIfAgreed log segments generation state → IsWholeGrant log segments generation heap
whole_of log segments generation state heap is whole = subst (IsWholeIfAgreed log segments generation) is whole

-- the segments of a generation, where each segment keeps its row
pub of_generation_map : (generation : ℕ) (f : Segment → Segment) (segments : List Segment) → ((segment : Segment) → (f segment).row ≡ segment.row)
    → of_generation generation (map f segments) ≡ map f (of_generation generation segments)
of_generation_map generation f segments row =
    filter_mapped (λ segment. segment.row.generation == generation) f segments
    (λ k d within. ap (λ (row : Row). row.generation == generation) (row (get_or segments k d)))

-- a whole grant stays where its own rows do
whole_mapped : (log : List LogRecord) (segments : List Segment) (generation heap : ℕ) (f : Segment → Segment)
    → ((segment : Segment) → (f segment).row ≡ segment.row) → (old : IsWholeGrant log segments generation heap)
    → All (λ row. f (segment_of (Agreed heap) row) ≡ segment_of (Agreed heap) row) (rows_of old.run generation)
    → IsWholeGrant log (map f segments) generation heap
whole_mapped log segments generation heap f row old own = record {
  run = old.run;
  added = old.added;
  rows =
      of_generation_map generation f segments row
      ∙ (ap (map f) old.rows ∙ map_after f (segment_of (Agreed heap)) (segment_of (Agreed heap)) (rows_of old.run generation) own);
}

-- the segments of the open growth's generation are its rows
pub growth_segments : {pools : List PoolLine} {log : List LogRecord} {segments : List Segment} (growth : Growth) → IsGrowth pools log segments growth
    → All (λ segment. is_opened segment.state ≡ has_stamp (Some growth) segment.row) segments
    → of_generation growth.generation segments ≡ map (segment_of Opened) (rows_of growth.run growth.generation)
growth_segments {segments = segments} growth old stamped =
    let own : Segment → Bool = λ segment. segment.row.generation == growth.generation in
    let opened : List Segment = map (segment_of Opened) (rows_of growth.run growth.generation) in
    let others : of_generation growth.generation (unopened segments) ≡ [] =
    filter_swap (λ segment. not (is_opened segment.state)) own segments
    ∙ filter_drops (λ segment. not (is_opened segment.state)) (filter own segments)
    (none_open own segments (λ k d within is. stamped k d within ∙ is)) in
    let all : of_generation growth.generation opened ≡ opened =
    filter_keeps own opened
    (All-map (λ segment. own segment ≡ true) (segment_of Opened) (rows_of growth.run growth.generation)
    (all_rows_below (λ row. (row.generation == growth.generation) ≡ true) growth.run growth.generation growth.run.count
    (λ k below. eq-eqb growth.generation growth.generation refl))) in
    ap (of_generation growth.generation) old.behind
    ∙ (filter-append own (unopened segments) opened ∙ (ap (λ front. front ++ of_generation growth.generation opened) others ∙ all))
  where
    none_open : (own : Segment → Bool) (segments : List Segment) → All (λ segment. own segment ≡ true → is_opened segment.state ≡ true) segments
        → All (λ segment. not (is_opened segment.state) ≡ false) (filter own segments)
    none_open own segments each = all_kept own (λ segment. own segment ≡ true → is_opened segment.state ≡ true)
        (λ segment. not (is_opened segment.state) ≡ false) (λ segment passes opened. ap not (opened passes)) segments each

claimed_off : (state : RowState) (heap : ℕ) → claimed_state state ≡ Agreed heap → ⊥
claimed_off Opened heap is = cc
claimed_off (Agreed other) heap is = cc
claimed_off (Owned other) heap is = cc
claimed_off Retiring heap is = cc

module _ (log : List LogRecord) (segments : List Segment) (old : AreWhole log segments) where
  whole_at : (k : ℕ) (d : Segment) (heap : ℕ) → k < length segments → (get_or segments k d).state ≡ Agreed heap
      → IsWholeGrant log segments (get_or segments k d).row.generation heap
  whole_at k d heap within is =
      whole_of log segments (get_or segments k d).row.generation (get_or segments k d).state heap is (old k d within)

  -- a change of one generation's states leaves the rows of others
  apart_whole : (f : RowState → RowState) (stamp k heap : ℕ) (d : Segment) → k < length segments → (get_or segments k d).state ≡ Agreed heap
      → ((get_or segments k d).row.generation == stamp) ≡ false
      → IsWholeGrant log (map (λ segment. if segment.row.generation == stamp then segment_of (f segment.state) segment.row else segment) segments)
      (get_or segments k d).row.generation heap
  apart_whole f stamp k heap d within is other =
      let whole = whole_at k d heap within is in
      whole_mapped log segments (get_or segments k d).row.generation heap
      (λ segment. if segment.row.generation == stamp then segment_of (f segment.state) segment.row else segment)
      (λ segment. chosen_row (segment.row.generation == stamp) _ segment refl)
      whole
      (all_rows_below
      (λ row. (if row.generation == stamp then segment_of (f (Agreed heap)) row else segment_of (Agreed heap) row) ≡ segment_of (Agreed heap) row)
      whole.run (get_or segments k d).row.generation whole.run.count
      (λ n below.
      ap (λ b. if b then segment_of (f (Agreed heap)) (row_of whole.run (get_or segments k d).row.generation n) else segment_of (Agreed heap) (row_of whole.run (get_or segments k d).row.generation n))
      other))

  agreed_by : (growth : Growth) → IsWholeGrant log (map (agreed_segment growth.generation growth.ask.heap) segments) growth.generation growth.ask.heap
      → (k : ℕ) (d : Segment) → k < length segments → (b : Bool) → ((get_or segments k d).row.generation == growth.generation) ≡ b
      → IsWholeIfAgreed log (map (agreed_segment growth.generation growth.ask.heap) segments)
      (if b then segment_of (Agreed growth.ask.heap) (get_or segments k d).row else get_or segments k d).row.generation
      (if b then segment_of (Agreed growth.ask.heap) (get_or segments k d).row else get_or segments k d).state
  agreed_by growth whole k d within true is =
      subst (λ g. IsWholeGrant log (map (agreed_segment growth.generation growth.ask.heap) segments) g growth.ask.heap)
      (sym (eqb-true (get_or segments k d).row.generation growth.generation is)) whole
  agreed_by growth whole k d within false is =
      whole_if log (map (agreed_segment growth.generation growth.ask.heap) segments) (get_or segments k d).row.generation (get_or segments k d).state
      (λ heap agreed. apart_whole (λ state. Agreed growth.ask.heap) growth.generation k heap d within agreed is)

  -- the open growth is granted
  pub whole_granted : {pools : List PoolLine} (growth : Growth) → IsGrowth pools log segments growth
      → All (λ segment. is_opened segment.state ≡ has_stamp (Some growth) segment.row) segments
      → AreWhole log (map (agreed_segment growth.generation growth.ask.heap) segments)
  whole_granted growth logged stamped =
      let f : Segment → Segment = agreed_segment growth.generation growth.ask.heap in
      let rows : List Row = rows_of growth.run growth.generation in
      let own : of_generation growth.generation (map f segments) ≡ map (segment_of (Agreed growth.ask.heap)) rows =
      of_generation_map growth.generation f segments (λ segment. chosen_row (segment.row.generation == growth.generation) _ segment refl)
      ∙ (ap (map f) (growth_segments growth logged stamped)
      ∙ map_after f (segment_of Opened) (segment_of (Agreed growth.ask.heap)) rows
      (all_rows_below (λ row. f (segment_of Opened row) ≡ segment_of (Agreed growth.ask.heap) row) growth.run growth.generation growth.run.count
      (λ n below.
      ap (λ b. if b then segment_of (Agreed growth.ask.heap) (row_of growth.run growth.generation n) else segment_of Opened (row_of growth.run growth.generation n))
      (eq-eqb growth.generation growth.generation refl)))) in
      All-map (λ segment. IsWholeIfAgreed log (map f segments) segment.row.generation segment.state) f segments
      (λ k d within.
      agreed_by growth (record { run = growth.run; added = logged.added; rows = own }) k d within
      ((get_or segments k d).row.generation == growth.generation) refl)

  claimed_by : (stamp k : ℕ) (d : Segment) → k < length segments → (b : Bool) → ((get_or segments k d).row.generation == stamp) ≡ b
      → IsWholeIfAgreed log (map (claimed_segment stamp) segments)
      (if b then segment_of (claimed_state (get_or segments k d).state) (get_or segments k d).row else get_or segments k d).row.generation
      (if b then segment_of (claimed_state (get_or segments k d).state) (get_or segments k d).row else get_or segments k d).state
  claimed_by stamp k d within true is =
      whole_if log (map (claimed_segment stamp) segments) (get_or segments k d).row.generation (claimed_state (get_or segments k d).state)
      (λ heap agreed. absurd (claimed_off (get_or segments k d).state heap agreed))
  claimed_by stamp k d within false is =
      whole_if log (map (claimed_segment stamp) segments) (get_or segments k d).row.generation (get_or segments k d).state
      (λ heap agreed. apart_whole claimed_state stamp k heap d within agreed is)

  -- the rows of a grant are claimed
  pub whole_claimed : (stamp : ℕ) → AreWhole log (map (claimed_segment stamp) segments)
  whole_claimed stamp =
      All-map (λ segment. IsWholeIfAgreed log (map (claimed_segment stamp) segments) segment.row.generation segment.state) (claimed_segment stamp) segments
      (λ k d within. claimed_by stamp k d within ((get_or segments k d).row.generation == stamp) refl)

  -- the segments of a whole grant have what holds of all Agreed segments
  whole_have : (P : Segment → Type 0) (generation heap : ℕ) (whole : IsWholeGrant log segments generation heap)
      → All (λ segment. is_agreed segment.state ≡ true → P segment) segments
      → All (λ row. P (segment_of (Agreed heap) row)) (rows_of whole.run generation)
  whole_have P generation heap whole each =
      let own : All (λ segment. is_agreed segment.state ≡ true → P segment) (of_generation generation segments) =
      All-filter (λ segment. segment.row.generation == generation) (λ segment. is_agreed segment.state ≡ true → P segment) segments each in
      let rows : All (λ row. is_agreed (Agreed heap) ≡ true → P (segment_of (Agreed heap) row)) (rows_of whole.run generation) =
      all_unmap (λ segment. is_agreed segment.state ≡ true → P segment) (segment_of (Agreed heap)) (rows_of whole.run generation)
      (subst (All (λ segment. is_agreed segment.state ≡ true → P segment)) whole.rows own) in
      λ k d within. rows k d within refl

  retired_by : (run : Run) → All (λ segment. is_agreed segment.state ≡ true → in_run run segment.row ≡ false) segments → (k : ℕ) (d : Segment)
      → k < length segments → (b : Bool) → in_run run (get_or segments k d).row ≡ b
      → IsWholeIfAgreed log (map (retired_segment run) segments)
      (if b then segment_of Retiring (get_or segments k d).row else get_or segments k d).row.generation
      (if b then segment_of Retiring (get_or segments k d).row else get_or segments k d).state
  retired_by run outside k d within true is = tt
  retired_by run outside k d within false is =
      whole_if log (map (retired_segment run) segments) (get_or segments k d).row.generation (get_or segments k d).state
      (λ heap agreed.
      let whole = whole_at k d heap within agreed in
      let rows = whole_have (λ segment. in_run run segment.row ≡ false) (get_or segments k d).row.generation heap whole outside in
      whole_mapped log segments (get_or segments k d).row.generation heap (retired_segment run)
      (λ segment. chosen_row (in_run run segment.row) _ segment refl) whole
      (λ n e inside.
      ap (λ b. if b then segment_of Retiring (get_or (rows_of whole.run (get_or segments k d).row.generation) n e) else segment_of (Agreed heap) (get_or (rows_of whole.run (get_or segments k d).row.generation) n e))
      (rows n e inside)))

  -- a run beside all Agreed rows is given up
  pub whole_retired : (run : Run) → All (λ segment. is_agreed segment.state ≡ true → in_run run segment.row ≡ false) segments
      → AreWhole log (map (retired_segment run) segments)
  whole_retired run outside =
      All-map (λ segment. IsWholeIfAgreed log (map (retired_segment run) segments) segment.row.generation segment.state) (retired_segment run) segments
      (λ k d within. retired_by run outside k d within (in_run run (get_or segments k d).row) refl)

  -- records come after, and segments go that are not Agreed
  pub whole_filtered : (more : List LogRecord) (p : Segment → Bool) → All (λ segment. is_agreed segment.state ≡ true → p segment ≡ true) segments
      → AreWhole (log ++ more) (filter p segments)
  whole_filtered more p stay =
      All-filter p (λ segment. IsWholeIfAgreed (log ++ more) (filter p segments) segment.row.generation segment.state) segments
      (λ k d within.
      let generation : ℕ = (get_or segments k d).row.generation in
      whole_if (log ++ more) (filter p segments) generation (get_or segments k d).state
      (λ heap agreed.
      let whole = whole_at k d heap within agreed in
      let rows : All (λ row. p (segment_of (Agreed heap) row) ≡ true) (rows_of whole.run generation) =
      whole_have (λ segment. p segment ≡ true) generation heap whole stay in
      record {
        run = whole.run;
        added = get_stays log more (generation - 1) _ whole.added;
        rows =
            filter_swap p (λ segment. segment.row.generation == generation) segments
            ∙ (ap (filter p) whole.rows
            ∙ filter_keeps p (map (segment_of (Agreed heap)) (rows_of whole.run generation))
            (All-map (λ segment. p segment ≡ true) (segment_of (Agreed heap)) (rows_of whole.run generation) rows));
      }))

  -- a record comes after with its rows, which are Opened and of a later generation
  pub whole_opened : (more : List LogRecord) (run : Run) (stamp : ℕ) → All (λ segment. segment.row.generation < stamp) segments
      → AreWhole (log ++ more) (segments ++ map (segment_of Opened) (rows_of run stamp))
  whole_opened more run stamp earlier =
      let fresh : List Segment = map (segment_of Opened) (rows_of run stamp) in
      All-append (λ segment. IsWholeIfAgreed (log ++ more) (segments ++ fresh) segment.row.generation segment.state) segments fresh
      (λ k d within.
      let generation : ℕ = (get_or segments k d).row.generation in
      let own : Segment → Bool = λ segment. segment.row.generation == generation in
      whole_if (log ++ more) (segments ++ fresh) generation (get_or segments k d).state
      (λ heap agreed.
      let whole = whole_at k d heap within agreed in
      let gone : filter own fresh ≡ [] =
      filter_drops own fresh
      (All-map (λ segment. own segment ≡ false) (segment_of Opened) (rows_of run stamp)
      (all_rows_below (λ row. (row.generation == generation) ≡ false) run stamp run.count
      (λ n below. ne_eqb stamp generation (λ same. omega (arith, earlier k d within, same))))) in
      record {
        run = whole.run;
        added = get_stays log more (generation - 1) _ whole.added;
        rows =
            filter-append own segments fresh
            ∙ (ap (λ more. filter own segments ++ more) gone ∙ (append-nil (filter own segments) ∙ whole.rows));
      }))
      (All-map (λ segment. IsWholeIfAgreed (log ++ more) (segments ++ fresh) segment.row.generation segment.state) (segment_of Opened) (rows_of run stamp)
      (λ k d within. tt))
