-- A claim brings the heap the pages of the run.
use Rattle.std.proofs.Common.{◌≡◌, ◌==◌, ◌∙◌, ℕ, ◌<◌, Bool, true, false, ◌&&◌, List, ◌++◌, map, filter, Some, refl, ap, sym, subst, eq-eqb, inl, inr, if◌then◌else◌}
use Rattle.std.specs.Prelude.{Contains}
use Rattle.std.specs.List.{list_any}
use Rattle.std.specs.Option.{option_and_then}
use Rattle.std.proofs.lemmas.Bool.{and_from, and_parts, or_left, or_right}
use Rattle.std.proofs.lemmas.List.Elements.{All-contains, All-map, Contains-append_cases}
use Rattle.std.proofs.lemmas.List.Folds.{list_any-append}
use Rattle.hp_base.specs.declared.row.Row.{Row}
use Rattle.hp_base.specs.declared.row.Run.{Run}
use Rattle.hp_heap.specs.Growing.{after_grow, run_page, run_pages}
use Rattle.hp_heap.specs.PlainHeap.{HeapPage, PlainHeap}
use Rattle.hp_heap.proofs.CutFacts.RunPages.{has_run_page, of_run}
use Rattle.hp_log.specs.Rows.{row_of, rows_of}
use Rattle.hp_log.proofs.RowLemmas.{all_rows_below}
use Rattle.hp_segs.specs.Laws.{IsWholeClaim}
use Rattle.hp_segs.specs.SegsView.{SegsView, added_run, is_owned_by, run_of}
use Rattle.hp_segs.specs.SoundRows.{of_generation}
use Rattle.hp_segs.specs.Steps.{claimed_grant, claimed_segment, claimed_state, segment_of}
use Rattle.hp_segs.specs.declared.row_state.RowState.TheVariants.{Owned}
use Rattle.hp_segs.specs.declared.row_state.Segment.{Segment}
use Rattle.hp_segs.proofs.GrowthSteps.GrantLemmas.{any_mapped}
use Rattle.hp_segs.proofs.GrowthSteps.GrantedRows.{claim_owns_all}
use Rattle.hp_segs.proofs.RowTables.StateLemmas.{chosen_row}
use Rattle.hp_hall.specs.Holding.{HasPages, is_page_of}
use Rattle.hp_segs.specs.Standing.{owned_by}
use Rattle.hp_hall.specs.Standings.{ClaimBrings}
use Rattle.hp_hall.proofs.StandingFacts.StandingAsks.{contains_kept}
use Rattle.hp_hall.proofs.StandingFacts.StandingClaims.{its_record, one_heap, stays}
use Rattle.hp_hall.proofs.StandingFacts.StandingLists.{any_contained, any_row, contains_passes, contains_unkept, found_in, mapped_from, mapped_to}
use Rattle.hp_hall.proofs.StandingFacts.StandingPages.{own_page}

-- a row of a run, and its place
record IsRowOf (run : Run) (generation : ℕ) (segment : Segment) : Type 0 where
  place : ℕ
  within : place < run.count
  is : row_of run generation place ≡ segment.row

module _ (segs : SegsView) (generation : ℕ) (heap : PlainHeap)
    (whole : IsWholeClaim segs.log (map (claimed_segment generation) segs.segments) generation) (its_heap : whole.heap ≡ heap.index)
    (has : HasPages heap.pages (owned_by heap.index segs)) where
  abbrev made : List Segment
  made = map (claimed_segment generation) segs.segments

  abbrev is_own : Segment → Bool
  is_own segment = is_owned_by heap.index segment.state

  -- the claimed rows are the heap's, and have the run's pages
  run_owned : (n : ℕ) → n < whole.run.count
      → list_any (λ segment. is_page_of segment.row (run_page whole.run n)) (filter is_own made) ≡ true
  run_owned n below =
      let page : HeapPage = run_page whole.run n in
      let test : Segment → Bool = λ segment. is_own segment && is_page_of segment.row page in
      let among : list_any test (of_generation generation made) ≡ true =
      ap (list_any test) whole.rows
      ∙ (any_mapped test (segment_of (Owned whole.heap)) (rows_of whole.run generation)
      ∙ any_row (λ row. test (segment_of (Owned whole.heap) row)) whole.run generation whole.run.count n below
      (and_from (whole.heap == heap.index) _ (eq-eqb whole.heap heap.index its_heap) (own_page whole.run generation n))) in
      let found = found_in test (of_generation generation made) among in
      let parts = and_parts (is_own found.element) (is_page_of found.element.row page) found.passes in
      any_contained (λ segment. is_page_of segment.row page) (filter is_own made) found.element
      (contains_kept is_own made found.element
      (contains_unkept (λ segment. segment.row.generation == generation) made found.element found.among) parts.0) parts.1

  -- its own rows stay its own
  old_owned : (page : HeapPage) → list_any (λ segment. is_page_of segment.row page) (owned_by heap.index segs) ≡ true
      → list_any (λ segment. is_page_of segment.row page) (filter is_own made) ≡ true
  old_owned page any =
      let found = found_in (λ segment. is_page_of segment.row page) (owned_by heap.index segs) any in
      let owned : is_own found.element ≡ true = contains_passes is_own segs.segments found.element found.among in
      let there : Contains made found.element =
      subst (Contains made) (stays heap.index generation found.element owned)
      (mapped_to (claimed_segment generation) segs.segments found.element
      (contains_unkept is_own segs.segments found.element found.among)) in
      any_contained (λ segment. is_page_of segment.row page) (filter is_own made) found.element
      (contains_kept is_own made found.element there owned) found.passes

  owns : (page : HeapPage) → Contains (heap.pages ++ run_pages whole.run) page
      → list_any (λ segment. is_page_of segment.row page) (filter is_own made) ≡ true
  owns page among =
      elim (Contains-append_cases heap.pages (run_pages whole.run) page among) [
        | inl old ↦ old_owned page (has.owns page old)
        | inr new ↦
            let of = of_run whole.run page new in
            subst (λ page. list_any (λ segment. is_page_of segment.row page) (filter is_own made) ≡ true) of.is
            (run_owned of.place of.within)
      ]

  -- a claimed row has its page among those of the run
  row_page : (segment : Segment) → Contains made segment → (segment.row.generation == generation) ≡ true
      → list_any (is_page_of segment.row) (run_pages whole.run) ≡ true
  row_page segment among own =
      let there : Contains (map (segment_of (Owned whole.heap)) (rows_of whole.run generation)) segment =
      subst (λ segments. Contains segments segment) whole.rows
      (contains_kept (λ segment. segment.row.generation == generation) made segment among own) in
      let row : IsRowOf whole.run generation segment =
      All-contains (IsRowOf whole.run generation) (map (segment_of (Owned whole.heap)) (rows_of whole.run generation)) segment
      (All-map (IsRowOf whole.run generation) (segment_of (Owned whole.heap)) (rows_of whole.run generation)
      (all_rows_below (λ row. IsRowOf whole.run generation (segment_of (Owned whole.heap) row)) whole.run generation whole.run.count
      (λ k below. record { place = k; within = below; is = refl }))) there in
      any_contained (is_page_of segment.row) (run_pages whole.run) (run_page whole.run row.place)
      (has_run_page whole.run row.place row.within)
      (ap (λ r. is_page_of r (run_page whole.run row.place)) (sym row.is) ∙ own_page whole.run generation row.place)

  page_by : (segment : Segment) (own : Bool) → Contains (filter is_own made) segment → (segment.row.generation == generation) ≡ own
      → list_any (is_page_of segment.row) (heap.pages ++ run_pages whole.run) ≡ true
  page_by segment true among own =
      list_any-append (is_page_of segment.row) heap.pages (run_pages whole.run)
      ∙ or_right (list_any (is_page_of segment.row) heap.pages) _ (row_page segment (contains_unkept is_own made segment among) own)
  page_by segment false among other =
      let from = mapped_from (claimed_segment generation) segs.segments segment (contains_unkept is_own made segment among) in
      let row : segment.row ≡ from.from.row =
      ap (λ (s : Segment). s.row) (sym from.is) ∙ chosen_row (from.from.row.generation == generation) _ from.from refl in
      let apart : (from.from.row.generation == generation) ≡ false = ap (λ (r : Row). r.generation == generation) (sym row) ∙ other in
      let stays : from.from ≡ segment =
      sym (ap (λ b. if b then segment_of (claimed_state from.from.state) from.from.row else from.from) apart) ∙ from.is in
      let there : Contains segs.segments segment = subst (Contains segs.segments) stays from.among in
      list_any-append (is_page_of segment.row) heap.pages (run_pages whole.run)
      ∙ or_left (list_any (is_page_of segment.row) heap.pages) _
      (has.pages_of segment (contains_kept is_own segs.segments segment there (contains_passes is_own made segment among)))

  brought : HasPages (heap.pages ++ run_pages whole.run) (owned_by heap.index (claimed_grant segs (Some generation)))
  brought = record { owns = owns; pages_of = λ segment among. page_by segment (segment.row.generation == generation) among refl }

pub claim_brings : ClaimBrings
unfolding after_grow
claim_brings segs from number generation entry run heap sound grant among is unclaimed claimed has =
    let whole : IsWholeClaim segs.log (claimed_grant segs (Some generation)).segments generation =
    subst (λ g. IsWholeClaim segs.log (claimed_grant segs g).segments generation) grant
    (claim_owns_all segs from number generation sound grant unclaimed) in
    let its_heap : whole.heap ≡ heap.index =
    one_heap segs.log generation heap.index whole.heap (its_record segs heap.index generation entry sound among is)
    (record { run = whole.run; added = whole.added }) in
    let runs : Some whole.run ≡ Some run =
    sym (ap (option_and_then added_run) whole.added) ∙ (sym (ap (option_and_then (run_of segs.log)) grant) ∙ claimed) in
    let its_run : whole.run ≡ run = cc in
    subst (λ g. HasPages (after_grow run heap).pages (owned_by heap.index (claimed_grant segs g))) (sym grant)
    (subst (λ r. HasPages (heap.pages ++ run_pages r) (owned_by heap.index (claimed_grant segs (Some generation)))) its_run
    (brought segs generation heap whole its_heap has))
