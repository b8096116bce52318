-- What a segment value without a record has for heaps: nothing; and that heaps without an entry have that.
use Rattle.std.proofs.Common.{◌≡◌, ◌∙◌, ℕ, ◌+◌, false, List, [], ◌∷◌, ◌++◌, map, length, Option, Some, None, refl, sym, ap, subst, arith}
use Rattle.std.specs.List.{All, Contains}
use Rattle.std.proofs.lemmas.List.{length-append, length-map, nil_from_length}
use Rattle.std.proofs.lemmas.List.Elements.{All-head}
use Rattle.std.proofs.lemmas.List.Sorted.{length_permutation}
use Rattle.hp_base.specs.declared.row.Row.{Row}
use Rattle.hp_base.specs.declared.row.Run.{Run}
use Rattle.hp_heap.specs.History.{HeapView, IsSound, opening_of, replay}
use Rattle.hp_heap.specs.HistoryLaws.{runs_cut, runs_grown}
use Rattle.hp_heap.specs.PlainHeap.{PlainHeap}
use Rattle.hp_heap.specs.declared.entry.Entry.{Entry}
use Rattle.hp_log.specs.Log.{table_of}
use Rattle.hp_log.specs.Rows.{IsUsedRun}
use Rattle.hp_log.specs.declared.log_record.LogRecord.{LogRecord}
use Rattle.hp_segs.specs.PendingRuns.{ArePending}
use Rattle.hp_segs.specs.Returned.{returned_runs}
use Rattle.hp_segs.specs.SegsView.{SegsView}
use Rattle.hp_segs.specs.Sound as segments
use Rattle.hp_segs.specs.SoundRows.{growth_run}
use Rattle.hp_segs.specs.Standing.{Holding, IsArmed, claimed_by, given_up_by, owned_by, runs_granted, standing_of}
use Rattle.hp_segs.specs.Table.{IsListRun}
use Rattle.hp_segs.specs.Lists.{lists_of}
use Rattle.hp_segs.specs.declared.growth.Growth.{Growth}
use Rattle.hp_segs.specs.declared.outcome.AskLog.{AskLog}
use Rattle.hp_segs.specs.declared.row_state.Segment.{Segment}
use Rattle.hp_hall.specs.Holding.{HasHolding}
use Rattle.hp_hall.specs.Naming.{marked_by}
use Rattle.hp_hall.proofs.Gives.{bare_pages, has_nothing}
use Rattle.hp_board.specs.Ownership.{no_holding}

no_runs : (runs_grown [] ≡ []) × (runs_cut [] ≡ [])
unfolding runs_grown runs_cut
no_runs = (refl, refl)

-- a heap without an entry has nothing
pub heap_bare : (slot : ℕ) (heap : HeapView) (segs : SegsView) → IsSound heap → heap.history ≡ [] → standing_of slot segs ≡ no_holding → HasHolding heap (standing_of slot segs)
heap_bare slot heap segs sound unused none =
    let pages : heap.plain.pages ≡ [] =
    ap (λ (plain : PlainHeap). plain.pages) sound.stands.left ∙ ap (λ (history : List Entry). (replay (opening_of heap.plain) history).pages) unused in
    record {
      pages = bare_pages heap.plain.pages (standing_of slot segs).owned pages (ap (λ (h : Holding). h.owned) none);
      grown = ap runs_grown unused ∙ (no_runs.0 ∙ sym (ap (λ (h : Holding). h.came) none));
      cut = ap runs_cut unused ∙ (no_runs.1 ∙ sym (ap (λ (h : Holding). h.retired) none));
    }

-- and no chunk of it has a mark
pub bare_marks : (who : ℕ) (heap : HeapView) → IsSound heap → heap.history ≡ [] → marked_by who heap.plain ≡ []
unfolding marked_by
bare_marks who heap sound unused =
    ap (marked_by who) sound.stands.left ∙ ap (λ (history : List Entry). marked_by who (replay (opening_of heap.plain) history)) unused

module _ (segs : SegsView) (sound : segments.IsSound segs) (log : segs.log ≡ []) (asks : segs.asks ≡ []) where
  no_rows : map (λ (segment : Segment). segment.row) segs.segments ≡ []
  no_rows = sound.rows.table.table ∙ ap table_of log

  no_segments : segs.segments ≡ []
  no_segments = nil_from_length segs.segments (sym (length-map segs.segments (λ (segment : Segment). segment.row)) ∙ ap length no_rows)

  -- each slot of an open or given up run has a row
  no_held : (runs : List Run) → All (IsListRun (lists_of segs.pools)) runs → All (IsUsedRun (map (λ (segment : Segment). segment.row) segs.segments)) runs → runs ≡ []
  no_held [] listed used = refl
  no_held (run ∷ runs) listed used =
      let some = (All-head (IsListRun (lists_of segs.pools)) run runs listed).some in
      let first = (All-head (IsUsedRun (map (λ (segment : Segment). segment.row) segs.segments)) run runs used).used 0 some in
      let none = subst (λ (rows : List Row). Rattle.hp_log.specs.Rows.rows_at rows run.list (run.first + 0) ≡ 1) no_rows first in
      let wrong : ◌≡◌ {A = ℕ} 0 1 = none in
      absurd (omega (arith, wrong))

  no_open : growth_run segs.growth ++ segs.retiring ≡ []
  no_open = no_held (growth_run segs.growth ++ segs.retiring) sound.rows.held.listed sound.rows.held.used

  no_retiring : segs.retiring ≡ []
  no_retiring = nil_from_length segs.retiring (omega (arith, length-append (growth_run segs.growth) segs.retiring, ap length no_open))

  growth_by : (growth : Option Growth) → length (growth_run growth) ≡ 0 → growth ≡ None
  growth_by None none = refl
  growth_by (Some growth) none =
      let wrong : ◌≡◌ {A = ℕ} 1 0 = none in
      absurd (omega (arith, wrong))

  no_growth : segs.growth ≡ None
  no_growth = growth_by segs.growth (omega (arith, length-append (growth_run segs.growth) segs.retiring, ap length no_open))

  -- what was given up went back or is Retiring, and nothing did
  no_returned : length (returned_runs segs.asks false 1 segs.log) ≡ 0
  no_returned = ap (λ (l : List LogRecord). length (returned_runs segs.asks false 1 l)) log

  no_retired : segs.retired ≡ []
  no_retired =
      let same = length_permutation (map (λ (given : ℕ × Run). given.1) segs.retired) (returned_runs segs.asks false 1 segs.log ++ segs.retiring) sound.returned in
      nil_from_length segs.retired
      (omega (
        arith,
        same,
        no_returned,
        length-append (returned_runs segs.asks false 1 segs.log) segs.retiring,
        ap length no_retiring,
        length-map segs.retired (λ (given : ℕ × Run). given.1),
      ))

  abbrev held : ℕ → List Segment → List AskLog → List Run → Holding
  held heap owned claimed retired = record { owned = owned; claimed = claimed; came = runs_granted segs.log claimed; retired = retired }

  -- it has nothing for any heap
  pub bare_standing : (heap : ℕ) → standing_of heap segs ≡ no_holding
  bare_standing heap =
      let owned : owned_by heap segs ≡ [] = ap (λ (l : List Segment). owned_by heap (record segs { segments = l })) no_segments in
      let claimed : claimed_by heap segs ≡ [] = ap (λ (l : List AskLog). claimed_by heap (record segs { asks = l })) asks in
      let retired : given_up_by heap segs.retired ≡ [] = ap (given_up_by heap) no_retired in
      ap (λ (l : List Segment). held heap l (claimed_by heap segs) (given_up_by heap segs.retired)) owned
      ∙ (ap (λ (l : List AskLog). held heap [] l (given_up_by heap segs.retired)) claimed ∙ ap (λ (l : List Run). held heap [] [] l) retired)

  -- no outcome is logged
  none_logged : (entry : AskLog) → Contains segs.asks entry → ⊥
  none_logged entry among = has_nothing entry (subst (λ (l : List AskLog). Contains l entry) asks among)

  -- no growth is open, no outcome keeps an ask, and no run was granted
  pub bare_armed : IsArmed segs
  bare_armed = record {
    growth = subst (λ (g : Option Growth). Rattle.std.specs.Prelude.IfSome g (Rattle.hp_segs.specs.GrowthLaws.IsOfArmed segs.asks segs.armed)) (sym no_growth) tt;
    kept = λ entry ask armed among. absurd (none_logged entry among);
  }

  pub bare_pending : ArePending segs
  bare_pending = record {
    of_armed = λ entry ask generation pending. absurd (none_logged entry pending.logged);
    alone = λ entry ask generation growth pending. absurd (none_logged entry pending.logged);
    last = λ entry other ask asked generation number pending. absurd (none_logged entry pending.logged);
  }
