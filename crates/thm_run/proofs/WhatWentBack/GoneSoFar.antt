-- How far a workload was run, what was cut from its heaps has gone back or is Retiring, and outcomes that say so are true.
use Rattle.std.proofs.Common.{◌≡◌, ◌∙◌, ◌==◌, ℕ, ◌<◌, ◌≤◌, ◌++◌, false, List, [], append-nil, length, Some, ap, sym, subst, arith, ne_eqb}
use Rattle.std.specs.List.{All, flat_map, range_with_len, slice_get}
use Rattle.std.specs.List.Sorted.{IsPermutation}
use Rattle.hp_segs.proofs.SlotFacts.ListFacts.{filter_drops}
use Rattle.std.proofs.lemmas.Option.{slice_get_within}
use Rattle.hp_plain.specs.HallView.{HallView}
use Rattle.hp_heap.specs.History.{HeapView}
use Rattle.hp_script.specs.declared.workload.Workload.{Workload}
use Rattle.hp_segs.specs.Returned.{returned_runs}
use Rattle.hp_proc.specs.Courses.{calls_in}
use Rattle.hp_proc.specs.Doing.{Done}
use Rattle.hp_proc.specs.Ends.{HaveGoneBack, KeepsCalls}
use Rattle.hp_proc.specs.Histories.{entries_for}
use Rattle.hp_proc.specs.LinesDone.{Course, courses_of, opening_standing, trace_of}
use Rattle.hp_proc.specs.Outcomes.{IsOfATraceUnlessStale}
use Rattle.hp_serve.specs.Party.{Party}
use Rattle.thm_run.proofs.PathSteps.ByMail.{run_of}
use Rattle.thm_run.specs.Drops.{cut_by_lines}
use Rattle.thm_run.specs.Seats.{Seat}
use Rattle.thm_run.specs.SoFar.{IsOfDeclared, SoFar, trace_for}
use Rattle.thm_run.proofs.WhatWentBack.CutFirst.{IsCutFirst}
use Rattle.thm_run.proofs.WhatWentBack.CutLines.{cut_first_lines}
use Rattle.thm_run.proofs.WhatWentBack.GoneRuns.{outcomes_true}
use Rattle.thm_run.proofs.WhatWentBack.CutRuns.{cuts_in, flat_map_indexed}
use Rattle.thm_run.proofs.WhatWentBack.Returned.{cuts_by_all, cuts_returned, gone_back}
use Rattle.thm_run.proofs.SeatFacts.SeatsAlong.{count_along}

-- nobody else has a line
pub none_of_others : (count who : ℕ) (courses : List Course) → count ≤ who → All (IsOfDeclared count) courses → courses_of who courses ≡ []
none_of_others count who courses beyond built =
    filter_drops (λ (course : Course). course.line.participant == who) courses
    (λ k d within. ne_eqb _ who (λ same. omega (arith, same, beyond, (built k d within).declared)))

module _ (workload : Workload) (courses : List Course) (parties : List Party) (hall : HallView)
    (so : SoFar workload courses parties hall) where
  -- what was done for each participant's lines
  abbrev did : ℕ → List Done
  did who = trace_for who courses

  own_trace : (who : ℕ) (seat : Seat) → slice_get so.now.seats who ≡ Some seat → did who ≡ seat.trace
  own_trace who seat there = sym (so.seats who seat there).trace

  -- each seat is of a declared participant
  pub declared_seat : (who : ℕ) (seat : Seat) → slice_get so.now.seats who ≡ Some seat → who < workload.participants
  declared_seat who seat there =
      omega (arith, slice_get_within so.now.seats who seat there, count_along (run_of so.runs), so.is_first.seats)

  -- each participant gave up what it had cut before
  pub cut_so_far : (who : ℕ) (seat : Seat) → slice_get so.now.seats who ≡ Some seat → IsCutFirst seat.trace
  cut_so_far who seat there =
      subst IsCutFirst (own_trace who seat there)
      (cut_first_lines workload (opening_standing workload who) (courses_of who courses) (so.done who (declared_seat who seat there)))

  -- the clause `outcomes`
  pub outcomes_so_far : All (IsOfATraceUnlessStale so.now.segs.log (λ who. trace_of (courses_of who courses))) so.now.segs.asks
  outcomes_so_far =
      outcomes_true workload.participants workload.absent workload.pools.items so.first so.is_first so.now so.runs cut_so_far did own_trace

  -- the clause `gone`, where the histories of the heaps are the calls of the lines and no others
  pub gone_so_far : (heaps : List HeapView) → KeepsCalls (λ who. trace_of (courses_of who courses)) heaps
      → ((who : ℕ) → who < workload.participants → (index : ℕ) → length heaps ≤ index
      → entries_for who index 1 (calls_in (trace_of (courses_of who courses))) ≡ []) → HaveGoneBack heaps so.now.segs
  gone_so_far heaps kept within =
      gone_back workload.participants workload.absent workload.pools.items so.first so.now did heaps so.is_first (run_of so.runs) own_trace
      (record {
        none = λ who beyond. ap trace_of (none_of_others workload.participants who courses beyond so.built);
        within = within;
      })
      kept

  -- where nothing is Retiring, all that the lines cut has gone back
  pub all_back : so.now.segs.retiring ≡ []
      → IsPermutation (cut_by_lines workload.participants courses) (returned_runs so.now.segs.asks false 1 so.now.segs.log)
  all_back none =
      let back = returned_runs so.now.segs.asks false 1 so.now.segs.log in
      let same : cuts_by_all so.now.seats ≡ cut_by_lines workload.participants courses =
      flat_map_indexed (λ (seat : Seat). cuts_in seat.trace) (λ who. cuts_in (did who)) so.now.seats 0
      (λ index number seat at there.
      let here : index ≡ number = omega (arith, at) in
      ap cuts_in (sym (own_trace index seat there)) ∙ ap (λ who. cuts_in (did who)) here)
      ∙ ap (λ count. flat_map (λ who. cuts_in (did who)) (range_with_len 0 count)) (count_along (run_of so.runs) ∙ so.is_first.seats) in
      subst (λ cut. IsPermutation cut back) same
      (subst (IsPermutation (cuts_by_all so.now.seats)) (ap (λ runs. back ++ runs) none ∙ append-nil back)
      (cuts_returned workload.participants workload.absent workload.pools.items so.first so.is_first so.now (run_of so.runs)))
