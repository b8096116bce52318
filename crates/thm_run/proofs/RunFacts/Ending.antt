-- The end of a workload of several participants, from how far it was run after its last line.
use Rattle.std.proofs.Common.{◌≡◌, ◌∙◌, ℕ, List, length, refl, subst, sym}
use Rattle.std.specs.List.{All}
use Rattle.hp_plain.specs.HallView.{HallView}
use Rattle.hp_heap.specs.History.{HeapView}
use Rattle.hp_maps.specs.declared.table.Table.{Table}
use Rattle.hp_script.specs.Facts.{AwaitEarlier}
use Rattle.hp_script.specs.declared.answer.Answer.{Answer}
use Rattle.hp_script.specs.declared.workload.Workload.{Workload}
use Rattle.hp_segs.specs.SegsView.{SegsView}
use Rattle.hp_proc.specs.Ends.{IsSoloEnd}
use Rattle.hp_proc.specs.LinesDone.{Course, IsNoneUngranted, courses_of, trace_of}
use Rattle.hp_proc.specs.Outcomes.{AreAskedFor, IsRefusedIn}
use Rattle.hp_serve.specs.Party.{Party}
use Rattle.hp_proc.specs.Seen.{AreSeen, seen_in}
use Rattle.hp_proc.specs.Handed.{AreOwnFailures}
use Rattle.thm_run.specs.SoFar.{SoFar}
use Rattle.thm_run.specs.EndLaws.{IsAtEnd, IsGiven}
use Rattle.thm_run.proofs.AwaitedInOrder.{awaited_in_order}
use Rattle.thm_run.proofs.WhatWentBack.GoneSoFar.{gone_so_far, outcomes_so_far}
use Rattle.thm_run.proofs.HallFacts.HallEnds.{segs_same}
use Rattle.thm_run.proofs.HallFacts.HallHeaps.{heaps_are, heaps_sound}
use Rattle.thm_run.proofs.HallFacts.HallHistories.{calls_are, grown_are, in_order, no_calls_beyond}
use Rattle.thm_run.proofs.HallFacts.HallPages.{pages_owned}
use Rattle.thm_run.proofs.HallFacts.HallSegs.{nobody_else, none_growing, pools_are, roster_is, segs_sound}
use Rattle.thm_run.proofs.HallFacts.HallTables.{mapped_are}
use Rattle.thm_run.proofs.LineSteps.LineClauses.{asks_in_turn, asks_of_each, numbered_so_far, turns_so_far}
use Rattle.thm_run.proofs.SeenAndShown.Provenance.{asked_of_traces}

-- what of an end is known by other laws of a run: lines without memory were granted none, each growth was asked for, each refusal has its
-- cause, and what lines show of the log
pub record AreKnown (workload : Workload) (courses : List Course) (segs : SegsView) : Type 0 where
  pub none : All IsNoneUngranted courses
  pub asked_for : AreAskedFor segs
  pub causes : All (IsRefusedIn workload) segs.asks
  pub seen : (who : ℕ) → AreSeen (length segs.log) (seen_in segs.log segs.asks who 1 (trace_of (courses_of who courses)))
  pub failed : (who : ℕ) → AreOwnFailures segs.log (trace_of (courses_of who courses))

module _ (workload : Workload) (courses : List Course) (answers : List Answer) (parties : List Party) (hall : HallView)
    (heaps : List HeapView) (segs : SegsView) (tables : List Table) (given : IsGiven workload) (so : SoFar workload courses parties hall)
    (is : IsAtEnd workload courses answers parties hall heaps segs tables) (known : AreKnown workload courses so.now.segs) where
  joint_end : IsSoloEnd workload answers heaps so.now.segs tables
  joint_end = record {
    end = record {
      courses = courses;
      lines = is.lines;
      answered = is.answered;
      done = so.done;
      none = known.none;
      heaps_are = heaps_are workload courses parties hall so heaps segs is.names is.values;
      heaps_sound = heaps_sound workload courses parties hall so heaps segs is.names is.values;
      calls = calls_are workload courses parties hall so heaps segs is.names is.values;
      segs_sound = segs_sound workload courses parties hall so;
      pools = pools_are workload courses parties hall so;
      asks = asks_of_each workload courses parties hall so;
      outcomes = asked_of_traces so.now.segs.log (λ who. trace_of (courses_of who courses)) so.now.segs.asks
          (outcomes_so_far workload courses parties hall so);
      in_turn = asks_in_turn workload courses parties hall so;
      asked_for = known.asked_for;
      causes = known.causes;
      settled = none_growing workload courses parties hall so;
      seen = known.seen;
      failed = known.failed;
      awaited = awaited_in_order workload.participants courses
          (subst (AwaitEarlier workload.participants) (sym is.lines) given.awaits) heaps
          (in_order workload courses parties hall so heaps segs is.names is.values);
      grown = grown_are workload courses parties hall so heaps segs is.names is.values;
      gone = gone_so_far workload courses parties hall so heaps (calls_are workload courses parties hall so heaps segs is.names is.values)
          (λ who below. no_calls_beyond workload courses parties hall so heaps segs is.names is.values who);
      owned = pages_owned workload courses parties hall so heaps segs is.names is.values is.hall_is;
      roster = roster_is workload courses parties hall so;
      nobody_else = nobody_else workload courses parties hall so;
      count = is.count ∙ so.count;
      mapped = mapped_are workload courses parties hall so tables is.count is.tables_are;
    };
    alone = record {
      in_order = in_order workload courses parties hall so heaps segs is.names is.values;
      seen_in_order = so.seen;
      traced = outcomes_so_far workload courses parties hall so;
      in_turn = turns_so_far workload courses parties hall so;
      numbered = numbered_so_far workload courses parties hall so;
    };
  }

  -- that is an end, with the segment value that its hall keeps
  pub ends_by : (end : IsSoloEnd workload answers heaps segs tables) × (end.end.courses ≡ courses)
  unfolding joint_end
  ends_by =
      subst (λ (segs : SegsView). (end : IsSoloEnd workload answers heaps segs tables) × (end.end.courses ≡ courses))
      (segs_same workload courses parties hall so heaps segs is.names is.values) (joint_end, refl)
