-- How far a workload was run, each line that was answered that there is no memory was granted none.
use Rattle.std.proofs.Common.{ℕ, List, sym, subst}
use Rattle.std.specs.List.{All}
use Rattle.hp_heap.specs.declared.entry.Entry.{Entry}
use Rattle.hp_plain.specs.HallView.{HallView, history_in, slot_at}
use Rattle.hp_script.specs.declared.workload.Workload.{Workload}
use Rattle.hp_proc.specs.LinesDone.{Course, IsNoneUngranted}
use Rattle.hp_proc.specs.Ends.{history_by, none_made}
use Rattle.hp_serve.specs.Party.{Party}
use Rattle.thm_run.proofs.PathSteps.ByMail.{run_of}
use Rattle.thm_run.specs.SoFar.{SoFar}
use Rattle.thm_run.proofs.HallFacts.HallHeaps.{first_sound}
use Rattle.thm_run.proofs.LineSteps.LineClauses.{asks_of_each}
use Rattle.thm_run.proofs.RunFacts.NoneLines.{AreLegalLast, legal_history, legal_nothing, none_lines}
use Rattle.thm_run.proofs.SeatFacts.SegsAlong.{sound_along}
use Rattle.thm_run.proofs.SoundHistories.{IsSoundHistory, history_sound}

-- the history of a sound heap is legal, and so is none
legal_of : (history : List Entry) → IsSoundHistory history → AreLegalLast history
legal_of history (IsSoundHistory.of_heap heap sound is) = subst AreLegalLast (sym is) (legal_history heap sound)
legal_of history (IsSoundHistory.of_none is) = subst AreLegalLast (sym is) legal_nothing

module _ (workload : Workload) (courses : List Course) (parties : List Party) (hall : HallView)
    (so : SoFar workload courses parties hall) where
  legals : (index : ℕ) → AreLegalLast (history_by index none_made courses)
  legals index =
      subst AreLegalLast (so.in_order index)
      (legal_of (history_in (slot_at hall index))
      (history_sound workload so.held so.first_heaps (first_sound workload courses parties hall so) so.names_sound hall so.course index))

  -- the clause `none`
  pub none_so_far : All IsNoneUngranted courses
  none_so_far =
      none_lines workload so.now.segs
      (sound_along workload.participants workload.absent workload.pools.items so.first so.is_first so.now (run_of so.runs)) workload.participants
      courses so.built so.done (λ who below. asks_of_each workload courses parties hall so who) legals
