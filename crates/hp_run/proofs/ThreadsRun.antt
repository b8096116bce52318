-- A run by threads, each over the mapper that has its participant's place, has come to all that a run has.
use Rattle.std.proofs.Common.{◌≡◌, ◌∙◌, ◌⊎◌, ℕ, List, Option, Some, sym, ap, subst}
use Rattle.std.specs.List.{slice_get}
use Rattle.hp_base.specs.Mapping.{FailingCall, may_fail_at}
use Rattle.hp_base.specs.declared.map_answer.MapAnswer.{MapAnswer}
use Rattle.hp_events.specs.Watchers.{WatchersView}
use Rattle.hp_heap.specs.History.{HeapView}
use Rattle.hp_maps.specs.PlannedView.{may_fail_by}
use Rattle.hp_maps.specs.declared.table.Table.{Table}
use Rattle.hp_script.specs.declared.answer.Answer.{Answer}
use Rattle.hp_script.specs.declared.workload.Workload.{Workload}
use Rattle.hp_segs.specs.SegsView.{SegsView}
use Rattle.hp_segs.specs.declared.ask.Ask.{Ask}
use Rattle.hp_zone.specs.declared.names.Names.{Names as NamesView}
use Rattle.hp_serve.specs.Party.{Party}
use Rattle.hp_proc.specs.ParticipantView.{ParticipantView}
use Rattle.thm_run.specs.EndLaws.{FailsFor}
use Rattle.thm_run.specs.Handing.{HaveStatistics, HaveWatchers, listeners_in}
use Rattle.thm_home.specs.EndOfThreads.{HandedOnThreads, MayFailAt, MayFailSo, ThreadsEnd}
use Rattle.hp_threads.specs.Running.{ThreadsLeave}
use Rattle.thm_alike.proofs.GivenAttached.{ends_give_attached}
use Rattle.hp_run.specs.Apart.{AreBegunOver, IsEndOnThreads}
use Rattle.hp_run.specs.Ending.{AreNamed, IsRunEnd}
use Rattle.hp_run.specs.Failures.{IsFailedAsPlanned, IsFailureNamed, IsRefusedAt, IsUnsteady}
use Rattle.hp_run.specs.Opening.{IsPartyOver}
use Rattle.hp_run.specs.Running.{IsRunnable}
use Rattle.hp_run.proofs.Coming.{given_by}
use Rattle.hp_run.proofs.FailureLemmas.{IsRefusedCourse, failed_there, named_there, refused_course}

module _ (workload : Workload) (mappers : List (Option (List FailingCall))) (firsts : List ParticipantView)
    (over : (who : ℕ) (first : ParticipantView) → slice_get firsts who ≡ Some first → IsPartyOver workload mappers who first.party) where
  -- the mapper with which a participant began is that with its plan
  planned : (who : ℕ) (first : ParticipantView) (there : slice_get firsts who ≡ Some first)
      → first.party.maps.may_fail ≡ may_fail_by workload.plan.items who (over who first there).may_fail
  planned who first there =
      let its = (over who first there).planned in
      ap (λ (party : Party). party.maps.may_fail) its.is ∙ its.fails

  named_at : (who call : ℕ) → MayFailAt firsts who call → IsFailureNamed workload.plan.items mappers who call
  named_at who call may =
      let its = over who may.first may.there in
      named_there workload.plan.items mappers who its.may_fail call its.its
      (ap (λ (may_fail : Option (List FailingCall)). may_fail_at may_fail call) (sym (planned who may.first may.there)) ∙ may.may)

  failed_at : (who call addr : ℕ) (got : MapAnswer) (kept : Option Ask) → MayFailSo firsts who call addr got kept
      → IsFailedAsPlanned workload.plan.items who call addr got kept ⊎ IsUnsteady mappers who
  failed_at who call addr got kept may =
      let its = over who may.first may.there in
      failed_there workload.plan.items mappers who its.may_fail call addr got kept its.its
      (subst (λ (may_fail : Option (List FailingCall)). FailsFor may_fail call addr got kept) (planned who may.first may.there) may.fails)

  module _ (answers : List Answer) (heaps : List HeapView) (segs : SegsView) (names : NamesView) (tables : List Table)
      (watchers : List WatchersView) (ends : ThreadsEnd workload firsts answers heaps segs names tables) where
    refused_line : (place who call : ℕ) → IsRefusedAt workload.lines.items answers place who call
        → IsRefusedCourse ends.end.courses place who call
    refused_line place who call refused =
        refused_course ends.end.courses workload.lines.items answers place who call ends.end.lines ends.end.answered refused

    named : AreNamed workload mappers answers segs
    named = record {
      failures = λ entry who call logged failed.
          failed_at who call failed.addr failed.got entry.ask (ends.failed.failures entry who call logged failed);
      once = ends.failed.once;
      refusals = λ place who call refused.
          let it = refused_line place who call refused in
          named_at who call (ends.failed.refusals place it.course who call it.its it.is);
      refused_once = λ place other who call one two.
          let it = refused_line place who call one in
          let also = refused_line other who call two in
          ends.failed.refused_once place other it.course also.course who call it.its also.its it.is also.is;
    }

    pub threads_run_end : HaveWatchers workload ends.end.courses segs tables (listeners_in watchers)
        → HaveStatistics ends.end.courses heaps → IsRunEnd workload mappers answers heaps segs tables (listeners_in watchers) names
    threads_run_end watched statistics = record {
      end = ends.end;
      names_end = ends.names_end;
      watched = watched;
      statistics = statistics;
      named = named;
      agreed = record {
        alike = ends.alike;
        pages = ends.pages;
        attached = ends_give_attached workload answers heaps segs tables ends.end;
        restored = ends.no_row;
      };
      nothing_found = ends.nothing_found;
      restored = record { calls = ends.calls; leads = ends.leads; growths = ends.growths; answering = ends.answering };
    }

-- what participants leave that began so, each on a thread of its own
pub record IsLeftByThreads (workload : Workload) (mappers : List (Option (List FailingCall))) (answers : List Answer) (heaps : List HeapView)
    (segs : SegsView) (names : NamesView) (tables : List Table) (watchers : List WatchersView) : Type 0 where
  pub firsts : List ParticipantView
  pub begun : AreBegunOver workload mappers firsts
  pub leave : ThreadsLeave workload firsts answers heaps segs names tables watchers

-- and that is such an end
pub left_is_end : (workload : Workload) (mappers : List (Option (List FailingCall))) (answers : List Answer) (heaps : List HeapView)
    (segs : SegsView) (names : NamesView) (tables : List Table) (watchers : List WatchersView) → HandedOnThreads → IsRunnable workload
    → IsLeftByThreads workload mappers answers heaps segs names tables watchers
    → IsEndOnThreads workload mappers answers heaps segs names tables watchers
left_is_end workload mappers answers heaps segs names tables watchers law runnable left =
    let handed =
    law workload left.firsts answers heaps segs names tables watchers (given_by workload runnable) runnable.declared left.leave in
    record {
      run = threads_run_end workload mappers left.firsts (λ who first there. (left.begun.each who first there).party) answers heaps segs names
          tables watchers handed.end handed.watched handed.statistics;
      named = record { sockets = handed.end.sockets; sound = handed.end.names_sound; agreed = handed.end.names_agree };
    }
