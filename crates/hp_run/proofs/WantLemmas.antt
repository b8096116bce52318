-- What an end of a workload says of asks that were refused, by the laws of why mappings fail.
use Rattle.std.proofs.Common.{All, List, Option, inl, inr}
use Rattle.hp_base.specs.Mapping.{FailingCall}
use Rattle.hp_base.proofs.PlannedMapping.{entry_names}
use Rattle.hp_heap.specs.History.{HeapView}
use Rattle.hp_maps.specs.declared.table.Table.{Table}
use Rattle.hp_script.specs.declared.answer.Answer.{Answer}
use Rattle.hp_script.specs.declared.workload.Workload.{Workload}
use Rattle.hp_segs.specs.SegsView.{SegsView}
use Rattle.hp_proc.specs.Ends.{IsEnd}
use Rattle.thm_causes.specs.Counting.{LosesNothing}
use Rattle.thm_causes.specs.Nones.{OnlyExhaustion, RefusalsAreExhaustion}
use Rattle.thm_causes.specs.Threads.{TimeoutsArePlanned}
use Rattle.hp_run.specs.Ending.{AreNamed, NoMappingMayFail}

pub wants_so : (workload : Workload) (mappers : List (Option (List FailingCall))) (answers : List Answer) (heaps : List HeapView) (segs : SegsView)
    (tables : List Table) → IsEnd workload answers heaps segs tables → AreNamed workload mappers answers segs
    → TimeoutsArePlanned workload segs.asks → RefusalsAreExhaustion → LosesNothing workload.plan.items
    → NoMappingMayFail workload.plan.items mappers → All OnlyExhaustion segs.asks
wants_so workload mappers answers heaps segs tables end named timeouts exhausted nothing steady =
    exhausted workload answers heaps segs tables end timeouts nothing
    (λ entry participant call among failed.
    steady participant call (elim (named.failures entry participant call among failed) [
      | inl planned ↦
          inl (entry_names workload.plan.items participant call planned.elsewhere planned.line planned.planned)
      | inr unsteady ↦ inr unsteady
    ]))
