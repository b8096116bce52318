-- What there is to write is the report of what participants on threads left.
use Rattle.std.proofs.Common.{◌≡◌, Some, refl}
use Rattle.hp_report.specs.Report.{report}
use Rattle.hp_run.specs.Refusals.{refusal_of}
use Rattle.hp_run.specs.Outcome.IsAnswer.{of_refusal, of_workload}
use Rattle.hp_run.specs.Outcome.IsAnswered.{wrote, wrote_nothing}
use Rattle.hp_run.proofs.EndLemmas.{each_answered}
use Rattle.hp_run.proofs.run_call.answered.Goals as goal

pub reported-requires : goal.reported-requires
reported-requires g c = record { answers = each_answered _ _ _ _ _ c.in-Ok.ensures.end.run.end }

pub returns-in-Ok-clause-written : goal.returns-in-Ok-clause-written
returns-in-Ok-clause-written g c =
    wrote _ _ _ (of_workload (report c.in-Ok.ended) (record { ended = c.in-Ok.ended; end = c.in-Ok.ensures; is = refl }))
    c.reported.ensures.written

pub returns-in-Err-Refused-clause-written : goal.returns-in-Err-Refused-clause-written
returns-in-Err-Refused-clause-written g c =
    let due : refusal_of c.args.bytes.now ≡ Some c.in-Err-Refused.refusal = rw c.in-Err-Refused.field-0-is at c.in-Err-Refused.ensures in
    wrote _ _ _ (of_refusal _ due) c.refused.ensures.written

pub returns-in-Err-OutOfMemory-clause-written : goal.returns-in-Err-OutOfMemory-clause-written
returns-in-Err-OutOfMemory-clause-written g c = wrote_nothing refl
