use Rattle.std.proofs.Common.{subst}
use Rattle.hp_base.specs.Streams.{HasRisen}
use Rattle.hp_base.specs.declared.status.Status.TheVariants as status
use Rattle.hp_mempool.specs.declared.report.Report.{Report}
use Rattle.hp_mempool.specs.Program.{IsPutUnlessShort, report_text}
use Rattle.hp_mempool.proofs.top_call.exercise_by.Goals as goal

pub returns-in-Ok-clause-outcome : goal.returns-in-Ok-clause-outcome
returns-in-Ok-clause-outcome g c =
    subst
    (λ (report : Report). IsPutUnlessShort status.Ok (report_text report) (g.K.Sink.held c.args.sink.now) (g.K.Sink.held c.reported.new.sink)
    (HasRisen (g.K.Sink.faults c.args.sink.now) (g.K.Sink.faults c.reported.new.sink)) c.reported.result)
    c.in-Ok.ensures c.reported.ensures.outcome
