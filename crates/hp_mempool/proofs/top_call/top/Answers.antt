use Rattle.std.proofs.Common.{subst}
use Rattle.std.specs.Prelude.{Option}
use Rattle.hp_base.specs.Streams.{HasRisen}
use Rattle.hp_mempool.specs.declared.load.Load.{Load}
use Rattle.hp_mempool.specs.Program.{Ends}
use Rattle.hp_mempool.proofs.top_call.top.Goals as goal

pub returns-in-Some-clause-outcome : goal.returns-in-Some-clause-outcome
returns-in-Some-clause-outcome g c =
    subst
    (λ (load : Option Load). Ends load (g.K.Sink.held c.args.sink.now) (g.K.Sink.held c.exercise_by.new.sink)
    (HasRisen (g.K.Sink.faults c.args.sink.now) (g.K.Sink.faults c.exercise_by.new.sink)) c.exercise_by.result)
    c.in-Some.ensures.load c.exercise_by.ensures.outcome

pub returns-in-None-clause-outcome : goal.returns-in-None-clause-outcome
returns-in-None-clause-outcome g c =
    subst
    (λ (load : Option Load). Ends load (g.K.Sink.held c.args.sink.now) (g.K.Sink.held c.written.new.sink)
    (HasRisen (g.K.Sink.faults c.args.sink.now) (g.K.Sink.faults c.written.new.sink)) c.written.result)
    c.in-None.ensures.load c.written.ensures.outcome
