use Rattle.std.proofs.Common.{ℕ, subst}
use Rattle.hp_base.specs.Streams.{HasRisen}
use Rattle.hp_base.specs.declared.status.Status.TheVariants as status
use Rattle.hp_mempool.specs.Program.{IsPutUnlessShort, text_of}
use Rattle.hp_mempool.proofs.top_call.exercise.Goals as goal

pub returns-clause-outcome : goal.returns-clause-outcome
returns-clause-outcome g c =
    subst
    (λ (n : ℕ). IsPutUnlessShort status.Ok (text_of (record { workers = n; rounds = c.args.rounds; objects = c.args.objects; cache = c.args.cache }))
    (g.K.Sink.held c.args.sink.now) (g.K.Sink.held c.exercise_by.new.sink)
    (HasRisen (g.K.Sink.faults c.args.sink.now) (g.K.Sink.faults c.exercise_by.new.sink)) c.exercise_by.result)
    c.from.ensures c.exercise_by.ensures.outcome
