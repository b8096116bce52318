use Rattle.std.proofs.Common.{◌≡◌, ℕ, length, refl, rules, subst}
use Rattle.hp_base.specs.Streams.{HasRisen}
use Rattle.hp_base.specs.declared.status.Status.TheVariants.{Ok}
use Rattle.hp_run.specs.Checking.{count_text}
use Rattle.hp_run.specs.Checking.IsChecked.{of_refusal, of_workload}
use Rattle.hp_run.specs.Outcome.{IsWritten}
use Rattle.hp_run.specs.Outcome.IsAnswered.{wrote, wrote_nothing}
use Rattle.hp_run.proofs.checking.checked.Goals as goal

pub returns-in-Ok-clause-written : goal.returns-in-Ok-clause-written
returns-in-Ok-clause-written g c =
    let lines : c.len.result ≡ length c.in-Ok.workload.lines.items = search rules in
    wrote _ _ _ (of_workload c.in-Ok.workload c.in-Ok.ensures.read)
    (subst
    (λ (n : ℕ). IsWritten Ok (count_text n) (g.K.Sink.held c.args.sink.now) (g.K.Sink.held c.counted.new.sink)
    (HasRisen (g.K.Sink.faults c.args.sink.now) (g.K.Sink.faults c.counted.new.sink)) c.counted.result)
    lines c.counted.ensures.written)

pub returns-in-Err-Bad-clause-written : goal.returns-in-Err-Bad-clause-written
returns-in-Err-Bad-clause-written g c = wrote _ _ _ (of_refusal c.in-Err-Bad.line c.in-Err-Bad.kind (search rules)) c.refused.ensures.written

pub returns-in-Err-OutOfMemory-clause-written : goal.returns-in-Err-OutOfMemory-clause-written
returns-in-Err-OutOfMemory-clause-written g c = wrote_nothing refl
