-- How a run on threads ends, by what was read and what was written.
use Rattle.std.proofs.Common.{◌≡◌, Bool, false, subst, sym}
use Rattle.hp_base.specs.Streams.{CountsFault}
use Rattle.hp_run.specs.Faults.{is_read_fault}
use Rattle.hp_run.proofs.FaultLemmas.{answered_reads}
use Rattle.hp_run.proofs.OutcomeLemmas.{read_answered, read_settled, threads_tell}
use Rattle.hp_run.proofs.run_call.run_and_report.Goals as goal

pub returns-in-Ok-clause-outcome : goal.returns-in-Ok-clause-outcome
returns-in-Ok-clause-outcome g c =
    read_answered _ _ _ _ _ _ _ _ (threads_tell _) _ _ _ c.in-Ok.ensures.read c.as_slice.ensures.value c.answered.ensures.written

pub returns-in-Ok-clause-settled : goal.returns-in-Ok-clause-settled
returns-in-Ok-clause-settled g c = read_settled _ _ (threads_tell _) _ _ _ _ _ _ _ (returns-in-Ok-clause-outcome g c)

-- what was read was read without a fault, and nothing was read since
pub returns-in-Ok-clause-source_faults : goal.returns-in-Ok-clause-source_faults
returns-in-Ok-clause-source_faults g c =
    let reads : is_read_fault c.answered.result ≡ false = answered_reads _ _ (threads_tell _) _ _ _ _ _ c.answered.ensures.written in
    subst (λ (failed : Bool). CountsFault (g.S.Source.faults c.args.source.now) (g.S.Source.faults c.read_whole.new.source) failed)
    (sym reads) c.in-Ok.ensures.cause
