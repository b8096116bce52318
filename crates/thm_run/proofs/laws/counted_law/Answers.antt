use Rattle.thm_run.proofs.CountedReads.CountedOn.{counted_goes_on}
use Rattle.thm_run.proofs.HandingOpens.{counted_open}
use Rattle.thm_run.proofs.laws.counted_law.Goals as goal

pub returns-clause-opens : goal.returns-clause-opens
returns-clause-opens c = counted_open

pub returns-clause-goes_on : goal.returns-clause-goes_on
returns-clause-goes_on c = counted_goes_on
