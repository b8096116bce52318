use Rattle.thm_run.proofs.HandingOpens.{judged_open}
use Rattle.thm_run.proofs.JudgedGrowths.JudgedOn.{judged_goes_on}
use Rattle.thm_run.proofs.JudgedGrowths.Moments.{judged_rests}
use Rattle.thm_run.proofs.laws.judged_law.Goals as goal

pub returns-clause-opens : goal.returns-clause-opens
returns-clause-opens c = judged_open

pub returns-clause-goes_on : goal.returns-clause-goes_on
returns-clause-goes_on c = judged_goes_on

pub returns-clause-rests : goal.returns-clause-rests
returns-clause-rests c = judged_rests
