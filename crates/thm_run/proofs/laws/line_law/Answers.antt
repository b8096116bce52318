use Rattle.thm_run.proofs.LineSteps.Onward.{so_far_line}
use Rattle.thm_run.proofs.RunFacts.Opens.{so_far_opens}
use Rattle.thm_run.proofs.LineSteps.Resting.{so_far_rests}
use Rattle.thm_run.proofs.laws.line_law.Goals as goal

pub returns-clause-opens : goal.returns-clause-opens
returns-clause-opens c = so_far_opens

pub returns-clause-goes_on : goal.returns-clause-goes_on
returns-clause-goes_on c = so_far_line

pub returns-clause-rests : goal.returns-clause-rests
returns-clause-rests c = so_far_rests
