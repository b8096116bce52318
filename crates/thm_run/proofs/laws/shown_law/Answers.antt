use Rattle.thm_run.proofs.LineSteps.Onward.{shown_line}
use Rattle.thm_run.proofs.LineSteps.Resting.{shown_rest}
use Rattle.thm_run.proofs.SeenAndShown.ShownOn.{shown_open}
use Rattle.thm_run.proofs.laws.shown_law.Goals as goal

pub returns-clause-opens : goal.returns-clause-opens
returns-clause-opens c = shown_open

pub returns-clause-goes_on : goal.returns-clause-goes_on
returns-clause-goes_on c = shown_line

pub returns-clause-rests : goal.returns-clause-rests
returns-clause-rests c = shown_rest
