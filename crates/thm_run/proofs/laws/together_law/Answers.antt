use Rattle.thm_run.proofs.PathSteps.Apart.{come_together}
use Rattle.thm_run.proofs.laws.together_law.Goals as goal

pub returns : goal.returns
returns c = come_together
