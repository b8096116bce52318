use Rattle.thm_run.proofs.LineSteps.Known.{so_far_ends}
use Rattle.thm_run.proofs.laws.end_law.Goals as goal

pub returns : goal.returns
returns c = so_far_ends
