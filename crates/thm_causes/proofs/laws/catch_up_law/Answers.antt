use Rattle.thm_causes.proofs.Reasons.{threads_level}
use Rattle.thm_causes.proofs.laws.catch_up_law.Goals as goal

pub returns : goal.returns
returns c = threads_level
