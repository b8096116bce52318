use Rattle.thm_causes.proofs.Reasons.{threads_reasons}
use Rattle.thm_causes.proofs.laws.timeouts_law.Goals as goal

pub returns : goal.returns
returns c = threads_reasons
