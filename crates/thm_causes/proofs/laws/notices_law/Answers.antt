use Rattle.thm_causes.proofs.Reasons.{threads_notices}
use Rattle.thm_causes.proofs.laws.notices_law.Goals as goal

pub returns : goal.returns
returns c = threads_notices
