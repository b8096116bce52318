use Rattle.thm_run.proofs.FailuresNamed.FailureLaws.{so_far_fails, so_far_fails_once}
use Rattle.thm_run.proofs.laws.failure_law.Goals as goal

pub returns-clause-fails : goal.returns-clause-fails
returns-clause-fails c = so_far_fails

pub returns-clause-once : goal.returns-clause-once
returns-clause-once c = so_far_fails_once
