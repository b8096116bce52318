use Rattle.thm_run.proofs.FailuresNamed.FailureLaws.{so_far_refuses, so_far_refuses_once}
use Rattle.thm_run.proofs.laws.refusal_law.Goals as goal

pub returns-clause-fails : goal.returns-clause-fails
returns-clause-fails c = so_far_refuses

pub returns-clause-once : goal.returns-clause-once
returns-clause-once c = so_far_refuses_once
