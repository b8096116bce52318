use Rattle.thm_run.proofs.RunFacts.EndsByRun.{ends_by_run}
use Rattle.thm_run.proofs.PathSteps.RunsTogether.{run_together}
use Rattle.thm_run.proofs.laws.runs_law.Goals as goal

pub returns-clause-runs : goal.returns-clause-runs
returns-clause-runs c = run_together

pub returns-clause-ends : goal.returns-clause-ends
returns-clause-ends c = ends_by_run
