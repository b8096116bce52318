use Rattle.thm_causes.proofs.FailingLemmas.{fails_at_the_growth, notes_a_failure}
use Rattle.thm_causes.proofs.laws.failing_law.Goals as goal

pub returns-clause-fails : goal.returns-clause-fails
returns-clause-fails c = fails_at_the_growth

pub returns-clause-notes : goal.returns-clause-notes
returns-clause-notes c = notes_a_failure
