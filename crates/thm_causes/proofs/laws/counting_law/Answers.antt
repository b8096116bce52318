use Rattle.thm_causes.proofs.CountingLemmas.{doubled_as_planned, lost_as_planned}
use Rattle.thm_causes.proofs.laws.counting_law.Goals as goal

pub returns-clause-loses : goal.returns-clause-loses
returns-clause-loses c = lost_as_planned

pub returns-clause-repeats : goal.returns-clause-repeats
returns-clause-repeats c = doubled_as_planned
