use Rattle.thm_causes.proofs.Owing.NonesForWant.{refusals_are_for_want}
use Rattle.thm_causes.proofs.Owing.NonesInVain.{nones_are_in_vain}
use Rattle.thm_causes.proofs.laws.none_law.Goals as goal

pub returns-clause-nothing_found : goal.returns-clause-nothing_found
returns-clause-nothing_found c = nones_are_in_vain

pub returns-clause-exhausted : goal.returns-clause-exhausted
returns-clause-exhausted c = refusals_are_for_want
