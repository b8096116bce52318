-- The lemma of that law.
use Rattle.hp_maps.proofs.PlannedLemmas.{fails_by_plan}
use Rattle.hp_maps.proofs.laws.planned_law.Goals as goal

pub returns : goal.returns
returns c plan party other_may_fail = fails_by_plan plan party other_may_fail
