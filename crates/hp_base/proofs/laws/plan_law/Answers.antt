use Rattle.hp_base.proofs.PlannedMapping.{plans_mapping_by}
use Rattle.hp_base.proofs.laws.plan_law.Goals as goal

pub returns : goal.returns
returns c plan party call = plans_mapping_by plan party call
