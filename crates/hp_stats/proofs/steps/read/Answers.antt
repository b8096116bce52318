use Rattle.std.proofs.Common.{rules}
use Rattle.hp_stats.proofs.CellSteps.{may_read}
use Rattle.hp_stats.proofs.steps.read.Goals as goal

pub load_as-requires : goal.load_as-requires
load_as-requires g c = (search rules, (search rules, (search rules, may_read _ _)))
