use Rattle.std.proofs.Common.{rules}
use Rattle.hp_stats.proofs.CellSteps.{may_deal}
use Rattle.hp_stats.proofs.steps.dealt.Goals as goal

pub split_pass-requires : goal.split_pass-requires
split_pass-requires c = (search rules, (search rules, (search rules, may_deal _ _)))
