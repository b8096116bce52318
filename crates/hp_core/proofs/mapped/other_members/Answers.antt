-- The lowest bit is that of participant 0.
use Rattle.std.proofs.Common.{◌-◌, ◌%◌, ap, ◌∙◌}
use Rattle.hp_core.proofs.StepLemmas.{bits_without_first}
use Rattle.hp_core.proofs.mapped.other_members.Goals as goal

pub returns : goal.returns
returns c = ap (λ n. n - n % 2) c.roster-members.ensures ∙ bits_without_first c.args.segs.now.roster
