use Rattle.hp_elem.proofs.SplitLaw.{join_undoes_split}
use Rattle.hp_elem.proofs.laws.split_law.Goals as goal

pub returns : goal.returns
returns c = join_undoes_split
