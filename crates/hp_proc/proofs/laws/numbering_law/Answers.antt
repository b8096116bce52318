-- The lemma of that law.
use Rattle.hp_proc.proofs.LawLemmas.{entries_go_on}
use Rattle.hp_proc.proofs.laws.numbering_law.Goals as goal

pub returns : goal.returns
returns c = entries_go_on
