-- The lemma of that law.
use Rattle.hp_proc.proofs.LawLemmas.{leads_on}
use Rattle.hp_proc.proofs.laws.leading_law.Goals as goal

pub returns : goal.returns
returns c = leads_on
