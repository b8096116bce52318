-- The lemma of that law.
use Rattle.hp_proc.proofs.Continued.{goes_on_from}
use Rattle.hp_proc.proofs.laws.continuing_law.Goals as goal

pub returns : goal.returns
returns c = goes_on_from
