-- The lemma of that law.
use Rattle.hp_maps.proofs.LawLemmas.{log_apart}
use Rattle.hp_maps.proofs.laws.apart_law.Goals as goal

pub returns : goal.returns
returns c = log_apart
