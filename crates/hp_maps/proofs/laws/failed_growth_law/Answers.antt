-- The lemma of that law.
use Rattle.hp_maps.proofs.LawLemmas.{failed_brings_nothing}
use Rattle.hp_maps.proofs.laws.failed_growth_law.Goals as goal

pub returns : goal.returns
returns c = failed_brings_nothing
