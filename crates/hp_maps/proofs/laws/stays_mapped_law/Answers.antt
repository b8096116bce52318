-- The lemma of that law.
use Rattle.hp_maps.proofs.StayLemmas.{stays_mapped}
use Rattle.hp_maps.proofs.laws.stays_mapped_law.Goals as goal

pub returns : goal.returns
returns c = stays_mapped
