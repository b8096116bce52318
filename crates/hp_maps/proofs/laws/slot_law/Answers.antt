-- The lemma of that law.
use Rattle.hp_maps.proofs.LawLemmas.{one_row_a_slot}
use Rattle.hp_maps.proofs.laws.slot_law.Goals as goal

pub returns : goal.returns
returns c = one_row_a_slot
