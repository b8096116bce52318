-- The lemma of that law.
use Rattle.hp_maps.proofs.StayLemmas.{few_events}
use Rattle.hp_maps.proofs.laws.few_events_law.Goals as goal

pub returns : goal.returns
returns c = few_events
