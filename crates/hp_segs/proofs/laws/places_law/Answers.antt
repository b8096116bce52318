-- The laws are lemmas.
use Rattle.hp_segs.proofs.SlotFacts.PlaceLemmas.{lists_are_apart, overlap_is_lowest, slots_are_apart}
use Rattle.hp_segs.proofs.laws.places_law.Goals as goal

pub returns : goal.returns
returns c = record {
  lists = lists_are_apart;
  slots = slots_are_apart;
  overlap = overlap_is_lowest;
}
