-- The laws are lemmas.
use Rattle.hp_segs.proofs.GrowthSteps.ArmedGrowth.{calls_leave_armed}
use Rattle.hp_segs.proofs.SlotFacts.PlacedGrants.{grants_have_place, open_has_place}
use Rattle.hp_segs.proofs.laws.growths_law.Goals as goal

pub returns : goal.returns
returns c = record {
  opened = open_has_place;
  grants = grants_have_place;
  armed = calls_leave_armed;
}
