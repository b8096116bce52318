-- The law is a lemma.
use Rattle.hp_segs.proofs.GrowthSteps.ClaimedOrder.{claimed_in_order}
use Rattle.hp_segs.proofs.laws.claimed_law.Goals as goal

pub returns : goal.returns
returns c = record { order = claimed_in_order }
