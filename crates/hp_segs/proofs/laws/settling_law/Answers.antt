-- The laws are lemmas.
use Rattle.hp_segs.proofs.AskFacts.SettledLaws.{above_is_unsettled, claim_settles, refusal_settles, unclaimed_is_unsettled}
use Rattle.hp_segs.proofs.laws.settling_law.Goals as goal

pub returns : goal.returns
returns c = record {
  refused = refusal_settles;
  claimed = claim_settles;
  unclaimed = unclaimed_is_unsettled;
  above = above_is_unsettled;
}
