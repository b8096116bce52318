-- The laws are lemmas.
use Rattle.hp_hall.proofs.StandingFacts.StandingArms.{arm_keeps, withdraw_keeps}
use Rattle.hp_hall.proofs.StandingFacts.StandingAsks.{rest_can_be_claimed}
use Rattle.hp_hall.proofs.laws.arming_law.Goals as goal

pub returns : goal.returns
returns c = record {
  arm = arm_keeps;
  withdraw = withdraw_keeps;
  rest = rest_can_be_claimed;
}
