-- The laws are lemmas.
use Rattle.hp_hall.proofs.AsksOfHalls.ClaimPuts.{claim_puts}
use Rattle.hp_hall.proofs.StandingFacts.StandingBrings.{claim_brings}
use Rattle.hp_hall.proofs.StandingFacts.StandingClaims.{claim_leaves_others}
use Rattle.hp_hall.proofs.StandingFacts.StandingCuts.{retire_takes_pages}
use Rattle.hp_hall.proofs.StandingFacts.StandingGrowths.{claimed_can_grow}
use Rattle.hp_hall.proofs.StandingFacts.StandingRetires.{retire_leaves_others, retire_takes_rows}
use Rattle.hp_hall.proofs.laws.holding_law.Goals as goal

pub returns : goal.returns
returns c = record {
  claim_others = claim_leaves_others;
  claim_puts = claim_puts;
  claim = claim_brings;
  claimed_run = claimed_can_grow;
  retire_others = retire_leaves_others;
  retire_rows = retire_takes_rows;
  retire = retire_takes_pages;
}
