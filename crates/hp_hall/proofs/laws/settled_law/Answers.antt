-- The laws are lemmas.
use Rattle.hp_hall.proofs.AsksOfHalls.KnownAsks.{known_is_settled, settled_is_claimed}
use Rattle.hp_hall.proofs.AsksOfHalls.LogAsks.{log_calls_settle}
use Rattle.hp_hall.proofs.AsksOfHalls.OwnerAsks.{owner_calls_settle}
use Rattle.hp_hall.proofs.AsksOfHalls.RosterAsks.{range_calls_settle, roster_calls_settle}
use Rattle.hp_hall.proofs.laws.settled_law.Goals as goal

pub returns : goal.returns
returns c = record {
  logs = log_calls_settle;
  enrols = roster_calls_settle;
  owns = owner_calls_settle;
  ranges = range_calls_settle;
  known = known_is_settled;
  claimed = settled_is_claimed;
}
