-- The laws are lemmas.
use Rattle.hp_hall.proofs.AsksOfHalls.LogAsks.{held_is_alone, log_gives_leave}
use Rattle.hp_hall.proofs.AsksOfHalls.OwnerAsks.{owner_gives_leave}
use Rattle.hp_hall.proofs.AsksOfHalls.RosterAsks.{range_gives_leave, roster_gives_leave}
use Rattle.hp_hall.proofs.laws.pending_law.Goals as goal

pub returns : goal.returns
returns c = record {
  logs = log_gives_leave;
  enrols = roster_gives_leave;
  owns = owner_gives_leave;
  ranges = range_gives_leave;
  alone = held_is_alone;
}
