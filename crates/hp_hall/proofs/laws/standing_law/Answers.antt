-- The laws are lemmas.
use Rattle.hp_hall.proofs.StandingFacts.StandingMoves.{log_calls_leave, notes_leave, owner_calls_leave, range_calls_leave, roster_calls_leave}
use Rattle.hp_hall.proofs.laws.standing_law.Goals as goal

pub returns : goal.returns
returns c = record {
  logged = log_calls_leave;
  roster = roster_calls_leave;
  ranges = range_calls_leave;
  noted = notes_leave;
  owners = owner_calls_leave;
}
