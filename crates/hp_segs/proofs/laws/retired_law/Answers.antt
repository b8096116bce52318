-- The law is a lemma.
use Rattle.hp_segs.proofs.RetiredRuns.GivenUpCalls.{calls_give_up}
use Rattle.hp_segs.proofs.laws.retired_law.Goals as goal

pub returns : goal.returns
returns c = record { calls = calls_give_up }
