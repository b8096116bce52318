-- The laws are lemmas.
use Rattle.hp_maps.proofs.EventFacts.KnowLemmas.{chunks_are_no_news, new_knows}
use Rattle.hp_maps.proofs.laws.known_law.Goals as goal

pub returns : goal.returns
returns c = record { new = new_knows; chunks = chunks_are_no_news }
