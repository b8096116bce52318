-- The laws are lemmas.
use Rattle.hp_maps.proofs.EventFacts.BytesLaw.{tells_bytes, tells_the_end}
use Rattle.hp_maps.proofs.laws.bytes_law.Goals as goal

pub returns : goal.returns
returns c = record { catch_up = tells_bytes; end = tells_the_end }
