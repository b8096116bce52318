-- The lemma of that law.
use Rattle.hp_maps.specs.Events.{joins_by}
use Rattle.hp_maps.proofs.LawLemmas.{fall_into_stretches}
use Rattle.hp_maps.proofs.laws.stretch_law.Goals as goal

pub returns : goal.returns
returns c = λ kind rows. fall_into_stretches (joins_by kind) rows
