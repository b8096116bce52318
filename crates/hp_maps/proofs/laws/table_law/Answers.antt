-- The lemma of that law.
use Rattle.hp_maps.proofs.TableLaw.{table_law}
use Rattle.hp_maps.proofs.laws.table_law.Goals as goal

pub returns : goal.returns
returns c = λ records n to from within. table_law records n to from within
