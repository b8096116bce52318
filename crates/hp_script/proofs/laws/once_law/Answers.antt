use Rattle.hp_script.proofs.OnceLemmas.{absent_said, placed_said}
use Rattle.hp_script.proofs.laws.once_law.Goals as goal

pub returns : goal.returns
returns c = record { absent = absent_said; socket = placed_said }
