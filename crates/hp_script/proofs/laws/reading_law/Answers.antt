use Rattle.hp_script.proofs.LawLemmas.{read_joined}
use Rattle.hp_script.proofs.laws.reading_law.Goals as goal

pub returns : goal.returns
returns c = read_joined
