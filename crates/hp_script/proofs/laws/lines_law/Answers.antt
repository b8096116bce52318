use Rattle.std.proofs.Common.{refl}
use Rattle.hp_script.specs.Text.{lines_of}
use Rattle.hp_script.proofs.LawLemmas.{lines_more}
use Rattle.hp_script.proofs.laws.lines_law.Goals as goal

pub returns : goal.returns
unfolding lines_of
returns c = record { whole = λ bytes. refl; more = lines_more }
