use Rattle.hp_weave.proofs.Interleaving.{together}
use Rattle.hp_weave.proofs.laws.interleaving_law.Goals as goal

pub returns : goal.returns
returns g c = λ first last deeds holds apart. together holds first last deeds apart
