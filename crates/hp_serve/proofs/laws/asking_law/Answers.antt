-- By cases on what a serving did.
use Rattle.hp_serve.proofs.AskingFacts.AskedLemmas.{asked_served}
use Rattle.hp_serve.proofs.laws.asking_law.Goals as goal

pub returns : goal.returns
returns g c = asked_served
