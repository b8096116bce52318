-- By cases on what a serving did.
use Rattle.hp_serve.proofs.ServingLemmas.{serves_so}
use Rattle.hp_serve.proofs.laws.served_law.Goals as goal

pub returns : goal.returns
returns g c = serves_so
