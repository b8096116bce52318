use Rattle.hp_chain.proofs.Walks.{has_one_order}
use Rattle.hp_chain.proofs.EditLemmas.{}
use Rattle.hp_chain.proofs.laws.order_law.Goals as goal

pub returns : goal.returns
returns g c = λ at xs n spelled within. has_one_order at xs n spelled within
