use Rattle.hp_weave.proofs.Woven.{weaves, woven_told}
use Rattle.hp_weave.proofs.laws.weaving_law.Goals as goal

pub returns-clause-woven : goal.returns-clause-woven
returns-clause-woven g c = λ line participant lines items told. weaves line participant lines items told

pub returns-clause-told : goal.returns-clause-told
returns-clause-told g c = λ told whos items. woven_told told whos items
