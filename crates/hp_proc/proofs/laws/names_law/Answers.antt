-- The lemmas of that law.
use Rattle.hp_proc.proofs.NamesFollow.{handed_sockets, names_follow}
use Rattle.hp_proc.proofs.laws.names_law.Goals as goal

pub returns-clause-follow : goal.returns-clause-follow
returns-clause-follow c = names_follow

pub returns-clause-sockets : goal.returns-clause-sockets
returns-clause-sockets c = handed_sockets
