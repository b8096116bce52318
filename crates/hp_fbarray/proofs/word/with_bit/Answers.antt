use Rattle.hp_fbarray.proofs.BitLemmas.{SetsBit-or, SetsBit-and}
use Rattle.hp_fbarray.proofs.word.with_bit.Goals as goal

pub returns-then-used : goal.returns-then-used
returns-then-used c = rw c.if-used.true (SetsBit-or _ _ c.requires)

pub returns-else-used : goal.returns-else-used
returns-else-used c = rw c.if-used.false (SetsBit-and _ _ c.requires)
