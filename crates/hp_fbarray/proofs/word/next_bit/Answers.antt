use Rattle.std.proofs.Common.{arith}
use Rattle.hp_fbarray.proofs.BitLemmas.{IsNextBit-none, IsNextBit-first}
use Rattle.hp_fbarray.proofs.word.next_bit.Goals as goal

pub returns-then-rest-eq0 : goal.returns-then-rest-eq0
returns-then-rest-eq0 c = IsNextBit-none _ _ _ _ c.requires c.ones_at.ensures c.if-rest-eq0.true

pub returns-else-rest-eq0 : goal.returns-else-rest-eq0
returns-else-rest-eq0 c =
    IsNextBit-first _ _ _ _ c.requires c.ones_at.type_inv c.ones_at.ensures (omega arith)
