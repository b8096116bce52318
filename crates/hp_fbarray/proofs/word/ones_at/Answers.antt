use Rattle.hp_fbarray.proofs.BitLemmas.{HasOnesAt-not}
use Rattle.hp_fbarray.proofs.word.ones_at.Goals as goal

pub returns-else-used : goal.returns-else-used
returns-else-used c = rw c.if-used.false (HasOnesAt-not _ c.ranges.word.fits)
