use Rattle.hp_base.proofs.MemoryLemmas.{good_memory, not_bad}
use Rattle.hp_base.proofs.laws.memory_law.Goals as goal

pub returns : goal.returns
returns c addr len page = (good_memory addr len page, not_bad addr len page)
