use Rattle.hp_heap.proofs.HistoryFacts.FrontsLaw.{calls_keep_sound}
use Rattle.hp_heap.proofs.laws.sound_law.Goals as goal

pub returns : goal.returns
returns c = calls_keep_sound
