use Rattle.std.proofs.Common.{subst}
use Rattle.hp_heap.specs.History.{IsSound}
use Rattle.hp_heap.proofs.HistoryFacts.SoundLemmas.{sound_of}
use Rattle.hp_heap.proofs.body.Body.sound.Goals as goal

pub returns : goal.returns
returns c = subst IsSound c.self.view_is (sound_of c.self.inside c.self.invariant)
