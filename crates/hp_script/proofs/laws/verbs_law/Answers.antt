use Rattle.hp_script.proofs.LawLemmas.{word_named, verb_read}
use Rattle.hp_script.proofs.laws.verbs_law.Goals as goal

pub returns : goal.returns
returns c = record { word = word_named; read = verb_read }
