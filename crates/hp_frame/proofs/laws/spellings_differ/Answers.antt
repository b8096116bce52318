use Rattle.hp_frame.proofs.SpellingLemmas.{same_message}
use Rattle.hp_frame.proofs.laws.spellings_differ.Goals as goal

pub returns : goal.returns
returns c = same_message
