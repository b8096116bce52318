use Rattle.hp_script.proofs.DrawnFacts.GeneratedLemmas.{generated_read, generated_short}
use Rattle.hp_script.proofs.laws.generated_law.Goals as goal

pub returns : goal.returns
returns c = record { read = generated_read; short = generated_short }
