-- The lemma of that law.
use Rattle.hp_proc.proofs.Halted.{nothing_halts}
use Rattle.hp_proc.proofs.Makers.{other_made}
use Rattle.hp_proc.proofs.LinesApart.{looking_nameless}
use Rattle.hp_proc.proofs.RegisteredHere.{here_again}
use Rattle.hp_proc.proofs.LinesOrdered.{halts_ordered}
use Rattle.hp_proc.proofs.LawLemmas.{stays_answered}
use Rattle.hp_proc.proofs.laws.answer_law.Goals as goal

pub returns : goal.returns
returns c = stays_answered
