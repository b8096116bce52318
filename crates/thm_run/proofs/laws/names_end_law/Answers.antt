use Rattle.thm_run.proofs.NamesEnd.EndOfNames.{names_end_so}
use Rattle.thm_run.proofs.laws.names_end_law.Goals as goal

pub returns : goal.returns
returns c = names_end_so
