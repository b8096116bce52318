use Rattle.thm_causes.proofs.Reasons.{threads_lines_in_time, threads_rest_in_time}
use Rattle.thm_causes.proofs.laws.in_time_law.Goals as goal

pub returns-clause-lines : goal.returns-clause-lines
returns-clause-lines c = threads_lines_in_time

pub returns-clause-rests : goal.returns-clause-rests
returns-clause-rests c = threads_rest_in_time
