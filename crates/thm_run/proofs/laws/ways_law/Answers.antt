use Rattle.thm_run.proofs.AnswersByTold.{answers_by_told}
use Rattle.thm_run.proofs.InTurnByHolds.CallsInHolds.{calls_by_lines}
use Rattle.thm_run.proofs.GrownHeaps.GrowthsAlone.{none_else_for_held}
use Rattle.thm_run.proofs.InTurnByHolds.LinesInHolds.{holds_by_lines, line_in_seat, serves_in_seat, way_by_lines}
use Rattle.thm_run.proofs.laws.ways_law.Goals as goal

pub returns-clause-line : goal.returns-clause-line
returns-clause-line c = line_in_seat

pub returns-clause-serves : goal.returns-clause-serves
returns-clause-serves c = serves_in_seat

pub returns-clause-way : goal.returns-clause-way
returns-clause-way c = way_by_lines

pub returns-clause-holds : goal.returns-clause-holds
returns-clause-holds c = holds_by_lines

pub returns-clause-calls : goal.returns-clause-calls
returns-clause-calls c = calls_by_lines

pub returns-clause-asks : goal.returns-clause-asks
returns-clause-asks c = answers_by_told

pub returns-clause-alone : goal.returns-clause-alone
returns-clause-alone c = none_else_for_held
