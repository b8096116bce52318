use Rattle.thm_run.proofs.InTurnByHolds.AnswersByHolds.{answers_by_holds}
use Rattle.thm_run.proofs.InTurnByHolds.HeldAlone.{none_grows_for_held}
use Rattle.thm_run.proofs.InTurnByHolds.HoldsOn.{holds_go_on}
use Rattle.thm_run.proofs.InTurnByHolds.NoneByHolds.{none_by_holds}
use Rattle.thm_run.proofs.InTurnByHolds.OutcomesByHolds.{outcomes_by_holds}
use Rattle.thm_run.proofs.InTurnByHolds.SeenByHolds.{sees_by_holds}
use Rattle.thm_run.proofs.InTurnByHolds.TurnsByHolds.{turns_by_holds}
use Rattle.thm_run.proofs.laws.holds_law.Goals as goal

pub returns-clause-goes_on : goal.returns-clause-goes_on
returns-clause-goes_on c = holds_go_on

pub returns-clause-seen : goal.returns-clause-seen
returns-clause-seen c = sees_by_holds

pub returns-clause-asks : goal.returns-clause-asks
returns-clause-asks c = answers_by_holds

pub returns-clause-outcomes : goal.returns-clause-outcomes
returns-clause-outcomes c = outcomes_by_holds

pub returns-clause-in_turn : goal.returns-clause-in_turn
returns-clause-in_turn c = turns_by_holds

pub returns-clause-none : goal.returns-clause-none
returns-clause-none c = none_by_holds

pub returns-clause-alone : goal.returns-clause-alone
returns-clause-alone c = none_grows_for_held
