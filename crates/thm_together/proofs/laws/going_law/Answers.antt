use Rattle.thm_together.proofs.OnTheWay.{begins_its_way, line_on_its_way, serves_on_its_way}
use Rattle.thm_together.proofs.laws.going_law.Goals as goal

pub returns-clause-begins : goal.returns-clause-begins
returns-clause-begins c = begins_its_way

pub returns-clause-serves : goal.returns-clause-serves
returns-clause-serves c = serves_on_its_way

pub returns-clause-does_line : goal.returns-clause-does_line
returns-clause-does_line c = line_on_its_way
