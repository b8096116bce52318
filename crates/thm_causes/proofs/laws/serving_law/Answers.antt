use Rattle.thm_causes.proofs.CoreServings.{coordinates}
use Rattle.thm_causes.proofs.MemberSteps.MemberServings.{members_serve}
use Rattle.thm_causes.proofs.laws.serving_law.Goals as goal

pub returns-clause-members : goal.returns-clause-members
returns-clause-members g c = members_serve

pub returns-clause-coordinates : goal.returns-clause-coordinates
returns-clause-coordinates g c = coordinates _
