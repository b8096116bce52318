-- The lemmas of that law.
use Rattle.hp_proc.proofs.FoundZones.{looking_agrees, releases_agree}
use Rattle.hp_proc.proofs.LeastData.{data_agree, members_agree}
use Rattle.hp_proc.proofs.MadeHeaps.{making_agrees}
use Rattle.hp_proc.proofs.MeantHeaps.{meanings_agree}
use Rattle.hp_proc.proofs.Plans.{claims_agree, plans_agree}
use Rattle.hp_proc.proofs.Reservations.{reservations_agree}
use Rattle.hp_proc.proofs.laws.judging_law.Goals as goal

pub returns-clause-reservations : goal.returns-clause-reservations
returns-clause-reservations c zones text len options = reservations_agree zones text len options

pub returns-clause-memzones : goal.returns-clause-memzones
returns-clause-memzones c zones text = looking_agrees zones text

pub returns-clause-making : goal.returns-clause-making
returns-clause-making c text plain long = making_agrees plain text long

pub returns-clause-meanings : goal.returns-clause-meanings
returns-clause-meanings c text plain long = meanings_agree plain text long

pub returns-clause-addresses : goal.returns-clause-addresses
returns-clause-addresses c by chunk heap = data_agree by chunk heap

pub returns-clause-members : goal.returns-clause-members
returns-clause-members c chunk = members_agree chunk

pub returns-clause-plans : goal.returns-clause-plans
returns-clause-plans c = plans_agree

pub returns-clause-claims : goal.returns-clause-claims
returns-clause-claims c = (claims_agree, releases_agree)
