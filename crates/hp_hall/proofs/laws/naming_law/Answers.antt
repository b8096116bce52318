-- The laws are lemmas.
use Rattle.hp_hall.proofs.LeavesNaming.{calls_leave_names}
use Rattle.hp_hall.proofs.MarksLeft.{calls_mark_alone}
use Rattle.hp_hall.proofs.laws.naming_law.Goals as goal

pub returns : goal.returns
returns c = record { leaves = calls_leave_names; marks = calls_mark_alone }
