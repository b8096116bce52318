-- The laws are lemmas.
use Rattle.hp_core.proofs.AnsweredSteps.{steps_answer_armed}
use Rattle.hp_core.proofs.ArmedSteps.{steps_leave_armed}
use Rattle.hp_core.proofs.GivingLemmas.{catches_note}
use Rattle.hp_core.proofs.GivingSteps.{steps_give}
use Rattle.hp_core.proofs.laws.giving_law.Goals as goal

pub returns : goal.returns
returns c = record { caught = catches_note; steps = steps_give; armed = steps_leave_armed; answered = steps_answer_armed }
