-- The laws are lemmas.
use Rattle.hp_core.proofs.AddLemmas.{adds_exactly, denials_are_judged, lates_are_late}
use Rattle.hp_core.proofs.MoveLemmas.{moves_are_moved, moves_are_steps}
use Rattle.hp_core.proofs.JudgedLemmas.{judged_of_plans, plans_are_judged}
use Rattle.hp_core.proofs.laws.core_law.Goals as goal

pub returns : goal.returns
returns c = record {
  steps = moves_are_steps;
  moved = moves_are_moved;
  late = lates_are_late;
  adds = adds_exactly;
  denied = denials_are_judged;
  judged = judged_of_plans;
  asked = plans_are_judged;
}
