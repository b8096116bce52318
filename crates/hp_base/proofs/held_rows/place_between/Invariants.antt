-- None of the runs so far has it.
use Rattle.hp_base.specs.HeldRows.{IsNotBetween}
use Rattle.hp_base.proofs.held_rows.place_between.Given as goal

abbrev pub invariant-loop-at : goal.invariant-loop-at
invariant-loop-at l = IsNotBetween l.row l.runs l.from l.at
