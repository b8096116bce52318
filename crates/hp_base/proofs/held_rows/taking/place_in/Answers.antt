-- Its slot is not below that of place 0.
use Rattle.hp_base.proofs.HeldRunLemmas.{its_place}
use Rattle.hp_base.proofs.held_rows.taking.place_in.Goals as goal

pub overflow_sub-row : goal.overflow_sub-row
overflow_sub-row c = (its_place c.args.row.now c.args.run.now c.requires).above
