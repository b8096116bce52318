-- Each log is one of the worked list.
use Rattle.std.proofs.Common.{subst, sym}
use Rattle.hp_log.specs.Places.{IsLogOf}
use Rattle.test_maps.specs.Known.{worked_lists}
use Rattle.test_maps.proofs.Worked.{log_both, log_falling, log_one_at_a_time}
use Rattle.test_maps.proofs.tests.play.play.Goals as goal

pub play_over-requires : goal.play_over-requires
play_over-requires c = subst (IsLogOf worked_lists) (sym c.as_slice.ensures) log_one_at_a_time

pub play_over-requires-in-Both : goal.play_over-requires-in-Both
play_over-requires-in-Both c = subst (IsLogOf worked_lists) (sym c.as_slice-in-Both.ensures) log_both

pub play_over-requires-in-Falling : goal.play_over-requires-in-Falling
play_over-requires-in-Falling c = subst (IsLogOf worked_lists) (sym c.as_slice-in-Falling.ensures) log_falling
