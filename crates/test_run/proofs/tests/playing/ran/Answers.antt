-- Its mappers may go to other threads.
use denote.Param.Send.{sendable}
use Rattle.hp_run.proofs.Crossing.{mapper_send}
use Rattle.test_run.proofs.tests.playing.ran.Goals as goal

pub top-status-requires-send-M : goal.top-status-requires-send-M
top-status-requires-send-M g c κs within = search (sendable, mapper_send) depth 60
