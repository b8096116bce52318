-- Its mappers go to other threads.
use denote.Param.Send.{sendable}
use Rattle.hp_run.proofs.Crossing.{mapper_send}
use Rattle.test_run.proofs.tests.threads.casting.ran.Goals as goal

pub ended_on_threads-requires-send-M : goal.ended_on_threads-requires-send-M
ended_on_threads-requires-send-M g c κs within = search (sendable, mapper_send) depth 60
