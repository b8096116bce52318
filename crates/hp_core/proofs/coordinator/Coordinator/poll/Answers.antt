-- The readings of the step.
use Rattle.hp_core.specs.Moves.{starts}
use Rattle.hp_core.proofs.StepLemmas.{poll_at}
use Rattle.hp_core.proofs.coordinator.Coordinator.poll.Goals as goal

pub returns-in-Idle-clause-moves : goal.returns-in-Idle-clause-moves
returns-in-Idle-clause-moves g c = starts c.serve.ensures.moves

pub returns-in-Waiting-clause-moves : goal.returns-in-Waiting-clause-moves
returns-in-Waiting-clause-moves g c =
    poll_at c.args.self.now.deadline c.args.self.now.phase c.self.inside.phase c.in-Waiting.round c.in-Waiting.since c.args.now c.args.acks.now
    c.args.segs.now c.poll-next.new.segs c.poll-next.ensures.moves (cc) (cc) c.in-Waiting.is
