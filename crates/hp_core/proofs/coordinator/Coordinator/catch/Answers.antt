-- The readings of the step.
use Rattle.hp_core.proofs.StepLemmas.{catch_at}
use Rattle.hp_core.proofs.coordinator.Coordinator.catch.Goals as goal

pub returns-clause-moves : goal.returns-clause-moves
returns-clause-moves c =
    catch_at c.args.self.now.deadline c.args.self.now.phase c.self.inside.phase c.in-Mapping.round c.args.now c.args.segs.now c.go_on-next.new.segs
    c.go_on-next.ensures.moves (cc) (cc) c.in-Mapping.is
