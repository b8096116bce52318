-- Each event is handed to its method.
use Rattle.std.proofs.Common.{sym, subst}
use Rattle.hp_core.specs.Moves.{IsCoreMove, acks_of, starts, times_of}
use Rattle.hp_core.proofs.coordinator.Coordinator.take.Goals as goal

pub returns-in-Grow-clause-moves : goal.returns-in-Grow-clause-moves
returns-in-Grow-clause-moves g c = starts c.come.ensures.moves

pub returns-in-Shrink-clause-moves : goal.returns-in-Shrink-clause-moves
returns-in-Shrink-clause-moves g c = starts c.come-in-Shrink.ensures.moves

pub returns-in-SelfMapped-clause-moves : goal.returns-in-SelfMapped-clause-moves
returns-in-SelfMapped-clause-moves g c =
    subst (λ event. IsCoreMove (times_of c.args.self.now.deadline c.args.self.now.phase event) (acks_of event) c.args.segs.now c.catch.new.segs)
    (sym c.in-SelfMapped.is) c.catch.ensures.moves

pub returns-in-Poll-clause-moves : goal.returns-in-Poll-clause-moves
returns-in-Poll-clause-moves g c =
    subst (λ event. IsCoreMove (times_of c.args.self.now.deadline c.args.self.now.phase event) (acks_of event) c.args.segs.now c.poll.new.segs)
    (sym c.in-Poll.is) c.poll.ensures.moves
