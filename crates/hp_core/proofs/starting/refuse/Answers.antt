-- The move is this call.
use Rattle.hp_core.specs.Moves.{refuses}
use Rattle.hp_core.proofs.starting.refuse.Goals as goal

pub returns-clause-moves : goal.returns-clause-moves
returns-clause-moves c = refuses c.args.ask.now c.args.cause c.requires.may c.close_ask.ensures.step
