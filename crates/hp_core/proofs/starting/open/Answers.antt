-- The move is this call.
use Rattle.hp_core.specs.Moves.{opens}
use Rattle.hp_core.proofs.starting.open.Goals as goal

pub returns-clause-moves : goal.returns-clause-moves
returns-clause-moves c = opens c.args.ask.now c.args.run.now c.requires.may c.open_run.ensures.step
