use Rattle.hp_serve.proofs.InHalls.{in_can}
use Rattle.test_solo.proofs.solo_hall.steps.turn_until.Goals as goal

pub turn-requires-clause-can : goal.turn-requires-clause-can
turn-requires-clause-can g c = c.requires.can

pub returns : goal.returns
returns g c = record { can = in_can c.turn.ensures.stays c.requires.can }
