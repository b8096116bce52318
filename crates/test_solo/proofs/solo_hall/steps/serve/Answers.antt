use Rattle.hp_serve.proofs.InHalls.{in_can}
use Rattle.test_solo.proofs.solo_hall.steps.serve.Goals as goal

pub serve-requires : goal.serve-requires
serve-requires g c = record { may_ask = tt; can = c.requires.can }

pub returns : goal.returns
returns g c = record { can = in_can c.serve.ensures.alone.stays c.requires.can }
