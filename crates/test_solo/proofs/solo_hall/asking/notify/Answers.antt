use Rattle.hp_serve.proofs.InHalls.{in_can}
use Rattle.test_solo.proofs.solo_hall.asking.notify.Goals as goal

pub notify-requires : goal.notify-requires
notify-requires g c = record { may_ask = tt; can = c.requires.can }

pub returns : goal.returns
returns g c = record { can = in_can c.notify.ensures.stays c.requires.can }
