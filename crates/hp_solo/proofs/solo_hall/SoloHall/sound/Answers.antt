-- What holds of the hall holds of it as it is seen.
use Rattle.std.proofs.Common.{subst}
use Rattle.hp_solo.specs.Solo.{IsSolo}
use Rattle.hp_solo.proofs.solo_hall.SoloHall.sound.Goals as goal

pub returns : goal.returns
returns g c = subst IsSolo c.self.view_is c.self.invariant
