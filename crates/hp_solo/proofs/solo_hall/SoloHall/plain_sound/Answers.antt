-- What holds of the plain values holds of them as they are seen.
use Rattle.std.proofs.Common.{subst}
use Rattle.hp_plain.specs.HallView.{IsHall}
use Rattle.hp_solo.specs.Solo.{SoloView}
use Rattle.hp_solo.proofs.solo_hall.SoloHall.plain_sound.Goals as goal

pub returns : goal.returns
returns g c = subst (λ (hall : SoloView). IsHall hall.plain) c.self.view_is c.sound.ensures
