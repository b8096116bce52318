use Rattle.std.proofs.Common.{◌∷◌, ◌++◌}
use Rattle.hp_hall.specs.Mail.{Posts}
use Rattle.hp_chair.proofs.ChairSteps.{did_these}
use Rattle.hp_chair.proofs.laws.full_law.Goals as goal

pub returns : goal.returns
returns c = λ old new first rest to frame action posted course did.
    course.room (Posts to frame action posted) first rest (did_these old new (first ++ Posts to frame action posted ∷ rest) course did)
