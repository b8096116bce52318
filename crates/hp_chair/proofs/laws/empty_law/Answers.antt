use Rattle.std.proofs.Common.{◌∷◌, ◌++◌, None}
use Rattle.hp_hall.specs.Mail.{Fetches}
use Rattle.hp_chair.proofs.ChairSteps.{did_these}
use Rattle.hp_chair.proofs.laws.empty_law.Goals as goal

pub returns : goal.returns
returns c = λ old new first rest course did. course.vain first rest (did_these old new (first ++ Fetches None ∷ rest) course did)
