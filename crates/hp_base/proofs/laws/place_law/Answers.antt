use Rattle.hp_base.proofs.Places.{place_of-is-place}
use Rattle.hp_base.proofs.laws.place_law.Goals as goal

pub returns : goal.returns
returns c start end request = place_of-is-place start end request
