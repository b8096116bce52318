use Rattle.hp_serve.proofs.AskingFacts.AskedAlong.{if_ok}
use Rattle.test_solo.proofs.SoloOpened.{may_begin}
use Rattle.test_solo.proofs.solo_hall.opening.hall_of_two.Goals as goal

pub returns-clause-begins : goal.returns-clause-begins
returns-clause-begins c = if_ok _ _ c.opened_hall.result (λ hall is who. may_begin hall.plain who is) c.opened_hall.ensures.opening
