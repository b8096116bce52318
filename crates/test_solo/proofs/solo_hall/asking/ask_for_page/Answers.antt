use Rattle.test_solo.proofs.Callers.{can_remain}
use Rattle.test_solo.proofs.solo_hall.asking.ask_for_page.Goals as goal

pub ask-requires-clause-can : goal.ask-requires-clause-can
ask-requires-clause-can g c = c.requires.may.can

pub returns-clause-can : goal.returns-clause-can
returns-clause-can g c = can_remain c.ask.ensures.remains c.requires.may.can
