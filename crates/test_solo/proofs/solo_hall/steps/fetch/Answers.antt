use Rattle.test_solo.proofs.Callers.{can_stay}
use Rattle.test_solo.proofs.solo_hall.steps.fetch.Goals as goal

pub returns-in-None : goal.returns-in-None
returns-in-None g c = record { can = can_stay c.args.party.now c.number.ensures c.fetch.ensures.stays c.requires.can }

pub returns-in-Some : goal.returns-in-Some
returns-in-Some g c = record { can = can_stay c.args.party.now c.number.ensures c.fetch.ensures.stays c.requires.can }
