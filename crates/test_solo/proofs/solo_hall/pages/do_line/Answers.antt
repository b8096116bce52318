use Rattle.test_solo.proofs.Callers.{begins_there, waits_there}
use Rattle.test_solo.proofs.solo_hall.pages.do_line.Goals as goal

pub came_of-requires : goal.came_of-requires
came_of-requires c = record { begins = begins_there c.args.hall.now c.args.party.now c.requires.may c.requires.begins }

pub returns : goal.returns
returns c = record { may = waits_there c.came_of.new.hall c.came_of.new.party c.came_of.ensures.can }
