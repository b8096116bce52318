use Rattle.test_solo.proofs.Callers.{begins_there, waits_there}
use Rattle.test_solo.proofs.solo_hall.playing.do_line.Goals as goal

pub do_armed-requires-clause-begins : goal.do_armed-requires-clause-begins
do_armed-requires-clause-begins c = begins_there c.args.hall.now c.args.party.now c.requires.may c.requires.begins

pub returns : goal.returns
returns c = record { may = waits_there c.do_armed.new.hall c.do_armed.new.party c.do_armed.ensures.can }
