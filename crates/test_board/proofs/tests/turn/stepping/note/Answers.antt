use Rattle.test_board.proofs.PlayLemmas.{noted_caught, noted_none}
use Rattle.test_board.proofs.tests.turn.stepping.note.Goals as goal

pub returns-in_default : goal.returns-in_default
returns-in_default c = noted_none c.args.segs.now

pub returns : goal.returns
returns c = noted_caught c.args.segs.now c.follow.new.segs c.args.who c.in-Some.caught c.requires.member c.follow.ensures.step
