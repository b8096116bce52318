use Rattle.hp_serve.proofs.InHalls.{in_can}
use Rattle.test_board.proofs.tests.chair.serving.serve.Goals as goal

pub returns : goal.returns
returns g c = record { can = in_can c.serve.ensures.alone.stays c.requires.can }
