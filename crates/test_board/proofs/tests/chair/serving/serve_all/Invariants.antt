use Rattle.hp_serve.specs.InHall.{CanServe}
use Rattle.test_board.proofs.tests.chair.serving.serve_all.Given as goal

abbrev pub invariant-loop : goal.invariant-loop
invariant-loop g l = CanServe l.party.me l.party (g.H.Hall.state l.hall)
