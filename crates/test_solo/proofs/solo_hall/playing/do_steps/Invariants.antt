use Rattle.hp_serve.specs.InHall.{CanServe}
use Rattle.test_solo.proofs.solo_hall.playing.do_steps.Given as goal

abbrev pub invariant-loop-place : goal.invariant-loop-place
invariant-loop-place g l = CanServe l.party.me l.party (g.H.Hall.state l.hall)
