use Rattle.std.proofs.Common.{ℕ, sym, subst}
use Rattle.test_solo.proofs.Callers.{can_idle}
use Rattle.test_solo.proofs.solo_hall.steps.others.Goals as goal

pub others-requires-clause-serves : goal.others-requires-clause-serves
others-requires-clause-serves g c = subst (λ (n : ℕ). (g.H.Hall.state c.args.hall.now).serves n) (sym c.number.ensures) c.requires.can.may.serves

pub others-requires-clause-free : goal.others-requires-clause-free
others-requires-clause-free g c = c.requires.can.may.free

pub returns : goal.returns
returns g c = record { can = can_idle c.args.party.now c.number.ensures c.others.ensures.idles c.requires.can }
