use Rattle.std.proofs.Common.{ℕ, sym, subst}
use Rattle.test_solo.proofs.Callers.{can_stay}
use Rattle.test_solo.proofs.solo_hall.steps.read.Goals as goal

pub now-requires : goal.now-requires
now-requires g c = record {
  serves = subst (λ (n : ℕ). (g.H.Hall.state c.args.hall.now).serves n) (sym c.number.ensures) c.requires.can.may.serves;
}

pub returns-clause-can : goal.returns-clause-can
returns-clause-can g c = can_stay c.args.party.now c.number.ensures c.now.ensures.stays c.requires.can
