use Rattle.std.proofs.Common.{ℕ, sym, subst, arith}
use Rattle.test_solo.proofs.Callers.{can_stay}
use Rattle.test_solo.proofs.solo_hall.steps.load.Goals as goal

pub load_ack-requires-clause-serves : goal.load_ack-requires-clause-serves
load_ack-requires-clause-serves g c = subst (λ (n : ℕ). (g.H.Hall.state c.args.hall.now).serves n) (sym c.number.ensures) c.requires.can.may.serves

pub load_ack-requires-clause-declared : goal.load_ack-requires-clause-declared
load_ack-requires-clause-declared g c =
    let declared = c.requires.can.may.declared in
    let who = c.requires.who in
    omega (arith, declared, who)

pub returns : goal.returns
returns g c = record { can = can_stay c.args.party.now c.number.ensures c.load_ack.ensures.stays c.requires.can }
