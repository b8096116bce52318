use Rattle.std.proofs.Common.{ℕ, sym, subst, arith}
use Rattle.test_solo.proofs.Callers.{can_stay}
use Rattle.test_solo.proofs.solo_hall.steps.ask.Goals as goal

pub post-requires-clause-serves : goal.post-requires-clause-serves
post-requires-clause-serves g c = subst (λ (n : ℕ). (g.H.Hall.state c.args.hall.now).serves n) (sym c.number-me.ensures) c.requires.can.may.serves

pub post-requires-clause-declared : goal.post-requires-clause-declared
post-requires-clause-declared g c =
    let declared = c.requires.can.may.declared in
    omega (arith, declared)

pub returns : goal.returns
returns g c = record { can = can_stay c.args.party.now c.number-me.ensures c.post.ensures.stays c.requires.can }
