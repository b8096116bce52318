-- Participant 0 serves with its coordinator, and each other as a member.
use Rattle.std.proofs.Common.{◌≡◌, ◌∙◌, ℕ, ap, sym, subst, eqb-true, eq-eqb, true, false, arith, mul-le-mul_left}
use Rattle.hp_serve.specs.Coordinating.{IsServed}
use Rattle.hp_serve.specs.Falling.{own_measure}
use Rattle.hp_serve.specs.Party.{Party, due_in}
use Rattle.hp_serve.proofs.Scaled.{own_measure_still}
use Rattle.hp_serve.proofs.Served.{none_due, served_moved}
use Rattle.hp_hall.specs.HallState.{Did}
use Rattle.hp_serve.specs.InHall.{CanServe, StaysAlone}
use Rattle.hp_serve.proofs.server.Server.serve.Goals as goal

pub serve_core-requires : goal.serve_core-requires
serve_core-requires g c =
    let me = eqb-true c.args.self.now.me 0 (sym c.is_primary.ensures.primary ∙ c.if-is_primary.true) in
    let can : CanServe 0 c.args.self.now (g.H.Hall.state c.args.hall.now) =
    subst (λ (who : ℕ). CanServe who c.args.self.now (g.H.Hall.state c.args.hall.now)) me c.requires.can in
    record { may_ask = c.requires.may_ask; can = record { primary = me; may = can.may; tied = can.tied } }

pub returns-then-is_primary-clause-alone : goal.returns-then-is_primary-clause-alone
returns-then-is_primary-clause-alone g c =
    subst (λ (who : ℕ). StaysAlone who c.args.self.now c.serve_core.new.self (g.H.Hall.state c.args.hall.now) (g.H.Hall.state c.serve_core.new.hall))
    (sym (eqb-true c.args.self.now.me 0 (sym c.is_primary.ensures.primary ∙ c.if-is_primary.true))) c.serve_core.ensures.alone

pub returns-then-is_primary-clause-served : goal.returns-then-is_primary-clause-served
returns-then-is_primary-clause-served g c =
    let me = eqb-true c.args.self.now.me 0 (sym c.is_primary.ensures.primary ∙ c.if-is_primary.true) in
    let served = c.serve_core.ensures.served in (
      served.0,
      subst (λ (who : ℕ). Did who served.0 (g.H.Hall.state c.args.hall.now) (g.H.Hall.state c.serve_core.new.hall)) (sym me) served.1,
      IsServed.coordinates me served.2,
    )

pub returns-else-is_primary-clause-served : goal.returns-else-is_primary-clause-served
returns-else-is_primary-clause-served g c =
    let served = c.serve_member.ensures.served in (
      served.0,
      served.1,
      IsServed.follows
          (λ me. differs (sym (eq-eqb c.args.self.now.me 0 me) ∙ sym c.is_primary.ensures.primary ∙ c.if-is_primary.false)) served.2,
    )
  where
    differs : true ≡ false → ⊥
    differs same = cc

pub returns-else-is_primary-clause-measure : goal.returns-else-is_primary-clause-measure
returns-else-is_primary-clause-measure g c =
    let core =
    ap (λ (party : Party). own_measure g.H.Hall.scale (g.H.Hall.pending (g.H.Hall.state c.serve_member.new.hall).clock) party.core)
    c.serve_member.ensures.party
    in
    let clock =
    own_measure_still g.H.Hall.scale g.H.Hall.pending (g.H.Hall.state c.args.hall.now).clock (g.H.Hall.state c.serve_member.new.hall).clock
    c.args.self.now.core c.serve_member.ensures.alone.others.clock
    in
    let moved = mul-le-mul_left g.H.Hall.scale (served_moved c.serve_member.result) in
    let falls = c.serve_member.ensures.measure in
    omega (arith, core, clock, moved, falls)

pub returns-else-is_primary-clause-rests : goal.returns-else-is_primary-clause-rests
returns-else-is_primary-clause-rests g c = λ is deadline due early.
    absurd (none_due deadline
    (c.is_primary.ensures.other c.if-is_primary.false) (sym (ap (λ (party : Party). due_in party.core) c.serve_member.ensures.party) ∙ due))
