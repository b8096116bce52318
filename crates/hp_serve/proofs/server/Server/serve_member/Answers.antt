-- The frame was fetched, and then heeded.
use Rattle.std.proofs.Common.{ℕ, true, false, [], ◌∷◌, Some, refl, ap, sym, subst}
use Rattle.hp_hall.specs.Mail.{Fetches}
use Rattle.hp_serve.specs.Party.{Party}
use Rattle.hp_serve.specs.Serving.{IsDispatched, heeds}
use Rattle.hp_hall.specs.HallState.{Did, Stays}
use Rattle.hp_hall.proofs.HallStates.{did_then}
use Rattle.hp_serve.proofs.InHalls.{alone_by, alone_then, can_still}
use Rattle.hp_serve.proofs.server.Server.serve_member.Goals as goal

pub fetch-requires : goal.fetch-requires
fetch-requires g c =
    let me = ap (λ (party : Party). party.me) c.self.view_is in
    record { serves = subst (λ (who : ℕ). (g.H.Hall.state c.args.hall.now).serves who) (sym me) c.requires.can.may.serves }

pub dispatch-requires : goal.dispatch-requires
dispatch-requires g c =
    let me = ap (λ (party : Party). party.me) c.self.view_is in
    let stays : Stays c.args.self.now.me (g.H.Hall.state c.args.hall.now) (g.H.Hall.state c.fetch.new.self) =
    subst (λ (who : ℕ). Stays who (g.H.Hall.state c.args.hall.now) (g.H.Hall.state c.fetch.new.self)) me c.in-Some.ensures.stays in
    record { can = can_still stays c.requires.can }

pub returns-then-dispatch-clause-served : goal.returns-then-dispatch-clause-served
returns-then-dispatch-clause-served g c =
    let me = ap (λ (party : Party). party.me) c.self.view_is in
    let frame = c.in-Some.frame in
    let heeded = c.dispatch.ensures.heeded in (
      Fetches (Some frame) ∷ heeded.0,
      did_then
          (subst (λ who. Did who (Fetches (Some frame) ∷ []) (g.H.Hall.state c.args.hall.now) (g.H.Hall.state c.fetch.new.self)) me c.in-Some.ensures.did)
          heeded.1,
      heeds frame heeded.0 true refl
          (subst (λ goes. IsDispatched c.args.self.now c.dispatch.new.self frame heeded.0 goes) c.if-dispatch.true heeded.2) refl,
    )

pub returns-else-dispatch-clause-served : goal.returns-else-dispatch-clause-served
returns-else-dispatch-clause-served g c =
    let me = ap (λ (party : Party). party.me) c.self.view_is in
    let frame = c.in-Some.frame in
    let heeded = c.dispatch.ensures.heeded in (
      Fetches (Some frame) ∷ heeded.0,
      did_then
          (subst (λ who. Did who (Fetches (Some frame) ∷ []) (g.H.Hall.state c.args.hall.now) (g.H.Hall.state c.fetch.new.self)) me c.in-Some.ensures.did)
          heeded.1,
      heeds frame heeded.0 false refl
          (subst (λ goes. IsDispatched c.args.self.now c.dispatch.new.self frame heeded.0 goes) c.if-dispatch.false heeded.2) refl,
    )

pub returns-then-dispatch-clause-alone : goal.returns-then-dispatch-clause-alone
returns-then-dispatch-clause-alone g c =
    let me = ap (λ (party : Party). party.me) c.self.view_is in
    let stays : Stays c.args.self.now.me (g.H.Hall.state c.args.hall.now) (g.H.Hall.state c.fetch.new.self) =
    subst (λ (who : ℕ). Stays who (g.H.Hall.state c.args.hall.now) (g.H.Hall.state c.fetch.new.self)) me c.in-Some.ensures.stays in
    alone_then (alone_by c.args.self.now.me c.args.self.now stays c.requires.can.tied) c.dispatch.ensures.alone

pub returns-else-dispatch-clause-alone : goal.returns-else-dispatch-clause-alone
returns-else-dispatch-clause-alone g c =
    let me = ap (λ (party : Party). party.me) c.self.view_is in
    let stays : Stays c.args.self.now.me (g.H.Hall.state c.args.hall.now) (g.H.Hall.state c.fetch.new.self) =
    subst (λ (who : ℕ). Stays who (g.H.Hall.state c.args.hall.now) (g.H.Hall.state c.fetch.new.self)) me c.in-Some.ensures.stays in
    alone_then (alone_by c.args.self.now.me c.args.self.now stays c.requires.can.tied) c.dispatch.ensures.alone

pub returns-in_default-clause-alone : goal.returns-in_default-clause-alone
returns-in_default-clause-alone g c =
    let me = ap (λ (party : Party). party.me) c.self.view_is in
    let stays : Stays c.args.self.now.me (g.H.Hall.state c.args.hall.now) (g.H.Hall.state c.fetch.new.self) =
    subst (λ (who : ℕ). Stays who (g.H.Hall.state c.args.hall.now) (g.H.Hall.state c.fetch.new.self)) me c.fetch.ensures.stays in
    alone_by c.args.self.now.me c.args.self.now stays c.requires.can.tied
