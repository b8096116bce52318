-- The notice is posted as the plan has the next one, and the table is tied along.
use Rattle.std.proofs.Common.{ℕ, ap, [], ◌∷◌, sym, subst}
use Rattle.hp_base.specs.Plans.{action_of}
use Rattle.hp_base.specs.declared.plan_entry.MsgKind.TheVariants.{Free}
use Rattle.hp_hall.specs.Mail.{Posts}
use Rattle.hp_serve.specs.Asking.{free_body}
use Rattle.hp_serve.specs.Frames.{Says}
use Rattle.hp_serve.specs.Party.{Party, one_more}
use Rattle.hp_hall.specs.HallState.{Did, Stays}
use Rattle.hp_serve.specs.InHall.{IsTiedIn}
use Rattle.hp_serve.proofs.InHalls.{parts_marks, tied_later}
use Rattle.hp_serve.proofs.server.Server.send_notice.Goals as goal

pub post_own-requires-clause-serves : goal.post_own-requires-clause-serves
post_own-requires-clause-serves g c =
    subst (λ (who : ℕ). (g.H.Hall.state c.args.hall.now).serves who) (sym (ap (λ (party : Party). party.me) c.self.view_is)) c.requires.serves

pub returns-clause-stays : goal.returns-clause-stays
returns-clause-stays g c =
    subst (λ (who : ℕ). Stays who (g.H.Hall.state c.args.hall.now) (g.H.Hall.state c.post_own.new.hall))
    (ap (λ (party : Party). party.me) c.self.view_is) c.post_own.ensures.stays

pub returns-clause-tied : goal.returns-clause-tied
returns-clause-tied g c =
    let who = c.args.self.now.me in
    let new = g.H.Hall.state c.post_own.new.hall in
    let stays : Stays who (g.H.Hall.state c.args.hall.now) new =
    subst (λ (who : ℕ). Stays who (g.H.Hall.state c.args.hall.now) new) (ap (λ (party : Party). party.me) c.self.view_is) c.post_own.ensures.stays in
    subst (λ (party : Party). IsTiedIn who party new) (sym c.self.view_is)
    (tied_later who c.args.self.now stays.others.later stays.mine.parts.joined stays.mine.own (parts_marks stays.mine.parts) c.requires.tied)

pub returns-clause-did : goal.returns-clause-did
returns-clause-did g c =
    let me = c.self.inside.me in
    let old = c.args.hall.now in
    let new = c.post_own.new.hall in
    let did = c.post_own.ensures.did in (
      did.0,
      did.1,
      subst (λ (party : Party). Says did.0 (free_body party.me c.args.number c.args.heap c.args.run.now)) c.self.view_is
          (subst (Says did.0) c.free_body-body.ensures did.2),
      subst (λ (party : Party). Did party.me (Posts 0 did.0 (action_of party.plan Free party.me (one_more party.sent.frees)) did.1 ∷ []) (g.H.Hall.state old) (g.H.Hall.state new)) c.self.view_is
          (subst (λ k. Did me (Posts 0 did.0 (action_of c.self.inside.plan.now Free me k) did.1 ∷ []) (g.H.Hall.state old) (g.H.Hall.state new))
          c.one_more-sent.ensures
          did.3),
    )
