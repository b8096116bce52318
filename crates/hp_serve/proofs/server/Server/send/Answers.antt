-- The ask is posted as the plan has the next one, and the table is tied along.
use Rattle.std.proofs.Common.{◌∙◌, ℕ, ap, arith, [], ◌∷◌, sym, subst}
use Rattle.hp_base.specs.Plans.{action_of}
use Rattle.hp_base.specs.declared.plan_entry.MsgKind.TheVariants.{Alloc}
use Rattle.hp_hall.specs.Mail.{Notes, Posts}
use Rattle.hp_hall.specs.declared.note.Note.TheVariants.{Read}
use Rattle.hp_serve.specs.Frames.{Says}
use Rattle.hp_serve.specs.Party.{Party, one_more}
use Rattle.hp_hall.specs.HallState.{Did, Stays}
use Rattle.hp_hall.proofs.HallStates.{did_then, stays_then}
use Rattle.hp_serve.specs.InHall.{IsTiedIn}
use Rattle.hp_serve.proofs.InHalls.{parts_marks, tied_later}
use Rattle.hp_serve.proofs.server.Server.send.Goals as goal

pub now-requires : goal.now-requires
now-requires g c = record {
  serves = subst (λ (who : ℕ). (g.H.Hall.state c.args.hall.now).serves who) (sym (ap (λ (party : Party). party.me) c.self.view_is)) c.requires.serves;
}

pub post_own-requires-clause-serves : goal.post_own-requires-clause-serves
post_own-requires-clause-serves g c =
    c.now.ensures.stays.others.later.serves c.self.inside.me
    (subst (λ (who : ℕ). (g.H.Hall.state c.args.hall.now).serves who) (sym (ap (λ (party : Party). party.me) c.self.view_is)) c.requires.serves)

pub post_own-requires-clause-some : goal.post_own-requires-clause-some
post_own-requires-clause-some g c =
    let declared = c.requires.me in
    let count = c.now.ensures.stays.others.later.count in
    omega (arith, declared, count)

pub returns-clause-read : goal.returns-clause-read
returns-clause-read g c =
    ap (λ (at : ℕ). g.H.Hall.pending at c.min-since.result) c.post_own.ensures.stays.others.clock
    ∙ c.now.ensures.reached c.min-since.result (omega (arith, c.min-since.ensures))

pub returns-clause-before : goal.returns-clause-before
returns-clause-before g c = λ deadline later few.
    ap (λ (at : ℕ). g.H.Hall.pending at deadline) c.post_own.ensures.stays.others.clock
    ∙ c.now.ensures.before deadline (omega (arith, c.min-since.ensures, later, few))

pub returns-clause-stays : goal.returns-clause-stays
returns-clause-stays g c =
    subst (λ (who : ℕ). Stays who (g.H.Hall.state c.args.hall.now) (g.H.Hall.state c.post_own.new.hall))
    (ap (λ (party : Party). party.me) c.self.view_is) (stays_then c.now.ensures.stays c.post_own.ensures.stays)

pub returns-clause-tied : goal.returns-clause-tied
returns-clause-tied g c =
    let who = c.args.self.now.me in
    let new = g.H.Hall.state c.post_own.new.hall in
    let stays : Stays who (g.H.Hall.state c.args.hall.now) new =
    subst (λ (who : ℕ). Stays who (g.H.Hall.state c.args.hall.now) new) (ap (λ (party : Party). party.me) c.self.view_is)
    (stays_then c.now.ensures.stays c.post_own.ensures.stays) in
    subst (λ (party : Party). IsTiedIn who party new) (sym c.self.view_is)
    (tied_later who c.args.self.now stays.others.later stays.mine.parts.joined stays.mine.own (parts_marks stays.mine.parts) c.requires.tied)

pub returns-clause-goes_on : goal.returns-clause-goes_on
returns-clause-goes_on g c = g.met.H.Hall.goes_on_then _ _ _ c.now.ensures.goes_on c.post_own.ensures.goes_on

pub returns-clause-did : goal.returns-clause-did
returns-clause-did g c =
    let me = c.self.inside.me in
    let old = c.args.hall.now in
    let mid = c.now.new.self in
    let new = c.post_own.new.hall in
    let did = c.post_own.ensures.did in (
      c.now.result,
      did.0,
      did.1,
      c.min-since.ensures,
      subst (Says did.0) c.alloc_body-body.ensures did.2,
      subst (λ (party : Party). Did party.me (Notes (Read c.now.result) ∷ Posts 0 did.0 (action_of party.plan Alloc party.me (one_more party.sent.allocs)) did.1 ∷ []) (g.H.Hall.state old) (g.H.Hall.state new))
          c.self.view_is
          (subst (λ k. Did me (Notes (Read c.now.result) ∷ Posts 0 did.0 (action_of c.self.inside.plan.now Alloc me k) did.1 ∷ []) (g.H.Hall.state old) (g.H.Hall.state new))
          c.one_more-number.ensures
          (did_then
          c.now.ensures.did did.3)),
    )
