-- A poll that is due is made, and else nothing is done.
use Rattle.std.proofs.Common.{[], ◌∷◌, refl, subst, arith}
use Rattle.hp_hall.specs.Mail.{Notes}
use Rattle.hp_hall.specs.declared.note.Note.TheVariants.{Read}
use Rattle.hp_serve.specs.Coordinating.{IsPolled, IsRested}
use Rattle.hp_serve.proofs.Scaled.{own_measure_still}
use Rattle.hp_hall.proofs.HallStates.{did_then}
use Rattle.hp_serve.proofs.InHalls.{alone_by, alone_then, coordinates_still}
use Rattle.hp_serve.proofs.server.Server.rest.Goals as goal

pub now-now-requires : goal.now-now-requires
now-now-requires g c = record { serves = c.requires.can.may.serves }

pub poll_due-requires-clause-can : goal.poll_due-requires-clause-can
poll_due-requires-clause-can g c = coordinates_still c.now-now.ensures.stays c.requires.can

pub returns-clause-alone : goal.returns-clause-alone
returns-clause-alone g c = alone_by 0 c.args.self.now c.now-now.ensures.stays c.requires.can.tied

pub returns-then-is_due-clause-alone : goal.returns-then-is_due-clause-alone
returns-then-is_due-clause-alone g c =
    alone_then (alone_by 0 c.args.self.now c.now-now.ensures.stays c.requires.can.tied) c.poll_due.ensures.alone

pub returns-then-is_due-clause-rested : goal.returns-then-is_due-clause-rested
returns-then-is_due-clause-rested g c =
    let now = c.now-now.result in
    let polled = c.poll_due.ensures.polled in
    let count = c.now-now.ensures.stays.others.later.count in
    let read = c.now-now.ensures.did in (
      Notes (Read now) ∷ polled.1,
      did_then read polled.2,
      IsRested.polls now polled.1 polled.0 (c.is_due.ensures.due c.if-is_due.true []) refl
          (subst (λ n. IsPolled (g.J.Judge.denies c.args.judge.now) n now c.args.self.now c.poll_due.new.self polled.1 polled.0) count
          polled.3) polled.4,
    )

pub returns-then-is_due-clause-measure : goal.returns-then-is_due-clause-measure
returns-then-is_due-clause-measure g c =
    let own =
    own_measure_still g.H.Hall.scale g.H.Hall.pending (g.H.Hall.state c.args.hall.now).clock (g.H.Hall.state c.now-now.new.self).clock c.args.self.now.core
    c.now-now.ensures.stays.others.clock
    in
    let lighter = c.now-now.ensures.measure in
    let falls = c.poll_due.ensures.measure in
    omega (arith, own, lighter, falls)

pub returns-then-is_due-clause-rests : goal.returns-then-is_due-clause-rests
returns-then-is_due-clause-rests g c = λ is. absurd (c.poll_due.ensures.moves is)

pub returns-clause-rested : goal.returns-clause-rested
returns-clause-rested g c =
    let now = c.now-now.result in (
      Notes (Read now) ∷ [],
      c.now-now.ensures.did,
      IsRested.rests now (c.is_due.ensures.rests c.if-is_due.false) (c.is_due.ensures.early c.if-is_due.false) refl refl refl,
    )

pub returns-clause-measure : goal.returns-clause-measure
returns-clause-measure g c =
    let own =
    own_measure_still g.H.Hall.scale g.H.Hall.pending (g.H.Hall.state c.args.hall.now).clock (g.H.Hall.state c.now-now.new.self).clock c.args.self.now.core
    c.now-now.ensures.stays.others.clock
    in
    let lighter = c.now-now.ensures.measure in
    omega (arith, own, lighter)

pub returns-clause-rests : goal.returns-clause-rests
returns-clause-rests g c = λ is deadline due early.
    c.now-now.ensures.before deadline (c.is_due.ensures.early c.if-is_due.false deadline due early)

pub returns-then-is_due-clause-goes_on : goal.returns-then-is_due-clause-goes_on
returns-then-is_due-clause-goes_on g c = g.met.H.Hall.goes_on_then _ _ _ c.now-now.ensures.goes_on c.poll_due.ensures.goes_on
