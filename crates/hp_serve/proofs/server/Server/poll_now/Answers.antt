-- The clock is read, and a poll is made.
use Rattle.std.proofs.Common.{subst, arith}
use Rattle.std.specs.Prelude.{is_ok}
use Rattle.hp_serve.specs.Coordinating.{IsPolled}
use Rattle.hp_serve.proofs.Scaled.{own_measure_still}
use Rattle.hp_hall.proofs.HallStates.{did_then}
use Rattle.hp_serve.proofs.InHalls.{alone_by, alone_then, coordinates_still}
use Rattle.hp_serve.proofs.server.Server.poll_now.Goals as goal

pub now-now-requires : goal.now-now-requires
now-now-requires g c = record { serves = c.requires.can.may.serves }

pub poll-requires : goal.poll-requires
poll-requires g c = record { may_ask = c.requires.may_ask; can = coordinates_still c.now-now.ensures.stays c.requires.can }

pub returns-clause-alone : goal.returns-clause-alone
returns-clause-alone g c = alone_then (alone_by 0 c.args.self.now c.now-now.ensures.stays c.requires.can.tied) c.poll.ensures.alone

pub returns-clause-polled : goal.returns-clause-polled
returns-clause-polled g c =
    let now = c.now-now.result in
    let polled = c.poll.ensures.polled in
    let count = c.now-now.ensures.stays.others.later.count in
    let read = c.now-now.ensures.did in (
      now,
      polled.0,
      did_then read polled.1,
      subst (λ n. IsPolled (g.J.Judge.denies c.args.judge.now) n now c.args.self.now c.poll.new.self polled.0 (is_ok c.poll.result))
          count polled.2,
    )

pub returns-clause-measure : goal.returns-clause-measure
returns-clause-measure g c =
    let own =
    own_measure_still g.H.Hall.scale g.H.Hall.pending (g.H.Hall.state c.args.hall.now).clock (g.H.Hall.state c.now-now.new.self).clock c.args.self.now.core
    c.now-now.ensures.stays.others.clock
    in
    let lighter = c.now-now.ensures.measure in
    let falls = c.poll.ensures.measure in
    omega (arith, own, lighter, falls)

pub returns-clause-goes_on : goal.returns-clause-goes_on
returns-clause-goes_on g c = g.met.H.Hall.goes_on_then _ _ _ c.now-now.ensures.goes_on c.poll.ensures.goes_on
