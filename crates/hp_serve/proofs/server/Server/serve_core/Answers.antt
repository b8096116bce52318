-- It heeds the frame that it fetched, or rests.
use Rattle.std.proofs.Common.{◌∷◌, refl, subst, arith}
use Rattle.std.specs.Prelude.{Some, None}
use Rattle.std.specs.Result.{result_ok}
use Rattle.hp_hall.specs.Mail.{Fetches}
use Rattle.hp_serve.specs.Coordinating.{IsCoreServed, IsFrameHandled, IsRested}
use Rattle.hp_serve.proofs.Scaled.{own_measure_still}
use Rattle.hp_hall.proofs.HallStates.{did_then}
use Rattle.hp_serve.proofs.InHalls.{alone_by, alone_then, coordinates_still}
use Rattle.hp_serve.proofs.server.Server.serve_core.Goals as goal

pub fetch-requires : goal.fetch-requires
fetch-requires g c = record { serves = c.requires.can.may.serves }

pub dispatch_frame-requires : goal.dispatch_frame-requires
dispatch_frame-requires g c = record { may_ask = c.requires.may_ask; can = coordinates_still c.in-Some.ensures.stays c.requires.can }

pub rest-requires : goal.rest-requires
rest-requires g c = record { may_ask = c.requires.may_ask; can = coordinates_still c.in-None.ensures.stays c.requires.can }

pub returns-in-Some-clause-alone : goal.returns-in-Some-clause-alone
returns-in-Some-clause-alone g c =
    alone_then (alone_by 0 c.args.self.now c.in-Some.ensures.stays c.requires.can.tied) c.dispatch_frame.ensures.alone

pub returns-in-None-clause-alone : goal.returns-in-None-clause-alone
returns-in-None-clause-alone g c =
    alone_then (alone_by 0 c.args.self.now c.in-None.ensures.stays c.requires.can.tied) c.rest.ensures.alone

pub returns-in-Some-clause-served : goal.returns-in-Some-clause-served
returns-in-Some-clause-served g c =
    let obeyed = c.dispatch_frame.ensures.obeyed in (
      Fetches (Some c.in-Some.frame) ∷ obeyed.1,
      did_then c.in-Some.ensures.did obeyed.2,
      IsCoreServed.heeds c.in-Some.frame obeyed.1 obeyed.0 refl
          (subst (λ n. IsFrameHandled (g.J.Judge.denies c.args.judge.now) n c.args.self.now c.dispatch_frame.new.self c.in-Some.frame obeyed.1
          obeyed.0) c.in-Some.ensures.stays.others.later.count obeyed.3) obeyed.4,
    )

pub returns-in-Some-clause-measure : goal.returns-in-Some-clause-measure
returns-in-Some-clause-measure g c =
    let own =
    own_measure_still g.H.Hall.scale g.H.Hall.pending (g.H.Hall.state c.args.hall.now).clock (g.H.Hall.state c.fetch.new.self).clock c.args.self.now.core
    c.in-Some.ensures.stays.others.clock
    in
    let fetched = c.in-Some.ensures.measure in
    let heeded = c.dispatch_frame.ensures.measure in
    omega (arith, own, fetched, heeded)

pub returns-in-Some-clause-rests : goal.returns-in-Some-clause-rests
returns-in-Some-clause-rests g c = λ is. absurd (c.dispatch_frame.ensures.moves is)

pub returns-in-None-clause-served : goal.returns-in-None-clause-served
returns-in-None-clause-served g c =
    let rested = c.rest.ensures.rested in (
      Fetches None ∷ rested.0,
      did_then c.in-None.ensures.did rested.1,
      IsCoreServed.rests rested.0 refl
          (subst (λ n. IsRested (g.J.Judge.denies c.args.judge.now) n c.args.self.now c.rest.new.self rested.0
          (result_ok c.rest.result)) c.in-None.ensures.stays.others.later.count rested.2),
    )

pub returns-in-None-clause-measure : goal.returns-in-None-clause-measure
returns-in-None-clause-measure g c =
    let own =
    own_measure_still g.H.Hall.scale g.H.Hall.pending (g.H.Hall.state c.args.hall.now).clock (g.H.Hall.state c.fetch.new.self).clock c.args.self.now.core
    c.in-None.ensures.stays.others.clock
    in
    let fetched = c.in-None.ensures.measure in
    let rested = c.rest.ensures.measure in
    omega (arith, own, fetched, rested)

pub returns-in-Some-clause-goes_on : goal.returns-in-Some-clause-goes_on
returns-in-Some-clause-goes_on g c = g.met.H.Hall.goes_on_then _ _ _ c.in-Some.ensures.goes_on c.dispatch_frame.ensures.goes_on

pub returns-in-None-clause-goes_on : goal.returns-in-None-clause-goes_on
returns-in-None-clause-goes_on g c = g.met.H.Hall.goes_on_then _ _ _ c.in-None.ensures.goes_on c.rest.ensures.goes_on
