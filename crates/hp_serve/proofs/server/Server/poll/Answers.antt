-- The numbers are loaded, and handed over.
use Rattle.std.proofs.Common.{◌++◌, refl, subst, arith}
use Rattle.std.specs.Prelude.{is_ok}
use Rattle.hp_core.specs.declared.event.CoreEvent.TheVariants.{Poll}
use Rattle.hp_serve.specs.Coordinating.{IsHandled}
use Rattle.hp_serve.specs.Falling.{own_measure}
use Rattle.hp_serve.proofs.Carrying.{due_before}
use Rattle.hp_serve.proofs.Scaled.{own_measure_still}
use Rattle.hp_hall.proofs.HallStates.{did_then}
use Rattle.hp_serve.proofs.InHalls.{alone_by, alone_then, coordinates_still}
use Rattle.hp_serve.proofs.server.Server.poll.Goals as goal

pub load_acks-acks-requires : goal.load_acks-acks-requires
load_acks-acks-requires g c = record { serves = c.requires.can.may.serves }

pub handle-requires-clause-can : goal.handle-requires-clause-can
handle-requires-clause-can g c = coordinates_still c.load_acks-acks.ensures.stays c.requires.can

pub returns-clause-alone : goal.returns-clause-alone
returns-clause-alone g c =
    alone_then (alone_by 0 c.args.self.now c.load_acks-acks.ensures.stays c.requires.can.tied) c.handle.ensures.alone

pub returns-clause-polled : goal.returns-clause-polled
returns-clause-polled g c =
    let looked = c.load_acks-acks.ensures.did in
    let handled = c.handle.ensures.handled in (
      looked.0 ++ handled.0,
      did_then looked.1 handled.1,
      record {
        acks = c.load_acks-acks.result;
        looks = looked.0;
        more = handled.0;
        looked_up = looked.2;
        handled = subst
            (λ n. IsHandled (g.J.Judge.denies c.args.judge.now) n
            (Poll c.args.now c.load_acks-acks.result) c.args.self.now c.handle.new.self handled.0 (is_ok c.handle.result))
            c.load_acks-acks.ensures.stays.others.later.count handled.2;
        are = refl;
      },
    )

pub returns-clause-measure : goal.returns-clause-measure
returns-clause-measure g c =
    let own =
    own_measure_still g.H.Hall.scale g.H.Hall.pending (g.H.Hall.state c.args.hall.now).clock (g.H.Hall.state c.load_acks-acks.new.hall).clock c.args.self.now.core
    c.load_acks-acks.ensures.stays.others.clock
    in
    let lighter = c.load_acks-acks.ensures.measure in
    let falls = c.handle.ensures.measure in
    omega (arith, own, lighter, falls)

pub returns-clause-due : goal.returns-clause-due
returns-clause-due g c = λ due.
    due_before c.handle.result g.H.Hall.scale g.H.Hall.pending (g.H.Hall.state c.args.hall.now).clock (g.H.Hall.state c.load_acks-acks.new.hall).clock
    c.args.self.now.core (g.H.Hall.state c.args.hall.now).measure (g.H.Hall.state c.load_acks-acks.new.hall).measure (g.H.Hall.state c.handle.new.hall).measure
    (own_measure g.H.Hall.scale (g.H.Hall.pending (g.H.Hall.state c.handle.new.hall).clock) c.handle.new.self.core) c.load_acks-acks.ensures.stays.others.clock
    c.load_acks-acks.ensures.measure (c.handle.ensures.due (due c.load_acks-acks.result))

pub returns-clause-goes_on : goal.returns-clause-goes_on
returns-clause-goes_on g c = g.met.H.Hall.goes_on_then _ _ _ c.load_acks-acks.ensures.goes_on c.handle.ensures.goes_on
