-- A frame that says nothing is dropped.
use Rattle.std.proofs.Common.{◌+◌, ◌*◌, [], refl, arith}
use Rattle.hp_hall.specs.Measures.{frame_measure}
use Rattle.hp_serve.specs.Coordinating.{IsFrameHandled}
use Rattle.hp_serve.specs.Falling.{own_measure}
use Rattle.hp_serve.proofs.Scaled.{frame_served}
use Rattle.hp_hall.proofs.HallStates.{did_same}
use Rattle.hp_serve.proofs.InHalls.{alone_same}
use Rattle.hp_serve.proofs.server.Server.handle_frame.Goals as goal

pub returns-in-None-clause-alone : goal.returns-in-None-clause-alone
returns-in-None-clause-alone g c = alone_same 0 c.args.self.now (g.H.Hall.state c.args.hall.now) c.requires.can.tied

pub returns-in-None-clause-obeyed : goal.returns-in-None-clause-obeyed
returns-in-None-clause-obeyed g c = ([], did_same 0 _, IsFrameHandled.drops c.in-None.ensures refl refl refl)

pub returns-in-None-clause-measure : goal.returns-in-None-clause-measure
returns-in-None-clause-measure g c =
    let old = (g.H.Hall.state c.args.hall.now).measure in
    let own = own_measure g.H.Hall.scale (g.H.Hall.pending (g.H.Hall.state c.args.hall.now).clock) c.args.self.now.core in
    let paid =
    frame_served g.H.Hall.scale (old + g.H.Hall.scale * frame_measure c.args.frame.now) old old own own c.args.frame.now (omega arith) (omega arith)
    in
    omega (arith, paid)
