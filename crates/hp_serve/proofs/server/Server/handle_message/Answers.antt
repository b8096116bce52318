-- An ask is handed over, and pays for what it brings.
use Rattle.std.proofs.Common.{◌+◌, ◌*◌, subst, arith}
use Rattle.hp_hall.specs.HallState.{known_to}
use Rattle.hp_hall.specs.Measures.{frame_measure}
use Rattle.hp_serve.specs.Coordinating.{IsAskIn, IsNoAsk, IsFrameHandled}
use Rattle.hp_serve.specs.Falling.{own_measure}
use Rattle.hp_serve.proofs.Scaled.{ask_served, frame_served}
use Rattle.hp_serve.proofs.Served.{ask_outside, ask_true}
use Rattle.hp_serve.proofs.server.Server.handle_message.Goals as goal

pub ask_in-requires : goal.ask_in-requires
ask_in-requires g c = c.requires.says.has_spelling.valid.fields

pub handle-requires-clause-outside : goal.handle-requires-clause-outside
handle-requires-clause-outside g c = ask_outside c.participants-count.result c.args.body.now c.in-Some.event c.in-Some.ensures.ask

pub handle-requires-clause-known : goal.handle-requires-clause-known
handle-requires-clause-known g c =
    ask_true (known_to 0 (g.H.Hall.state c.args.hall.now)).noted 0 c.participants-count.result c.args.body.now c.in-Some.event c.in-Some.ensures.ask

pub returns-in-Some-clause-obeyed : goal.returns-in-Some-clause-obeyed
returns-in-Some-clause-obeyed g c =
    let handled = c.handle.ensures.handled in (
      handled.0,
      handled.1,
      IsFrameHandled.asks c.args.body.now c.in-Some.event c.requires.says
          (subst (λ n. IsAskIn n c.args.body.now c.in-Some.event) c.participants-count.ensures c.in-Some.ensures.ask) handled.2,
    )

pub returns-in-Some-clause-measure : goal.returns-in-Some-clause-measure
returns-in-Some-clause-measure g c =
    let old = (g.H.Hall.state c.args.hall.now).measure in
    let new = (g.H.Hall.state c.handle.new.hall).measure in
    let own = own_measure g.H.Hall.scale (g.H.Hall.pending (g.H.Hall.state c.args.hall.now).clock) c.args.self.now.core in
    let own_then = own_measure g.H.Hall.scale (g.H.Hall.pending (g.H.Hall.state c.handle.new.hall).clock) c.handle.new.self.core in
    let paid =
    ask_served g.H.Hall.scale (old + g.H.Hall.scale * frame_measure c.args.frame.now) old new own own_then c.participants-count.result
    c.args.frame.now c.args.body.now c.in-Some.event c.requires.says c.in-Some.ensures.ask (omega arith) c.handle.ensures.measure
    in
    omega (arith, paid)

pub returns-in-None-clause-obeyed : goal.returns-in-None-clause-obeyed
returns-in-None-clause-obeyed g c =
    let answered = c.handle_reply.ensures.answered in (
      answered.0,
      answered.1,
      IsFrameHandled.others c.args.body.now c.requires.says
          (subst (λ n. IsNoAsk n c.args.body.now) c.participants-count.ensures c.in-None.ensures.ask) answered.2,
    )

pub returns-in-None-clause-measure : goal.returns-in-None-clause-measure
returns-in-None-clause-measure g c =
    let old = (g.H.Hall.state c.args.hall.now).measure in
    let new = (g.H.Hall.state c.handle_reply.new.hall).measure in
    let own = own_measure g.H.Hall.scale (g.H.Hall.pending (g.H.Hall.state c.args.hall.now).clock) c.args.self.now.core in
    let own_then = own_measure g.H.Hall.scale (g.H.Hall.pending (g.H.Hall.state c.handle_reply.new.hall).clock) c.handle_reply.new.self.core in
    let paid =
    frame_served g.H.Hall.scale (old + g.H.Hall.scale * frame_measure c.args.frame.now) old new own own_then c.args.frame.now (omega arith)
    c.handle_reply.ensures.measure
    in
    omega (arith, paid)
