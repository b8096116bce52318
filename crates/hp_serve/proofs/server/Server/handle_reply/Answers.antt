-- What it hears changes nothing but whether its ask was answered.
use Rattle.std.proofs.Common.{◌∙◌, [], refl, ap, sym, subst, arith}
use Rattle.hp_serve.specs.Coordinating.{IsAnswered}
use Rattle.hp_serve.specs.Falling.{own_measure}
use Rattle.hp_hall.proofs.HallStates.{did_same, others_same, parts_same, slots_same}
use Rattle.hp_serve.specs.InHall.{StaysAlone}
use Rattle.hp_serve.specs.Party.{Party}
use Rattle.hp_serve.proofs.InHalls.{alone_of}
use Rattle.hp_serve.proofs.server.Server.handle_reply.Goals as goal

pub returns-clause-answered : goal.returns-clause-answered
returns-clause-answered g c = (
  [],
  did_same 0 _,
  IsAnswered.hears (sym c.is_sync_reply.ensures ∙ c.if-is_sync_reply.false) refl c.note_result.ensures refl,
)

pub returns-clause-measure : goal.returns-clause-measure
returns-clause-measure g c =
    let own =
    ap (λ (party : Party). own_measure g.H.Hall.scale (g.H.Hall.pending (g.H.Hall.state c.args.hall.now).clock) party.core) c.note_result.ensures
    in
    omega (arith, own)

pub returns-clause-alone : goal.returns-clause-alone
returns-clause-alone g c =
    subst (λ (party : Party). StaysAlone 0 c.args.self.now party (g.H.Hall.state c.args.hall.now) (g.H.Hall.state c.args.hall.now)) (sym c.note_result.ensures)
    (alone_of refl (record { me = refl; socket = refl; plan = refl; deadline = refl }) c.requires.can.tied
    (slots_same (g.H.Hall.state c.args.hall.now)) (parts_same 0 (g.H.Hall.state c.args.hall.now)) (others_same 0 (g.H.Hall.state c.args.hall.now)))
