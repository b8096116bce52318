-- A SYNC was followed.
use Rattle.std.proofs.Common.{◌∙◌, [], ◌∷◌, refl, sym, subst}
use Rattle.hp_hall.proofs.HallStates.{did_same, others_same, parts_same, slots_same}
use Rattle.hp_serve.specs.InHall.{StaysAlone}
use Rattle.hp_serve.specs.Party.{Party}
use Rattle.hp_serve.specs.Serving.{follows, hears, takes_segments}
use Rattle.hp_serve.proofs.InHalls.{alone_of}
use Rattle.hp_serve.proofs.server.Server.handle_member_message.Goals as goal

pub returns-then-is_sync-clause-told : goal.returns-then-is_sync-clause-told
returns-then-is_sync-clause-told g c =
    let followed = c.follow_sync.ensures.followed in (
      takes_segments followed.0 ∷ followed.1,
      followed.2,
      follows followed.0 followed.1 (sym c.is_sync.ensures ∙ c.if-is_sync.true) refl followed.3,
    )

pub returns-clause-told : goal.returns-clause-told
returns-clause-told g c = (
  [],
  did_same c.args.self.now.me (g.H.Hall.state c.args.hall.now),
  hears (sym c.is_sync.ensures ∙ c.if-is_sync.false) refl c.note_result.ensures refl,
)

pub returns-clause-alone : goal.returns-clause-alone
returns-clause-alone g c =
    let me = c.args.self.now.me in
    let old = g.H.Hall.state c.args.hall.now in
    subst (λ (party : Party). StaysAlone me c.args.self.now party old old) (sym c.note_result.ensures)
    (alone_of refl (record { me = refl; socket = refl; plan = refl; deadline = refl }) c.requires.can.tied (slots_same old) (parts_same me old)
    (others_same me old))

pub returns-clause-goes_on : goal.returns-clause-goes_on
returns-clause-goes_on g c = g.met.H.Hall.goes_on_same _
