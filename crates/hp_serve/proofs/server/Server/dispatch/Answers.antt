-- The frame says what was minded, and weighs more than what that brings.
use Rattle.std.proofs.Common.{[], refl, if◌then◌else◌}
use Rattle.hp_hall.specs.Measures.{frame_measure}
use Rattle.hp_hall.proofs.HallStates.{did_same}
use Rattle.hp_serve.specs.Serving.{drops, is_sync, tells}
use Rattle.hp_serve.proofs.InHalls.{alone_same}
use Rattle.hp_serve.proofs.MemberLemmas.{falls_by, weighs_more}
use Rattle.hp_serve.proofs.server.Server.dispatch.Goals as goal

pub returns-in-Some-clause-heeded : goal.returns-in-Some-clause-heeded
returns-in-Some-clause-heeded g c =
    let told = c.handle_member_message.ensures.told in
    (told.0, told.1, tells c.in-Some.body c.in-Some.ensures told.2)

pub returns-in-Some-clause-measure : goal.returns-in-Some-clause-measure
returns-in-Some-clause-measure g c =
    falls_by g.H.Hall.scale (if is_sync c.in-Some.body then 2 else 0) (frame_measure c.args.frame.now) (g.H.Hall.state c.args.hall.now).measure
    (g.H.Hall.state c.handle_member_message.new.hall).measure (weighs_more c.args.frame.now c.in-Some.body c.in-Some.ensures) c.handle_member_message.ensures.measure

pub returns-in-None-clause-alone : goal.returns-in-None-clause-alone
returns-in-None-clause-alone g c = alone_same c.args.self.now.me c.args.self.now (g.H.Hall.state c.args.hall.now) c.requires.can.tied

pub returns-in-None-clause-heeded : goal.returns-in-None-clause-heeded
returns-in-None-clause-heeded g c =
    ([], did_same c.args.self.now.me (g.H.Hall.state c.args.hall.now), drops c.in-None.ensures refl refl refl)

pub returns-in-None-clause-goes_on : goal.returns-in-None-clause-goes_on
returns-in-None-clause-goes_on g c = g.met.H.Hall.goes_on_same _
