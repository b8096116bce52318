-- SYNCs go to members, and a RESULT to its asker.
use Rattle.std.proofs.Common.{refl, sym, subst}
use Rattle.hp_core.specs.declared.out.Out.{Out}
use Rattle.hp_serve.specs.Party.{Party}
use Rattle.hp_serve.specs.Posting.{IsPosted}
use Rattle.hp_serve.proofs.Posted.{posted_syncs, with_syncs}
use Rattle.hp_serve.proofs.InHalls.{alone_same, alone_with}
use Rattle.hp_serve.proofs.server.Server.post_out.Goals as goal

pub tell_all-requires-clause-serves : goal.tell_all-requires-clause-serves
tell_all-requires-clause-serves g c = c.requires.can.may.serves

pub returns-in-Nothing-clause-alone : goal.returns-in-Nothing-clause-alone
returns-in-Nothing-clause-alone g c = alone_same 0 c.args.self.now (g.H.Hall.state c.args.hall.now) c.requires.can.tied

pub returns-in-Sync-clause-alone : goal.returns-in-Sync-clause-alone
returns-in-Sync-clause-alone g c =
    alone_with c.self.view_is (record { me = refl; socket = refl; plan = refl; deadline = refl }) refl refl
    c.tell_all.ensures.stays c.requires.can.tied

pub returns-in-Sync-clause-posted : goal.returns-in-Sync-clause-posted
returns-in-Sync-clause-posted g c =
    let inside : Party = record {
      me = c.self.inside.me;
      socket = c.self.inside.socket;
      joined = c.self.inside.joined;
      maps = c.self.inside.maps;
      listeners = c.self.inside.watchers.listeners;
      plan = c.self.inside.plan.now;
      deadline = c.self.inside.deadline;
      core = c.self.inside.coordinator;
      asked = c.self.inside.asked;
      answered = c.self.inside.answered;
      sent = c.self.inside.sent;
    } in
    let told = c.tell_all.ensures.told in (
      told.1,
      told.2,
      subst
          (λ (party : Party). IsPosted (g.H.Hall.state c.args.hall.now).count party (with_syncs c.tell_all.new.syncs inside) c.args.answer told.1)
          c.self.view_is
          (posted_syncs (g.H.Hall.state c.args.hall.now).count inside (with_syncs c.tell_all.new.syncs inside) c.args.answer c.in-Sync.generation c.in-Sync.round
          c.in-Sync.members told.0 told.1 c.tell_all.new.syncs c.in-Sync.is told.3 told.4 c.tell_all.ensures.counted refl),
    )

pub returns-in-Answer-clause-posted : goal.returns-in-Answer-clause-posted
returns-in-Answer-clause-posted g c =
    let posted = c.post_answer.ensures.posted in (
      posted.0,
      posted.1,
      subst (λ (answer : Out). IsPosted (g.H.Hall.state c.args.hall.now).count c.args.self.now c.post_answer.new.self answer posted.0)
          (sym c.in-Answer.is) posted.2,
    )
