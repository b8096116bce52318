-- A RESULT goes to an asker that the hall has.
use Rattle.std.proofs.Common.{◌<◌, [], ◌∷◌, refl, subst, arith}
use Rattle.std.specs.Prelude.{if◌then◌else◌}
use Rattle.hp_base.specs.Plans.{action_of}
use Rattle.hp_base.specs.declared.plan_entry.MsgKind.TheVariants as message
use Rattle.hp_core.specs.declared.out.Out.TheVariants as out
use Rattle.hp_frame.specs.declared.message.Body.{Body}
use Rattle.hp_hall.specs.Mail.{Posts}
use Rattle.hp_serve.specs.Frames.{Says}
use Rattle.hp_serve.specs.Party.{Party, one_more}
use Rattle.hp_serve.specs.Posting.{IsPosted, times_sent}
use Rattle.hp_hall.proofs.HallStates.{did_same}
use Rattle.hp_serve.proofs.InHalls.{alone_same, alone_with}
use Rattle.hp_serve.proofs.Posted.{is_an_asker, nobody_asked, past_all, past_count, posted_answer, with_answers}
use Rattle.hp_serve.proofs.Scaled.{result_posted}
use Rattle.hp_serve.proofs.server.Server.post_answer.Goals as goal
use Rattle.hp_serve.proofs.server.Server.post_answer.Goals.{then-to-count-via-then-to-count, then-to-count-via-else-to-count+then-to-ge16}

pub post_next-requires-clause-serves : goal.post_next-requires-clause-serves
post_next-requires-clause-serves g c = c.requires.can.may.serves

pub returns-then-to-count-clause-alone : goal.returns-then-to-count-clause-alone
returns-then-to-count-clause-alone g c = alone_same 0 c.args.self.now (g.H.Hall.state c.args.hall.now) c.requires.can.tied

pub returns-then-to-count-clause-posted : goal.returns-then-to-count-clause-posted
returns-then-to-count-clause-posted g c =
    let count = c.participants-count.ensures in
    let hall = c.args.hall.now in (
      [],
      did_same 0 _,
      nobody_asked (g.H.Hall.state hall).count c.args.self.now c.args.to c.args.number c.args.what c.args.good
          (elim c.then-to-count.branch [
            | then-to-count-via-then-to-count w ↦
                let past = w.if-to-count.true in
                past_count (g.H.Hall.state hall).count c.args.to (omega (arith, past, count))
            | then-to-count-via-else-to-count+then-to-ge16 w ↦
                let past = w.if-to-ge16.true in
                past_all (g.H.Hall.state hall).count c.args.to (omega (arith, past))
          ]),
    )

pub returns-clause-posted : goal.returns-clause-posted
returns-clause-posted g c =
    let inside : Party = record {
      me = c.self.inside.me;
      socket = c.self.inside.socket;
      joined = c.self.inside.joined;
      maps = c.self.inside.maps;
      listeners = c.self.inside.watchers.listeners;
      plan = c.self.inside.plan.now;
      deadline = c.self.inside.deadline;
      core = c.self.inside.coordinator;
      asked = c.self.inside.asked;
      answered = c.self.inside.answered;
      sent = c.self.inside.sent;
    } in
    let posted = c.post_next.ensures.posted in
    let below : c.args.to < (g.H.Hall.state c.args.hall.now).count =
    (let less = c.if-to-count.false in
    let count = c.participants-count.ensures in
    omega (arith, less, count)) in
    let few : c.args.to < 16 = omega arith in
    let says = subst (λ (body : Body). Says c.framed-frame.result body) c.result_of.ensures c.framed-frame.ensures in (
      Posts c.args.to c.framed-frame.result
          (action_of c.self.inside.plan.now message.Answer c.args.to (one_more (times_sent c.self.inside.sent.answers c.args.to))) posted.0 ∷ [],
      posted.1,
      subst
          (λ (party : Party). IsPosted (g.H.Hall.state c.args.hall.now).count party (with_answers c.post_next.new.counts inside)
          (out.Answer c.args.to c.args.number c.args.what c.args.good)
          (Posts c.args.to c.framed-frame.result
          (action_of c.self.inside.plan.now message.Answer c.args.to (one_more (times_sent c.self.inside.sent.answers c.args.to))) posted.0 ∷ []))
          c.self.view_is
          (posted_answer (g.H.Hall.state c.args.hall.now).count inside (with_answers c.post_next.new.counts inside) c.args.to c.args.number c.args.what
          c.args.good c.framed-frame.result posted.0 c.post_next.new.counts (is_an_asker (g.H.Hall.state c.args.hall.now).count c.args.to below few) says
          c.post_next.ensures.counted refl),
    )

pub returns-clause-measure : goal.returns-clause-measure
returns-clause-measure g c =
    let says = subst (λ (body : Body). Says c.framed-frame.result body) c.result_of.ensures c.framed-frame.ensures in
    result_posted g.H.Hall.scale (g.H.Hall.state c.args.hall.now).measure (g.H.Hall.state c.post_next.new.hall).measure c.framed-frame.result 0 c.args.number
    c.args.what (if c.args.good then 0 else 1) says c.post_next.ensures.measure

pub returns-clause-alone : goal.returns-clause-alone
returns-clause-alone g c =
    alone_with c.self.view_is (record { me = refl; socket = refl; plan = refl; deadline = refl }) refl refl
    c.post_next.ensures.stays c.requires.can.tied
