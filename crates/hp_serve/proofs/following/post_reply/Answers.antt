-- The frame says the reply, which weighs 1, and the plan has the next one.
use Rattle.std.proofs.Common.{◌≡◌, ◌*◌, ℕ, [], ◌∷◌, ap, subst, arith}
use Rattle.hp_base.specs.Plans.{action_of}
use Rattle.hp_base.specs.declared.plan_entry.MsgKind.TheVariants.{Reply}
use Rattle.hp_hall.specs.HallState.{Did}
use Rattle.hp_hall.specs.Mail.{Posts}
use Rattle.hp_serve.proofs.MemberLemmas.{reply_weighs}
use Rattle.hp_serve.proofs.following.post_reply.Goals as goal

pub returns-clause-did : goal.returns-clause-did
returns-clause-did g c =
    let frame = c.framed-frame.result in
    let posted = c.post-posted.result in
    let planned =
    subst (λ k. c.message-action.result ≡ action_of c.args.plan.now Reply c.args.me k) c.one_more.ensures c.message-action.ensures.action in (
      frame,
      posted,
      c.framed-frame.ensures,
      subst (λ action. Did c.args.me (Posts 0 frame action posted ∷ []) (g.H.Hall.state c.args.hall.now) (g.H.Hall.state c.post-posted.new.self)) planned
          c.post-posted.ensures.did,
    )

pub returns-clause-measure : goal.returns-clause-measure
returns-clause-measure g c =
    let weighs = reply_weighs c.framed-frame.result c.args.body c.requires.reply c.framed-frame.ensures in
    omega (arith, c.post-posted.ensures.measure, ap (λ (measure : ℕ). g.H.Hall.scale * (2 * measure)) weighs)
