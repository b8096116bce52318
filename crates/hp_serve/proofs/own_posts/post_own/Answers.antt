-- The frame says the message, and the plan has it.
use Rattle.std.proofs.Common.{[], ◌∷◌, subst}
use Rattle.hp_hall.specs.HallState.{Did}
use Rattle.hp_hall.specs.Mail.{Posts}
use Rattle.hp_serve.proofs.own_posts.post_own.Goals as goal

pub returns-clause-did : goal.returns-clause-did
returns-clause-did g c =
    let frame = c.framed-frame.result in
    let posted = c.post-posted.result in (
      frame,
      posted,
      c.framed-frame.ensures,
      subst (λ action. Did c.args.me (Posts 0 frame action posted ∷ []) (g.H.Hall.state c.args.hall.now) (g.H.Hall.state c.post-posted.new.self))
          c.message-action.ensures.action c.post-posted.ensures.did,
    )
