-- One post, where the participant is to be told.
use Rattle.std.proofs.Common.{[], ◌∷◌, refl}
use Rattle.hp_base.specs.Plans.{action_of}
use Rattle.hp_base.specs.declared.plan_entry.MsgKind.TheVariants as message
use Rattle.hp_hall.proofs.HallStates.{stays_same}
use Rattle.hp_hall.specs.Mail.{Posts}
use Rattle.hp_serve.specs.Party.{one_more}
use Rattle.hp_serve.specs.Posting.{IsToldOne, times_sent}
use Rattle.hp_serve.proofs.posting.tell_one.Goals as goal

pub returns-then-told-clause-told : goal.returns-then-told-clause-told
returns-then-told-clause-told g c =
    let posted = c.post_next.ensures.posted in (
      Posts c.args.who c.args.frame
          (action_of c.args.plan.now message.Sync c.args.who (one_more (times_sent c.args.syncs.now c.args.who))) posted.0 ∷ [],
      posted.1,
      IsToldOne.tells posted.0 c.if-told.true refl,
    )

pub returns-else-told-clause-stays : goal.returns-else-told-clause-stays
returns-else-told-clause-stays g c = stays_same 0 (g.H.Hall.state c.args.hall.now)
