use Rattle.std.proofs.Common.{subst, ap, ◌∙◌}
use Rattle.hp_mail.specs.PassView.{HasNoStrangers, PassView, WasInOrder}
use Rattle.hp_mail.proofs.Passes.{met_itself, no_strangers}
use Rattle.hp_mail.proofs.mailbox.Mailbox.meet_itself.Goals as goal

pub returns-clause-in_order : goal.returns-clause-in_order
returns-clause-in_order c =
    let shown = c.look.ensures.shown in
    subst (λ (p : PassView). WasInOrder p p) c.owner.view_is
    (met_itself c.owner.inside shown.0 c.owner.invariant (ap (λ (p : PassView). p.fetches) c.owner.view_is ∙ c.requires.owner.1) shown.1)

pub returns-clause-strangers : goal.returns-clause-strangers
returns-clause-strangers c =
    let shown = c.look.ensures.shown in
    subst HasNoStrangers c.owner.view_is
    (no_strangers c.owner.inside shown.0 (ap (λ (p : PassView). p.fetches) c.owner.view_is ∙ c.requires.owner.1) shown.1)
