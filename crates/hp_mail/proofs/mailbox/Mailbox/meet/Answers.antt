use Rattle.std.proofs.Common.{subst, ap, ◌∙◌}
use Rattle.crossbeam_queue.specs.Passes.{view}
use Rattle.hp_mail.specs.PassInside.{pass_view}
use Rattle.hp_mail.specs.PassView.{PassView, WasInOrder}
use Rattle.hp_mail.specs.Views.{sender_of}
use Rattle.hp_mail.proofs.Passes.{met}
use Rattle.hp_mail.proofs.mailbox.Mailbox.meet.Goals as goal

pub returns-clause-in_order : goal.returns-clause-in_order
returns-clause-in_order c =
    subst (λ (p : PassView). WasInOrder p c.args.sender.now) c.owner.view_is
    (subst (λ (p : PassView). WasInOrder (pass_view c.owner.inside) p) c.sender.view_is
    (met (sender_of (view c.sender.inside.token)) (view c.owner.inside.token) (ap (λ (p : PassView). p.fetches) c.owner.view_is ∙ c.requires.owner.1) c.compare.ensures.shown))
