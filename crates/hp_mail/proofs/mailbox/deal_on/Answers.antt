use Rattle.std.proofs.Common.{ap, ◌∙◌}
use Rattle.crossbeam_queue.specs.Passes.{view}
use Rattle.hp_mail.specs.PassInside.{with_participants}
use Rattle.hp_mail.proofs.MailSteps.{may_take_over}
use Rattle.hp_mail.proofs.Passes.{dealing_is}
use Rattle.hp_mail.proofs.mailbox.deal_on.Goals as goal

pub absorb-requires-clause-rule : goal.absorb-requires-clause-rule
absorb-requires-clause-rule c = may_take_over _ _ _ _ c.requires.first.1

pub returns : goal.returns
returns c =
    dealing_is c.pass.inside (record { who = c.pass.inside.who; token = c.absorb.new.pass }) (view c.args.first) c.absorb.ensures.queue.0 c.absorb.ensures.rule
    c.requires.first.1
    ∙ ap (with_participants (view c.args.first).dealt) c.pass.view_is
