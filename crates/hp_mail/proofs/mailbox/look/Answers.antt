use Rattle.hp_mail.proofs.MailSteps.{may_learn}
use Rattle.hp_mail.proofs.mailbox.look.Goals as goal

pub learn_as-requires-clause-rule : goal.learn_as-requires-clause-rule
learn_as-requires-clause-rule c = may_learn _ _
