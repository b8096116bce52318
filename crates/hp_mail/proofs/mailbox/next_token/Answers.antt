use Rattle.hp_mail.proofs.MailSteps.{may_deal, may_deal_owner}
use Rattle.hp_mail.proofs.mailbox.next_token.Goals as goal

pub another-requires-clause-rule : goal.another-requires-clause-rule
another-requires-clause-rule c = may_deal_owner _ _ c.requires.left.senders c.requires.left.deals (c.requires.owner c.if-is_owner.true)

pub another-requires-else-is_owner-clause-rule : goal.another-requires-else-is_owner-clause-rule
another-requires-else-is_owner-clause-rule c = may_deal _ _ c.requires.left.senders c.requires.left.deals
