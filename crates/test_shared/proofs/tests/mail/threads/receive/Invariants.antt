use Rattle.std.proofs.Common.{◌≡◌}
use Rattle.hp_mail.specs.PassView.{IsOwner}
use Rattle.test_shared.proofs.tests.mail.threads.receive.Given as goal

abbrev pub invariant-loop : goal.invariant-loop
invariant-loop g l = (l.owner.mailbox ≡ l.initial.owner.mailbox) × (l.owner.who ≡ l.initial.owner.who) × IsOwner l.owner
