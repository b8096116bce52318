use Rattle.std.proofs.Common.{◌≡◌}
use Rattle.test_shared.proofs.tests.mail.threads.send.Given as goal

abbrev pub invariant-loop : goal.invariant-loop
invariant-loop g l = (l.pass.mailbox ≡ l.initial.pass.mailbox) × (l.pass.who ≡ l.initial.pass.who)
