use Rattle.test_board.proofs.Dealt.{both_passes}
use Rattle.test_board.proofs.tests.chair.dealing.box_of.Goals as goal

pub returns-clause-first : goal.returns-clause-first
returns-clause-first c =
    (both_passes c.in_ok-mailbox.mailbox c.args.owner c.in-Some.first c.in-Some.second c.in_ok-mailbox.passes.items
    c.in_ok-mailbox.ensures.passes c.in-Some.ensures).first_is

pub returns-clause-second : goal.returns-clause-second
returns-clause-second c =
    (both_passes c.in_ok-mailbox.mailbox c.args.owner c.in-Some.first c.in-Some.second c.in_ok-mailbox.passes.items
    c.in_ok-mailbox.ensures.passes c.in-Some.ensures).second_is
