use Rattle.std.proofs.Common.{List, length, ap}
use Rattle.hp_mail.specs.PassView.{MailboxView}
use Rattle.test_board.proofs.Dealt.{dealt_to}
use Rattle.test_board.proofs.tests.chair.dealing.boxes_of_two.Goals as goal

pub returns-clause-count : goal.returns-clause-count
returns-clause-count c = ap (λ (l : List MailboxView). length l) c.in_ok-boxes.ensures

pub returns-clause-first : goal.returns-clause-first
returns-clause-first c =
    dealt_to 0 c.in_ok-first_box.first_box c.in_ok-second_box.second_box c.in_ok-first_box.first_own c.in_ok-second_box.first_there
    c.in_ok-first_box.ensures.first c.in_ok-second_box.ensures.first c.in_ok-boxes.boxes.items c.gathered-first.result.items
    c.in_ok-boxes.ensures c.gathered-first.ensures

pub returns-clause-second : goal.returns-clause-second
returns-clause-second c =
    dealt_to 1 c.in_ok-first_box.first_box c.in_ok-second_box.second_box c.in_ok-first_box.second_there c.in_ok-second_box.second_own
    c.in_ok-first_box.ensures.second c.in_ok-second_box.ensures.second c.in_ok-boxes.boxes.items c.gathered-second.result.items
    c.in_ok-boxes.ensures c.gathered-second.ensures
