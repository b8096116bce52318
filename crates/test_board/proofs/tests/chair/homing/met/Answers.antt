-- Each mailbox is met by its owner's pass and the other's.
use Rattle.std.proofs.Common.{◌<◌, ◌≡◌, Some, length, refl, arith}
use Rattle.std.specs.List.{slice_get}
use Rattle.std.proofs.lemmas.Option.{slice_get_read}
use Rattle.hp_mail.specs.PassView.{MailboxView}
use Rattle.test_board.proofs.Homes.{first_place, met_in_order, second_place}
use Rattle.test_board.proofs.tests.chair.homing.met.Goals as goal

pub meet-requires : goal.meet-requires
meet-requires c =
    let boxes = c.args.boxes.now in
    let mailbox : MailboxView = c.index-boxes-0.result in
    let below : 0 < length boxes = omega (arith, c.requires.count) in
    let box = slice_get_read boxes (length boxes) 0 mailbox refl below c.index-boxes-0.is in
    let own = first_place 0 c.requires.first.0 boxes c.args.first.items c.in-Some.first_own c.in-Some.first_there c.requires.first.1 c.in-Some.ensures
    mailbox box in
    let there = first_place 1 c.requires.second.0 boxes c.args.second.items c.in-Some-two.second_there c.in-Some-two.second_own c.requires.second.1
    c.in-Some-two.ensures mailbox box in
    record { owner = (own.its, own.owner refl); sender = there.its; apart = λ same. omega (arith, same, own.whose, there.whose) }

pub meet-requires-2 : goal.meet-requires-2
meet-requires-2 c =
    let boxes = c.args.boxes.now in
    let mailbox : MailboxView = c.index-boxes-1.result in
    let below : 1 < length boxes = omega (arith, c.requires.count) in
    let box = slice_get_read boxes (length boxes) 1 mailbox refl below c.index-boxes-1.is in
    let own = second_place 1 c.requires.second.0 boxes c.args.second.items c.in-Some-two.second_there c.in-Some-two.second_own c.requires.second.1
    c.in-Some-two.ensures mailbox box in
    let there = second_place 0 c.requires.first.0 boxes c.args.first.items c.in-Some.first_own c.in-Some.first_there c.requires.first.1 c.in-Some.ensures
    mailbox box in
    record { owner = (own.its, own.owner refl); sender = there.its; apart = λ same. omega (arith, same, own.whose, there.whose) }

pub returns : goal.returns
returns c = λ yes.
    met_in_order c.args.first.items c.args.second.items c.in-Some.first_own c.in-Some.first_there c.in-Some-two.second_there c.in-Some-two.second_own
    c.in-Some.ensures c.in-Some-two.ensures c.meet.ensures.in_order c.meet-2.ensures.in_order
