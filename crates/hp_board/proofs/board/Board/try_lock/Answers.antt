use Rattle.std.proofs.Common.{◌<◌, length, refl, arith}
use Rattle.hp_board.specs.declared.words.TheConstants.{SLOTS}
use Rattle.hp_board.proofs.OpeningFacts.SlotNumbers.{slot_low}
use Rattle.hp_board.proofs.OpeningFacts.SeatLemmas.{room_for, seat_taken}
use Rattle.hp_board.proofs.board.Board.try_lock.Goals as goal

pub put_first-requires : goal.put_first-requires
put_first-requires c =
    let low = slot_low c.args.slot c.requires.slot in
    let few : length c.seat.inside.order.items < SLOTS = room_for c.seat.inside c.number-number.result c.seat.invariant (omega arith) c.in_ok-kept.ensures.handed.free in
    let room = c.seat.invariant.room in
    omega (arith, few, room, c.seat.inside.order.ok.0)

pub invariant_of-seat-2 : goal.invariant_of-seat-2
invariant_of-seat-2 c =
    let low = slot_low c.args.slot c.requires.slot in
    seat_taken c.seat.inside _ c.seat.invariant refl c.number-number.result c.in_ok-kept.kept (omega arith) c.in_ok-kept.ensures.handed.free c.in_ok-kept.ensures.taken c.in_ok-kept.ensures.out c.put_first.ensures.items c.put_first.ensures.room
