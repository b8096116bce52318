use Rattle.std.proofs.Common.{sym}
use Rattle.hp_board.proofs.OpeningFacts.SeatLemmas.{seat_new}
use Rattle.hp_board.proofs.seat.Seat.of.Goals as goal

pub invariant_of-result : goal.invariant_of-result
invariant_of-result c = seat_new _ c.requires.one (sym c.requires.who) c.requires.declared c.requires.few c.requires.free c.requires.out c.in_ok-order.ensures.items c.in_ok-order.ensures.capacity
