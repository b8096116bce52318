use Rattle.std.proofs.Common.{◌≡◌, ℕ, ◌<◌, ◌≤◌, length, get_or, take, vec_len}
use Rattle.std.specs.List.{Contains}
use Rattle.hp_board.specs.SeatView.{SeatView}
use Rattle.hp_board.proofs.closing.gather.Given as goal

abbrev pub invariant-loop-seat : goal.invariant-loop-seat
invariant-loop-seat l = record {
  table : l.token.table_id ≡ l.shared.table_id;
  left : l.seats.items ≡ take (vec_len l.seats) l.fn.seats.items;
  parts : (k : ℕ) (d : SeatView) → vec_len l.seats ≤ k → k < length l.fn.seats.items → Contains l.token.me.0.parts (get_or l.fn.seats.items k d).mine;
}

abbrev pub decreases-loop-seat : goal.decreases-loop-seat
decreases-loop-seat l = vec_len l.seats
