use Rattle.std.proofs.Common.{◌≡◌, ◌≤◌, map, vec_len, vec_capacity}
use Rattle.std.specs.List.{range_with_len}
use Rattle.hp_board.specs.Dealt.{dealt_seat}
use Rattle.hp_board.proofs.OpeningFacts.DealLemmas.{IsLeft}
use Rattle.hp_board.proofs.dealing.deal.Given as goal

abbrev pub invariant-loop-who : goal.invariant-loop-who
invariant-loop-who l = record {
  table : l.first.table_id ≡ l.initial.first.table_id;
  parts : IsLeft l.shared.key l.who l.participants l.first.me.0;
  seats : l.seats.items ≡ map (dealt_seat l.shared.table_id l.shared.key) (range_with_len 0 l.who);
  count : vec_len l.seats ≡ l.who;
  room : l.participants ≤ vec_capacity l.seats;
}
