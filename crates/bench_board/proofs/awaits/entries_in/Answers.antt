use Rattle.std.proofs.Common.{refl, lit<, ◌∙◌}
use Rattle.hp_board.proofs.KeptAt.{is_heap}
use Rattle.bench_board.proofs.RoundLemmas.{none_made, round_done, round_gives}
use Rattle.bench_board.proofs.awaits.entries_in.Goals as goal

pub into_heap-heap-requires : goal.into_heap-heap-requires
into_heap-heap-requires g c = record { heap = is_heap c.args.seat.now.mine.opening 0 c.take-kept.result (lit< tt) c.take-kept.ensures.handed.at }

pub give-requires-clause-gives : goal.give-requires-clause-gives
give-requires-clause-gives g c =
    round_gives c.args.board.now.id c.args.seat.now c.args.made c.args.made c.requires.working c.take-kept.new.seat.mine c.take-kept.result c.into_heap-heap.result.0
    c.into_heap-heap.result.0 c.into_heap-heap.result.1 c.take-kept.ensures.handed c.take-kept.ensures.taken c.into_heap-heap.ensures
    (none_made c.args.seat.now.mine.who c.args.made c.into_heap-heap.result.0 c.into_heap-heap.result.0 (record { plain = refl; lists = refl; history = refl }))

pub returns : goal.returns
returns g c = record {
  working = round_done c.args.board.now.id c.args.seat.now c.args.made c.args.made c.requires.working c.take-kept.new.seat.mine c.take-kept.result c.into_heap-heap.result.0
      c.into_heap-heap.result.0 c.into_heap-heap.result.1 c.take-kept.ensures.handed c.take-kept.ensures.taken c.into_heap-heap.ensures
      (none_made c.args.seat.now.mine.who c.args.made c.into_heap-heap.result.0 c.into_heap-heap.result.0 (record { plain = refl; lists = refl; history = refl }))
      c.give.new.seat (c.give.ensures.board ∙ c.take-kept.ensures.board ∙ c.requires.working.board_is) c.give.ensures.given;
}
