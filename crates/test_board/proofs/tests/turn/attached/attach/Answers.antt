use Rattle.std.proofs.Common.{rules, ◌≡◌, ◌∙◌, [], true, refl, ap, lit<}
use Rattle.hp_hall.specs.Naming.{Naming}
use Rattle.hp_board.proofs.KeptAt.{is_heap}
use Rattle.test_board.proofs.ZoneLemmas.{heap_given, heap_gives, sits_heap}
use Rattle.test_board.proofs.ZoneHands.{hand_claimed, in_hand}
use Rattle.test_board.proofs.tests.turn.attached.attach.Goals as goal

pub into_heap-heap-requires : goal.into_heap-heap-requires
into_heap-heap-requires g c = record { heap = is_heap c.args.seat.now.mine.opening 1 c.take-kept.result (lit< tt) c.take-kept.ensures.handed.at }

pub give-requires-clause-gives : goal.give-requires-clause-gives
give-requires-clause-gives g c =
    let yes : c.marked.result ≡ true = search rules in
    let was = c.args.seat.now in
    let calls = c.marked.ensures yes in
    heap_gives c.args.board.now.id c.args.who 0 1 [] c.take-kept.new.seat c.into_heap-heap.result.0 c.marked.new.heap c.into_heap-heap.result.1
    (sits_heap c.args.board.now.id c.args.who 0 [] was c.take-kept.new.seat c.requires.new c.take-kept.ensures.board c.take-kept.result c.into_heap-heap.result.0 c.into_heap-heap.result.1
    c.into_heap-heap.ensures c.take-kept.ensures.taken)
    calls.calls
    (in_hand was.mine c.take-kept.new.seat.mine c.take-kept.result c.into_heap-heap.result.0 c.into_heap-heap.result.1 c.take-kept.ensures.handed c.into_heap-heap.ensures)
    (λ none. calls.named)
    (hand_claimed was.mine c.take-kept.new.seat.mine c.take-kept.result c.into_heap-heap.result.0 c.into_heap-heap.result.1 c.take-kept.ensures.handed c.into_heap-heap.ensures
    c.marked.new.heap.plain (ap (λ (n : Naming). n.chunks) calls.named))

pub returns : goal.returns
returns g c = λ _.
    let yes : c.marked.result ≡ true = search rules in
    let was = c.args.seat.now in
    let calls = c.marked.ensures yes in
    heap_given c.args.board.now.id c.args.who 0 1 [] c.take-kept.new.seat c.into_heap-heap.result.0 c.marked.new.heap c.into_heap-heap.result.1
    (sits_heap c.args.board.now.id c.args.who 0 [] was c.take-kept.new.seat c.requires.new c.take-kept.ensures.board c.take-kept.result c.into_heap-heap.result.0 c.into_heap-heap.result.1
    c.into_heap-heap.ensures c.take-kept.ensures.taken)
    calls.calls c.give.new.seat refl c.give.ensures.board c.give.ensures.given
