use Rattle.std.proofs.Common.{rules, ◌≡◌, ◌∙◌, ◌+◌, List, [], ◌∷◌, true, refl, sym, lit<}
use Rattle.std.proofs.lemmas.Bool.{false≢true}
use Rattle.hp_hall.specs.declared.kept.Kept.TheVariants.{Names}
use Rattle.hp_board.proofs.KeptAt.{is_heap}
use Rattle.test_board.proofs.ZoneKnown.{put_known}
use Rattle.test_board.proofs.ZoneHands.{hand_claimed, in_hand}
use Rattle.test_board.proofs.ZoneLemmas.{has_names, heap_given, heap_gives, heap_made, names_given, names_gives, sits_heap}
use Rattle.test_board.proofs.ZoneNames.{put_allocated, put_goes}
use Rattle.test_board.proofs.tests.turn.zone_turns.reserve_with.Goals as goal

pub into_heap-heap-requires : goal.into_heap-heap-requires
into_heap-heap-requires g c = record { heap = is_heap c.args.seat.now.mine.opening 1 c.take-kept.result (lit< tt) c.take-kept.ensures.handed.at }

pub give-requires-clause-gives : goal.give-requires-clause-gives
give-requires-clause-gives g c =
    let id = c.args.board.now.id in
    let was = c.args.seat.now in
    let heap = c.into_heap-heap.result.0 in
    let pen = c.into_heap-heap.result.1 in
    let more = (33, Names c.args.names) ∷ [] in
    let sits = sits_heap id c.args.who c.args.made more was c.take-kept.new.seat c.requires.hand.sits c.take-kept.ensures.board c.take-kept.result heap pen c.into_heap-heap.ensures c.take-kept.ensures.taken in
    let made = c.in-Some.ensures in
    heap_gives id c.args.who c.args.made (c.args.made + 1) more c.take-kept.new.seat heap c.allocated.new.heap pen sits made.calls
    (in_hand was.mine c.take-kept.new.seat.mine c.take-kept.result heap pen c.take-kept.ensures.handed c.into_heap-heap.ensures)
    (λ none. absurd (false≢true (sym none ∙ has_names id c.args.who c.args.made _ c.args.names c.take-kept.new.seat sits refl)))
    (hand_claimed was.mine c.take-kept.new.seat.mine c.take-kept.result heap pen c.take-kept.ensures.handed c.into_heap-heap.ensures c.allocated.new.heap.plain made.more.chunks)

pub give-requires-2-clause-gives : goal.give-requires-2-clause-gives
give-requires-2-clause-gives g c =
    let id = c.args.board.now.id in
    let was = c.args.seat.now in
    let heap = c.into_heap-heap.result.0 in
    let pen = c.into_heap-heap.result.1 in
    let more = (33, Names c.args.names) ∷ [] in
    let yes : c.put.result ≡ true = search rules in
    let put = c.put.ensures yes in
    let sits = sits_heap id c.args.who c.args.made more was c.take-kept.new.seat c.requires.hand.sits c.take-kept.ensures.board c.take-kept.result heap pen c.into_heap-heap.ensures c.take-kept.ensures.taken in
    let made = c.in-Some.ensures in
    let left = heap_given id c.args.who c.args.made (c.args.made + 1) more c.take-kept.new.seat heap c.allocated.new.heap pen sits made.calls c.give.new.seat refl c.give.ensures.board c.give.ensures.given in
    names_gives id c.args.who (c.args.made + 1) [] c.give.new.seat c.args.names c.put.new.names left (put_goes c.in-Some.addr c.args.names c.put.new.names put)
    (put_allocated c.args.who c.args.made c.in-Some.addr heap c.allocated.new.heap c.args.names c.put.new.names c.take-kept.new.seat.mine c.give.new.seat.mine made put
    (heap_made id c.args.who c.args.made (c.args.made + 1) more c.take-kept.new.seat heap c.allocated.new.heap pen sits made.calls c.give.new.seat.mine c.give.ensures.given))
    (put_known c.in-Some.addr c.args.names c.put.new.names heap c.allocated.new.heap pen c.take-kept.result was.mine c.take-kept.new.seat.mine c.give.new.seat.mine
    c.requires.hand.agree c.into_heap-heap.ensures c.take-kept.ensures.taken c.take-kept.ensures.handed c.give.ensures.given put made.more)

pub returns : goal.returns
returns g c = λ _.
    let id = c.args.board.now.id in
    let was = c.args.seat.now in
    let heap = c.into_heap-heap.result.0 in
    let pen = c.into_heap-heap.result.1 in
    let more = (33, Names c.args.names) ∷ [] in
    let sits = sits_heap id c.args.who c.args.made more was c.take-kept.new.seat c.requires.hand.sits c.take-kept.ensures.board c.take-kept.result heap pen c.into_heap-heap.ensures c.take-kept.ensures.taken in
    let made = c.in-Some.ensures in
    let left = heap_given id c.args.who c.args.made (c.args.made + 1) more c.take-kept.new.seat heap c.allocated.new.heap pen sits made.calls c.give.new.seat refl c.give.ensures.board c.give.ensures.given in
    names_given id c.args.who (c.args.made + 1) [] c.give.new.seat c.args.names c.put.new.names left c.give-2.new.seat refl c.give-2.ensures.board c.give-2.ensures.given
