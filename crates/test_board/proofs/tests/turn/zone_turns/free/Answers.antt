use Rattle.std.proofs.Common.{rules, ◌≡◌, ◌∙◌, ◌+◌, [], ◌∷◌, true, refl, sym, lit<}
use Rattle.std.proofs.lemmas.Bool.{false≢true}
use Rattle.hp_hall.specs.declared.kept.Kept.TheVariants.{Names}
use Rattle.hp_board.proofs.KeptAt.{is_heap, is_names}
use Rattle.test_board.proofs.ZoneHands.{hand_claimed, in_hand}
use Rattle.test_board.proofs.ZoneKnown.{gone_known, names_agree}
use Rattle.test_board.proofs.ZoneLemmas.{has_names, heap_given, heap_gives, names_given, names_gives, sits_heap, sits_names}
use Rattle.test_board.proofs.ZoneNames.{gone_goes, gone_none}
use Rattle.test_board.proofs.tests.turn.zone_turns.free.Goals as goal

pub into_names-names-requires : goal.into_names-names-requires
into_names-names-requires g c = record { names = is_names c.args.seat.now.mine.opening c.take-kept_names.result c.take-kept_names.ensures.handed.at }

pub into_heap-heap-requires : goal.into_heap-heap-requires
into_heap-heap-requires g c = record { heap = is_heap c.take-kept_names.new.seat.mine.opening 1 c.take-kept.result (lit< tt) c.take-kept.ensures.handed.at }

pub give-requires-clause-gives : goal.give-requires-clause-gives
give-requires-clause-gives g c =
    let id = c.args.board.now.id in
    let was = c.args.seat.now in
    let names = c.into_names-names.result in
    let heap = c.into_heap-heap.result.0 in
    let pen = c.into_heap-heap.result.1 in
    let more = (33, Names names) ∷ [] in
    let first = sits_names id c.args.who c.args.made [] was c.take-kept_names.new.seat c.requires.free c.take-kept_names.ensures.board c.take-kept_names.result names c.into_names-names.ensures c.take-kept_names.ensures.taken in
    let sits = sits_heap id c.args.who c.args.made more c.take-kept_names.new.seat c.take-kept.new.seat first c.take-kept.ensures.board c.take-kept.result heap pen c.into_heap-heap.ensures c.take-kept.ensures.taken in
    let yes : c.freed.result ≡ true = search rules in
    let freed = c.freed.ensures yes in
    heap_gives id c.args.who c.args.made (c.args.made + 2) more c.take-kept.new.seat heap c.freed.new.heap pen sits freed.calls
    (in_hand c.take-kept_names.new.seat.mine c.take-kept.new.seat.mine c.take-kept.result heap pen c.take-kept.ensures.handed c.into_heap-heap.ensures)
    (λ none. absurd (false≢true (sym none ∙ has_names id c.args.who c.args.made _ names c.take-kept.new.seat sits refl)))
    (hand_claimed c.take-kept_names.new.seat.mine c.take-kept.new.seat.mine c.take-kept.result heap pen c.take-kept.ensures.handed c.into_heap-heap.ensures c.freed.new.heap.plain
    (sym freed.more.chunks))

pub give-requires-2-clause-gives : goal.give-requires-2-clause-gives
give-requires-2-clause-gives g c =
    let id = c.args.board.now.id in
    let was = c.args.seat.now in
    let names = c.into_names-names.result in
    let heap = c.into_heap-heap.result.0 in
    let pen = c.into_heap-heap.result.1 in
    let more = (33, Names names) ∷ [] in
    let first = sits_names id c.args.who c.args.made [] was c.take-kept_names.new.seat c.requires.free c.take-kept_names.ensures.board c.take-kept_names.result names c.into_names-names.ensures c.take-kept_names.ensures.taken in
    let sits = sits_heap id c.args.who c.args.made more c.take-kept_names.new.seat c.take-kept.new.seat first c.take-kept.ensures.board c.take-kept.result heap pen c.into_heap-heap.ensures c.take-kept.ensures.taken in
    let yes : c.freed.result ≡ true = search rules in
    let freed = c.freed.ensures yes in
    let left = heap_given id c.args.who c.args.made (c.args.made + 2) more c.take-kept.new.seat heap c.freed.new.heap pen sits freed.calls c.give.new.seat refl c.give.ensures.board c.give.ensures.given in
    names_gives id c.args.who (c.args.made + 2) [] c.give.new.seat names c.gone.new.names left (gone_goes c.in-Some.addr names c.gone.new.names c.in-Some.ensures)
    (λ zone among. gone_none c.in-Some.addr names c.gone.new.names c.in-Some.ensures zone _ among)
    (gone_known c.in-Some.addr names c.gone.new.names heap c.freed.new.heap pen c.take-kept.result c.take-kept_names.new.seat.mine c.take-kept.new.seat.mine c.give.new.seat.mine
    (names_agree was.mine c.take-kept_names.new.seat.mine c.take-kept_names.result names c.take-kept_names.ensures.handed c.into_names-names.ensures)
    c.into_heap-heap.ensures c.take-kept.ensures.taken c.take-kept.ensures.handed c.give.ensures.given c.in-Some.ensures freed.more)

pub returns : goal.returns
returns g c = λ _.
    let id = c.args.board.now.id in
    let was = c.args.seat.now in
    let names = c.into_names-names.result in
    let heap = c.into_heap-heap.result.0 in
    let pen = c.into_heap-heap.result.1 in
    let more = (33, Names names) ∷ [] in
    let first = sits_names id c.args.who c.args.made [] was c.take-kept_names.new.seat c.requires.free c.take-kept_names.ensures.board c.take-kept_names.result names c.into_names-names.ensures c.take-kept_names.ensures.taken in
    let sits = sits_heap id c.args.who c.args.made more c.take-kept_names.new.seat c.take-kept.new.seat first c.take-kept.ensures.board c.take-kept.result heap pen c.into_heap-heap.ensures c.take-kept.ensures.taken in
    let yes : c.freed.result ≡ true = search rules in
    let freed = c.freed.ensures yes in
    let left = heap_given id c.args.who c.args.made (c.args.made + 2) more c.take-kept.new.seat heap c.freed.new.heap pen sits freed.calls c.give.new.seat refl c.give.ensures.board c.give.ensures.given in
    names_given id c.args.who (c.args.made + 2) [] c.give.new.seat names c.gone.new.names left c.give-2.new.seat refl c.give-2.ensures.board c.give-2.ensures.given
