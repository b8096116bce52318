use Rattle.std.proofs.Common.{rules, ◌≡◌, ◌∙◌, ◌<◌, ℕ, [], ◌∷◌, true, None, refl, sym, subst, lit<}
use Rattle.std.proofs.lemmas.Bool.{false≢true}
use Rattle.hp_base.specs.declared.limits.TheConstants.{MAX_HEAPS}
use Rattle.hp_segs.specs.LaterSteps.{armed_ask}
use Rattle.hp_hall.specs.declared.kept.Kept.TheVariants.{Heap, Names}
use Rattle.hp_hall.proofs.StandingFacts.StandingMoves.{range_calls_leave}
use Rattle.hp_board.proofs.KeptAt.{is_heap, is_names, is_segments}
use Rattle.test_board.proofs.ZoneHands.{hand_still, in_hand}
use Rattle.test_board.proofs.ZoneHeaps.{still_then}
use Rattle.test_board.proofs.ZoneKnown.{brought_claimed, brought_known, names_agree}
use Rattle.test_board.proofs.ZoneLemmas.{free_back, has_names, heap_given, heap_gives, names_given, names_gives, segs_given, segs_gives, sits_heap, sits_names, sits_segs, then_called, unarmed_in}
use Rattle.test_board.proofs.ZoneNames.{heaps_go, heaps_none, heaps_then}
use Rattle.test_board.proofs.tests.turn.brought.bring.Goals as goal

pub into_names-names-requires : goal.into_names-names-requires
into_names-names-requires g c = record { names = is_names c.args.seat.mine.opening c.take-kept_names.result c.take-kept_names.ensures.handed.at }

pub into_heap-heap-requires : goal.into_heap-heap-requires
into_heap-heap-requires g c = record { heap = is_heap c.take-kept_names.new.seat.mine.opening 1 c.take-kept_heap.result (lit< tt) c.take-kept_heap.ensures.handed.at }

pub into_segments-segs-requires : goal.into_segments-segs-requires
into_segments-segs-requires g c = record { segments = is_segments c.take-kept_heap.new.seat.mine.opening c.take-kept_segs.result c.take-kept_segs.ensures.handed.at }

pub named-requires : goal.named-requires
named-requires g c =
    let hand = in_hand c.take-kept_names.new.seat.mine c.take-kept_heap.new.seat.mine c.take-kept_heap.result c.into_heap-heap.result.0 c.into_heap-heap.result.1
    c.take-kept_heap.ensures.handed c.into_heap-heap.ensures in
    record { index = subst (λ (k : ℕ). k < MAX_HEAPS) (sym hand.index) (lit< tt) }

pub filled-requires-clause-index : goal.filled-requires-clause-index
filled-requires-clause-index g c =
    let hand = in_hand c.take-kept_names.new.seat.mine c.take-kept_heap.new.seat.mine c.take-kept_heap.result c.into_heap-heap.result.0 c.into_heap-heap.result.1
    c.take-kept_heap.ensures.handed c.into_heap-heap.ensures in
    let named : c.named.result ≡ true = search rules in
    subst (λ (k : ℕ). k < MAX_HEAPS) (sym ((c.named.ensures.heap named).index ∙ hand.index)) (lit< tt)

pub give-requires-clause-gives : goal.give-requires-clause-gives
give-requires-clause-gives g c =
    let id = c.args.board.now.id in
    let old = c.args.seat in
    let one = c.take-kept_names.new.seat in
    let two = c.take-kept_heap.new.seat in
    let three = c.take-kept_segs.new.seat in
    let names = c.into_names-names.result in
    let segs = c.into_segments-segs.result in
    let heap = c.into_heap-heap.result.0 in
    let pen = c.into_heap-heap.result.1 in
    let given = c.filled.new.heap in
    let named : c.named.result ≡ true = search rules in
    let filled : c.filled.result ≡ true = search rules in
    let first = sits_names id 2 0 [] old one c.requires.new c.take-kept_names.ensures.board c.take-kept_names.result names c.into_names-names.ensures c.take-kept_names.ensures.taken in
    let more = (33, Names names) ∷ [] in
    let next = sits_heap id 2 0 more one two first c.take-kept_heap.ensures.board c.take-kept_heap.result heap pen c.into_heap-heap.ensures c.take-kept_heap.ensures.taken in
    let most = (1, Heap heap pen) ∷ more in
    let sits = sits_segs id 2 0 most two three next c.take-kept_segs.ensures.board c.take-kept_segs.result segs c.into_segments-segs.ensures c.take-kept_segs.ensures.taken in
    let claims = c.filled.ensures.segs filled in
    segs_gives id 2 0 most three segs c.filled.new.segs sits claims (has_names id 2 0 _ names three sits refl)

pub give-requires-2-clause-gives : goal.give-requires-2-clause-gives
give-requires-2-clause-gives g c =
    let id = c.args.board.now.id in
    let old = c.args.seat in
    let one = c.take-kept_names.new.seat in
    let two = c.take-kept_heap.new.seat in
    let three = c.take-kept_segs.new.seat in
    let names = c.into_names-names.result in
    let segs = c.into_segments-segs.result in
    let heap = c.into_heap-heap.result.0 in
    let pen = c.into_heap-heap.result.1 in
    let given = c.filled.new.heap in
    let named : c.named.result ≡ true = search rules in
    let filled : c.filled.result ≡ true = search rules in
    let first = sits_names id 2 0 [] old one c.requires.new c.take-kept_names.ensures.board c.take-kept_names.result names c.into_names-names.ensures c.take-kept_names.ensures.taken in
    let more = (33, Names names) ∷ [] in
    let next = sits_heap id 2 0 more one two first c.take-kept_heap.ensures.board c.take-kept_heap.result heap pen c.into_heap-heap.ensures c.take-kept_heap.ensures.taken in
    let most = (1, Heap heap pen) ∷ more in
    let sits = sits_segs id 2 0 most two three next c.take-kept_segs.ensures.board c.take-kept_segs.result segs c.into_segments-segs.ensures c.take-kept_segs.ensures.taken in
    let claims = c.filled.ensures.segs filled in
    let none : armed_ask segs 2 ≡ None =
    subst (λ (w : ℕ). armed_ask segs w ≡ None) next.who_is (unarmed_in two.mine three.mine c.take-kept_segs.result segs c.take-kept_segs.ensures.handed c.into_segments-segs.ensures sits.unarmed) in
    let left = segs_given id 2 0 most three segs c.filled.new.segs sits claims none c.give.new.seat refl c.give.ensures.board c.give.ensures.given in
    let calls = then_called 2 0 1 2 heap c.named.new.heap given (c.named.ensures.heap named) (c.filled.ensures.heap filled) in
    let took = in_hand one.mine two.mine c.take-kept_heap.result heap pen c.take-kept_heap.ensures.handed c.into_heap-heap.ensures in
    let still = still_then heap c.named.new.heap given names c.named.new.names c.filled.new.names segs.ranges segs.ranges c.filled.new.segs.ranges
    (c.named.ensures.heap named).index (c.named.ensures.agreed named segs.ranges) (c.filled.ensures.agreed filled) in
    let agree = names_agree old.mine one.mine c.take-kept_names.result names c.take-kept_names.ensures.handed c.into_names-names.ensures in
    let hand = hand_still two.mine three.mine c.give.new.seat.mine c.take-kept_segs.result segs c.filled.new.segs heap pen took c.into_segments-segs.ensures
    c.take-kept_segs.ensures.taken c.take-kept_segs.ensures.handed (range_calls_leave 0 segs c.filled.new.segs claims.moved) c.give.ensures.given in
    heap_gives id 2 0 2 more c.give.new.seat heap given pen left calls hand (λ none. absurd (false≢true (sym none ∙ has_names id 2 0 _ names c.give.new.seat left refl)))
    (brought_claimed names c.filled.new.names segs c.filled.new.segs heap given pen c.take-kept_heap.result c.take-kept_segs.result one.mine two.mine three.mine c.give.new.seat.mine agree
    c.into_heap-heap.ensures c.take-kept_heap.ensures.taken c.take-kept_heap.ensures.handed c.into_segments-segs.ensures c.take-kept_segs.ensures.taken
    c.take-kept_segs.ensures.handed c.give.ensures.given took.index still)

pub give-requires-3-clause-gives : goal.give-requires-3-clause-gives
give-requires-3-clause-gives g c =
    let id = c.args.board.now.id in
    let old = c.args.seat in
    let one = c.take-kept_names.new.seat in
    let two = c.take-kept_heap.new.seat in
    let three = c.take-kept_segs.new.seat in
    let names = c.into_names-names.result in
    let segs = c.into_segments-segs.result in
    let heap = c.into_heap-heap.result.0 in
    let pen = c.into_heap-heap.result.1 in
    let given = c.filled.new.heap in
    let named : c.named.result ≡ true = search rules in
    let filled : c.filled.result ≡ true = search rules in
    let first = sits_names id 2 0 [] old one c.requires.new c.take-kept_names.ensures.board c.take-kept_names.result names c.into_names-names.ensures c.take-kept_names.ensures.taken in
    let more = (33, Names names) ∷ [] in
    let next = sits_heap id 2 0 more one two first c.take-kept_heap.ensures.board c.take-kept_heap.result heap pen c.into_heap-heap.ensures c.take-kept_heap.ensures.taken in
    let most = (1, Heap heap pen) ∷ more in
    let sits = sits_segs id 2 0 most two three next c.take-kept_segs.ensures.board c.take-kept_segs.result segs c.into_segments-segs.ensures c.take-kept_segs.ensures.taken in
    let claims = c.filled.ensures.segs filled in
    let none : armed_ask segs 2 ≡ None =
    subst (λ (w : ℕ). armed_ask segs w ≡ None) next.who_is (unarmed_in two.mine three.mine c.take-kept_segs.result segs c.take-kept_segs.ensures.handed c.into_segments-segs.ensures sits.unarmed) in
    let left = segs_given id 2 0 most three segs c.filled.new.segs sits claims none c.give.new.seat refl c.give.ensures.board c.give.ensures.given in
    let calls = then_called 2 0 1 2 heap c.named.new.heap given (c.named.ensures.heap named) (c.filled.ensures.heap filled) in
    let took = in_hand one.mine two.mine c.take-kept_heap.result heap pen c.take-kept_heap.ensures.handed c.into_heap-heap.ensures in
    let still = still_then heap c.named.new.heap given names c.named.new.names c.filled.new.names segs.ranges segs.ranges c.filled.new.segs.ranges
    (c.named.ensures.heap named).index (c.named.ensures.agreed named segs.ranges) (c.filled.ensures.agreed filled) in
    let agree = names_agree old.mine one.mine c.take-kept_names.result names c.take-kept_names.ensures.handed c.into_names-names.ensures in
    let last = heap_given id 2 0 2 more c.give.new.seat heap given pen left calls c.give-2.new.seat refl c.give-2.ensures.board c.give-2.ensures.given in
    let have = heaps_then names c.named.new.names c.filled.new.names (c.named.ensures.names named) (c.filled.ensures.names filled) in
    names_gives id 2 2 [] c.give-2.new.seat names c.filled.new.names last (heaps_go names c.filled.new.names have)
    (λ zone among. heaps_none names c.filled.new.names have zone _ among)
    (brought_known names c.filled.new.names segs c.filled.new.segs heap given pen c.take-kept_heap.result c.take-kept_segs.result one.mine two.mine three.mine c.give.new.seat.mine agree
    c.into_heap-heap.ensures c.take-kept_heap.ensures.taken c.take-kept_heap.ensures.handed c.into_segments-segs.ensures c.take-kept_segs.ensures.taken
    c.take-kept_segs.ensures.handed c.give.ensures.given took.index still c.give-2.new.seat.mine
    c.give-2.ensures.given)

pub returns : goal.returns
returns g c =
    let id = c.args.board.now.id in
    let old = c.args.seat in
    let one = c.take-kept_names.new.seat in
    let two = c.take-kept_heap.new.seat in
    let three = c.take-kept_segs.new.seat in
    let names = c.into_names-names.result in
    let segs = c.into_segments-segs.result in
    let heap = c.into_heap-heap.result.0 in
    let pen = c.into_heap-heap.result.1 in
    let given = c.filled.new.heap in
    let named : c.named.result ≡ true = search rules in
    let filled : c.filled.result ≡ true = search rules in
    let first = sits_names id 2 0 [] old one c.requires.new c.take-kept_names.ensures.board c.take-kept_names.result names c.into_names-names.ensures c.take-kept_names.ensures.taken in
    let more = (33, Names names) ∷ [] in
    let next = sits_heap id 2 0 more one two first c.take-kept_heap.ensures.board c.take-kept_heap.result heap pen c.into_heap-heap.ensures c.take-kept_heap.ensures.taken in
    let most = (1, Heap heap pen) ∷ more in
    let sits = sits_segs id 2 0 most two three next c.take-kept_segs.ensures.board c.take-kept_segs.result segs c.into_segments-segs.ensures c.take-kept_segs.ensures.taken in
    let claims = c.filled.ensures.segs filled in
    let none : armed_ask segs 2 ≡ None =
    subst (λ (w : ℕ). armed_ask segs w ≡ None) next.who_is (unarmed_in two.mine three.mine c.take-kept_segs.result segs c.take-kept_segs.ensures.handed c.into_segments-segs.ensures sits.unarmed) in
    let left = segs_given id 2 0 most three segs c.filled.new.segs sits claims none c.give.new.seat refl c.give.ensures.board c.give.ensures.given in
    let calls = then_called 2 0 1 2 heap c.named.new.heap given (c.named.ensures.heap named) (c.filled.ensures.heap filled) in
    let last = heap_given id 2 0 2 more c.give.new.seat heap given pen left calls c.give-2.new.seat refl c.give-2.ensures.board c.give-2.ensures.given in
    record { back = free_back id 2 2 c.give-3.new.seat (names_given id 2 2 [] c.give-2.new.seat names c.filled.new.names last c.give-3.new.seat refl c.give-3.ensures.board c.give-3.ensures.given) }
