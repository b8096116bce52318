-- What was taken is heap 0, and the slot of the segment value is as it was.
use Rattle.std.proofs.Common.{ℕ, sym, subst}
use Rattle.hp_serve.proofs.InHalls.{marked_taken}
use Rattle.test_solo.proofs.Callers.{can_but}
use Rattle.test_solo.proofs.SoloOpened.{first_taken, heap_of_first, in_hand, may_ask, settled_first}
use Rattle.test_solo.proofs.solo_hall.asking.take_heap.Goals as goal

pub take-requires-clause-serves : goal.take-requires-clause-serves
take-requires-clause-serves g c = subst (λ (n : ℕ). (g.H.Hall.state c.args.hall.now).serves n) (sym c.number.ensures) c.requires.begins.can.may.serves

pub into_heap-heap-requires : goal.into_heap-heap-requires
into_heap-heap-requires g c = record { heap = heap_of_first c.take.result c.take.ensures.took.fits }

pub returns-clause-may : goal.returns-clause-may
returns-clause-may g c =
    let party = c.args.party.now in
    let old = g.H.Hall.state c.args.hall.now in
    let mid = g.H.Hall.state c.take.new.self in
    let heap = c.into_heap-heap.result.0 in
    let pen = c.into_heap-heap.result.1 in
    let took = c.take.ensures.took in
    let begins = c.requires.begins in
    let is = first_taken party.me old mid c.take.result heap pen c.number.ensures c.into_heap-heap.ensures took in
    may_ask party mid heap.plain
    (can_but party c.number.ensures c.take.ensures.slots c.take.ensures.others took.joined took.own
    (marked_taken c.take.result (old.part c.number.result) (mid.part c.number.result) took.part) begins.can)
    (in_hand (old.part party.me) (mid.part party.me) party.me heap pen is begins.serves begins.unarmed)
    (settled_first (old.part party.me) (mid.part party.me) party.me heap pen is begins.serves begins.unarmed (mid.heard party.me))

pub returns-clause-heap : goal.returns-clause-heap
returns-clause-heap g c =
    let party = c.args.party.now in
    let old = g.H.Hall.state c.args.hall.now in
    let mid = g.H.Hall.state c.take.new.self in
    let heap = c.into_heap-heap.result.0 in
    let pen = c.into_heap-heap.result.1 in
    let begins = c.requires.begins in
    let is = first_taken party.me old mid c.take.result heap pen c.number.ensures c.into_heap-heap.ensures c.take.ensures.took in
    in_hand (old.part party.me) (mid.part party.me) party.me heap pen is begins.serves begins.unarmed
