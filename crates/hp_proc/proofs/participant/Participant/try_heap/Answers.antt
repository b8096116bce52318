-- The heap is taken into hand, tried, and given back.
use Rattle.std.proofs.Common.{◌≡◌, ◌∙◌, [], ◌∷◌, ℕ, List, Some, refl, ap, sym, subst, arith, Option}
use Rattle.std.proofs.lemmas.Result.{on_err_weaker}
use Rattle.std.specs.Prelude.{slice_get}
use Rattle.hp_base.specs.declared.pool_line.PoolLine.{PoolLine}
use Rattle.hp_script.specs.declared.answer.Answer.{Answer}
use Rattle.hp_hall.proofs.HallStates.{did_then}
use Rattle.hp_proc.specs.Allocating.{trying, unless_answered}
use Rattle.hp_proc.specs.Contexts.{Context}
use Rattle.hp_proc.specs.NamesInHand.{KeepsAgreed}
use Rattle.hp_proc.specs.PlaceLists.{place_named}
use Rattle.hp_proc.specs.ZonesInHand.{AgreeOnceAnswered, AgreeOnceAnsweredIn, answer_of}
use Rattle.hp_heap.specs.History.{entries_of}
use Rattle.hp_proc.specs.Heaps.{NamedHeap, sockets_of}
use Rattle.hp_serve.proofs.AskingFacts.AskedAlong.{on_err_any}
use Rattle.hp_proc.specs.Halting.{Halts}
use Rattle.hp_proc.specs.LineInHall.{HaltsHeld, HaltsHere, HasNamesOut, HoldsIn, IsKnownMapped, MayGiveBeside, TableStays, did_in, moment, moment_with}
use Rattle.hp_proc.specs.Progress.{Does, Tries, in_hand}
use Rattle.hp_serve.proofs.AskingFacts.AskedAlong.{if_ok}
use Rattle.hp_proc.proofs.AddressLies.{lies_still}
use Rattle.hp_proc.proofs.AllocAgrees.{agrees_tried, put_entries, stopped_none}
use Rattle.hp_proc.proofs.Halted.{halts_more, halts_on}
use Rattle.hp_proc.proofs.HallMoments.{told_alike}
use Rattle.hp_proc.proofs.HandFacts.HandTried.{tries_passed, tries_then}
use Rattle.hp_proc.proofs.HandFacts.BesideNames.{gives_beside}
use Rattle.hp_proc.proofs.HandFacts.HandAllocates.{out_still}
use Rattle.hp_proc.proofs.HandFacts.HandMarks.{marks_given}
use Rattle.hp_proc.proofs.HandFacts.HeldBack.{back_then, beside_then, held_then, with_then}
use Rattle.hp_serve.specs.InHall.{marked_in}
use Rattle.hp_proc.proofs.ZoneAgrees.{agrees_passed}
use Rattle.hp_proc.proofs.participant.Participant.try_heap.Goals as goal

pub hold-requires-clause-few : goal.hold-requires-clause-few
hold-requires-clause-few g c = c.requires.place.few

-- WITHOUT MEMORY FOR ITS CALLS

pub returns-in_err-heap-clause-ready : goal.returns-in_err-heap-clause-ready
returns-in_err-heap-clause-ready g c = c.in_err-heap.ensures.err

pub returns-in_err-heap-clause-clock : goal.returns-in_err-heap-clause-clock
returns-in_err-heap-clause-clock g c = λ one. omega (arith, c.hold.ensures.clock one)

-- WITH THE HEAP IN HAND

pub allocate_held-given-requires-clause-holds : goal.allocate_held-given-requires-clause-holds
allocate_held-given-requires-clause-holds g c =
    subst (λ (who : ℕ). HoldsIn who c.hold.new.self c.in_ok-heap.heap (g.H.Hall.state c.hold.new.hall)) (sym c.hold.ensures.same.me)
    c.in_ok-heap.ensures.hand.holds

pub allocate_held-given-requires-clause-its : goal.allocate_held-given-requires-clause-its
allocate_held-given-requires-clause-its g c = sym c.in_ok-heap.ensures.hand.index

pub allocate_held-given-requires-clause-of_socket : goal.allocate_held-given-requires-clause-of_socket
allocate_held-given-requires-clause-of_socket g c =
    let hand = c.in_ok-heap.ensures.hand.holds.in_hand in
    hand.its_socket
    ∙ hand.sockets c.in_ok-heap.heap.plain.index
    ∙ ap (slice_get (sockets_of c.hold.new.self.context.pools)) c.in_ok-heap.ensures.hand.index
    ∙ ap (λ (context : Context). slice_get (sockets_of context.pools) c.args.place.now.index) c.hold.ensures.context
    ∙ sym c.requires.place.serves

pub allocate_held-given-requires-clause-beside : goal.allocate_held-given-requires-clause-beside
allocate_held-given-requires-clause-beside g c =
    subst (λ (who : ℕ). MayGiveBeside who (g.H.Hall.state c.hold.new.hall)) (sym c.hold.ensures.same.me)
    (gives_beside c.hold.ensures.slots.names c.requires.beside)

pub allocate_held-given-requires-clause-named : goal.allocate_held-given-requires-clause-named
allocate_held-given-requires-clause-named g c = λ is.
    subst (λ (who : ℕ). HasNamesOut who (g.H.Hall.state c.hold.new.hall)) (sym c.hold.ensures.same.me)
    (out_still c.hold.ensures.slots.names (c.requires.named is))

-- IT IS GIVEN BACK

pub put-requires : goal.put-requires
put-requires g c =
    let hold = c.hold.ensures in
    let hand = c.in_ok-heap.ensures.hand in
    let keeps = c.allocate_held-given.ensures.keeps in
    let held = held_then hold.same hold.context c.requires.place.few hold.slots hand keeps in
    record {
      serves = held.can.may.serves;
      in_hand = held.in_hand;
      settled = held.settled;
      taken_with = with_then hold.same hold.context c.requires.place.few hold.slots hand keeps;
      beside = beside_then hold.same hold.context c.requires.place.few hold.slots hand keeps c.requires.beside;
    }

pub returns-clause-does : goal.returns-clause-does
returns-clause-does g c =
    let place = c.args.place.now in
    let request = c.args.request.now in
    let tag = c.args.tag in
    let old = c.args.self.now in
    let mid = c.hold.new.self in
    let new = c.allocate_held-given.new.self in
    let me = old.party.me in
    let first = g.H.Hall.state c.args.hall.now in
    let second = g.H.Hall.state c.hold.new.hall in
    let third = g.H.Hall.state c.allocate_held-given.new.hall in
    let last = g.H.Hall.state c.put.new.hall in
    let heap = c.in_ok-heap.heap in
    let left = c.allocate_held-given.new.heap in
    let pools = old.context.pools in
    let here_count = (g.met.H.Hall.goes_on_later _ _ c.hold.ensures.goes_on).count in
    let there_count = (g.met.H.Hall.goes_on_later _ _ c.allocate_held-given.ensures.goes_on).count ∙ here_count in
    let mine = c.hold.ensures.same.me in
    if_ok _ _ c.allocate_held-given.result (λ given tried its heaps named.
    let doing = trying pools request tag (its ∷ heaps) in
    let otherwise = trying pools request tag heaps in
    let tries : Tries place.index [] first.count (did_in me second third) doing otherwise given (moment_with heap me mid second)
    (moment_with left me new third) =
    subst (λ (pools : List PoolLine). Tries place.index [] first.count (did_in me second third)
    (trying pools request tag (its ∷ heaps)) (trying pools request tag heaps) given (moment_with heap me mid second)
    (moment_with left me new third))
    (ap (λ (context : Context). context.pools) c.hold.ensures.context)
    (told_alike (λ count did before behind. Tries place.index [] count did (trying mid.context.pools request tag (its ∷ heaps))
    (trying mid.context.pools request tag heaps) given before behind) second.count first.count second third mid.party.me me (in_hand heap)
    (in_hand left) mid new mine here_count (tried its heaps named)) in
    let gone = unless_answered otherwise given in
    let back : Does [] first.count (did_in me third last) gone gone (moment_with left me new third) (moment me new last) =
    told_alike (λ count did before behind. Does [] count did gone gone before behind) third.count first.count third last new.party.me me (in_hand left)
    (λ moment. moment) new new (c.allocate_held-given.ensures.keeps.remains.same.me ∙ mine) there_count (c.put.ensures.does gone) in
    tries_passed first.count (did_in me first third) (did_in me third last) (did_in me first last) doing otherwise
    given place.index _ _ _ (λ one two. did_then)
    (tries_then first.count (did_in me first second) (did_in me second third) (did_in me first third) doing doing
    _ _ _ (λ one two. did_then) otherwise given place.index (c.in_ok-heap.ensures.did doing) tries)
    back refl) c.allocate_held-given.ensures.does

pub returns-clause-lies : goal.returns-clause-lies
returns-clause-lies g c =
    let me = c.args.self.now.party.me in
    let new = c.allocate_held-given.new.self in
    let third = g.H.Hall.state c.allocate_held-given.new.hall in
    let last = g.H.Hall.state c.put.new.hall in
    let mid = c.hold.new.self.party.me in
    let mine : mid ≡ me = c.hold.ensures.same.me in
    let here : new.party.me ≡ me = c.allocate_held-given.ensures.keeps.remains.same.me ∙ mine in
    let left = c.allocate_held-given.new.heap in
    let held =
    held_then c.hold.ensures.same c.hold.ensures.context c.requires.place.few c.hold.ensures.slots c.in_ok-heap.ensures.hand
    c.allocate_held-given.ensures.keeps in
    if_ok _ (λ given. (answer : Answer) → given ≡ Some answer → IsKnownMapped me last answer) c.allocate_held-given.result
    (λ given lies answer is.
    lies_still me third last answer (subst (λ (who : ℕ). TableStays who third last) here c.put.ensures.table)
    (subst (λ (who : ℕ). (heap : ℕ) → marked_in who last heap ≡ marked_in who third heap) here
    (marks_given new left third last held.marks c.put.ensures.marks))
    (subst (λ (who : ℕ). IsKnownMapped who third answer) mine (lies answer is)))
    c.allocate_held-given.ensures.lies

pub returns-clause-clock : goal.returns-clause-clock
returns-clause-clock g c = λ one.
    omega (arith, c.hold.ensures.clock one, c.allocate_held-given.ensures.clock one, c.put.ensures.others.clock, c.hold.ensures.same.deadline)

pub returns-clause-ready : goal.returns-clause-ready
returns-clause-ready g c =
    let hold = c.hold.ensures in
    let put = c.put.ensures in
    back_then hold.same hold.context c.requires.place.few hold.slots c.in_ok-heap.ensures.hand c.allocate_held-given.ensures.keeps put.marks put.tied
    put.ready put.table put.agreed put.free put.slots put.others

pub returns-clause-goes_on : goal.returns-clause-goes_on
returns-clause-goes_on g c =
    g.met.H.Hall.goes_on_then _ _ _ (g.met.H.Hall.goes_on_then _ _ _ c.hold.ensures.goes_on c.allocate_held-given.ensures.goes_on)
    c.put.ensures.goes_on

-- A LINE THAT ENDS HERE

pub returns-in_err-heap-clause-halts : goal.returns-in_err-heap-clause-halts
returns-in_err-heap-clause-halts g c =
    let doer = c.args.self.now in
    let place = c.args.place.now in
    let halts : (its : NamedHeap) (heaps : List NamedHeap) → place_named its ≡ place → HaltsHere (place.index ∷ []) doer.party.me doer c.hold.new.self (g.H.Hall.state c.args.hall.now)
    (g.H.Hall.state c.hold.new.hall) (trying doer.context.pools c.args.request.now c.args.tag (its ∷ heaps)) =
    λ its heaps named. c.in_err-heap.ensures.halts (trying doer.context.pools c.args.request.now c.args.tag (its ∷ heaps)) in
    on_err_any _ _ halts

pub returns-clause-halts : goal.returns-clause-halts
returns-clause-halts g c =
    let place = c.args.place.now in
    let request = c.args.request.now in
    let tag = c.args.tag in
    let old = c.args.self.now in
    let mid = c.hold.new.self in
    let new = c.allocate_held-given.new.self in
    let me = old.party.me in
    let first = g.H.Hall.state c.args.hall.now in
    let second = g.H.Hall.state c.hold.new.hall in
    let third = g.H.Hall.state c.allocate_held-given.new.hall in
    let last = g.H.Hall.state c.put.new.hall in
    let heap = c.in_ok-heap.heap in
    let left = c.allocate_held-given.new.heap in
    let pools = old.context.pools in
    let here_count = (g.met.H.Hall.goes_on_later _ _ c.hold.ensures.goes_on).count in
    let there_count = (g.met.H.Hall.goes_on_later _ _ c.allocate_held-given.ensures.goes_on).count ∙ here_count in
    let mine = c.hold.ensures.same.me in
    on_err_weaker c.allocate_held-given.result (λ held its heaps named.
    let doing = trying pools request tag (its ∷ heaps) in
    let stopped : HaltsHeld mid.party.me mid new heap left second third doing =
    subst (λ (pools : List PoolLine). HaltsHeld mid.party.me mid new heap left second third (trying pools request tag (its ∷ heaps)))
    (ap (λ (context : Context). context.pools) c.hold.ensures.context) (held its heaps named) in
    let front : Halts (place.index ∷ []) first.count (did_in me first third) doing (moment me old first) (moment_with left me new third) =
    halts_more [] first second third mid.party.me me (in_hand heap) (in_hand left) mid new (moment me old first) doing mine here_count doing
    (c.in_ok-heap.ensures.did doing) stopped in
    halts_on (place.index ∷ []) first third last new.party.me me (in_hand left) (λ moment. moment) new new (moment me old first) doing
    (c.allocate_held-given.ensures.keeps.remains.same.me ∙ mine) there_count front c.put.ensures.does) c.allocate_held-given.ensures.halts

-- WHAT AGREES

pub returns-in_err-heap-clause-agrees : goal.returns-in_err-heap-clause-agrees
returns-in_err-heap-clause-agrees g c =
    let me = c.args.self.now.party.me in
    subst (λ (given : Option Answer). AgreeOnceAnswered c.args.tag given c.args.place.now.index ((g.H.Hall.state c.args.hall.now).part me)
    ((g.H.Hall.state c.hold.new.hall).part me)) (stopped_none c.from_residual.result c.from_residual.ensures.0)
    (agrees_passed c.in_err-heap.ensures.agreed)

pub returns-clause-agrees : goal.returns-clause-agrees
returns-clause-agrees g c =
    let me = c.args.self.now.party.me in
    let tag = c.args.tag in
    let index = c.args.place.now.index in
    let new = c.allocate_held-given.new.self in
    let first = g.H.Hall.state c.args.hall.now in
    let second = g.H.Hall.state c.hold.new.hall in
    let third = g.H.Hall.state c.allocate_held-given.new.hall in
    let last = g.H.Hall.state c.put.new.hall in
    let heap = c.in_ok-heap.heap in
    let left = c.allocate_held-given.new.heap in
    let keeps = c.allocate_held-given.ensures.keeps in
    let mine : c.hold.new.self.party.me ≡ me = c.hold.ensures.same.me in
    let here : new.party.me ≡ me = keeps.remains.same.me ∙ mine in
    let given = answer_of c.allocate_held-given.result in
    let at : left.plain.index ≡ index = keeps.index ∙ c.in_ok-heap.ensures.hand.index in
    agrees_tried me tag given index heap left first second third last c.in_ok-heap.ensures.hand.index keeps.index c.in_ok-heap.ensures.agreed
    (subst (λ (who : ℕ). AgreeOnceAnsweredIn who tag given heap left (second.part who) (third.part who)) mine c.allocate_held-given.ensures.agrees)
    (subst (λ (who : ℕ). KeepsAgreed who left third last) here c.put.ensures.agreed)
    (subst (λ (who : ℕ). (last.part who index).entries ≡ entries_of who left.history) here
    (put_entries new left third last c.put.ensures.does index (sym at)))
