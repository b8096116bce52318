-- The heap is searched, gets pages where that found nothing, and is searched again.
use Rattle.std.proofs.Common.{◌≡◌, ◌∙◌, [], ◌∷◌, ℕ, None, Some, List, Option, refl, ap, sym, subst, arith}
use Rattle.hp_base.specs.declared.request.Request.{Request}
use Rattle.hp_script.specs.declared.answer.Answer.{Answer}
use Rattle.hp_script.specs.declared.answer.Answer.TheVariants as gives
use Rattle.hp_proc.specs.Allocating.{after_asking, asking, first_flags, trying, with_flags}
use Rattle.hp_proc.specs.Heaps.{NamedHeap, page_sizes_for}
use Rattle.hp_proc.specs.LineInHall.{DoesHeld, HaltsHeld, did_in, moment_with}
use Rattle.hp_proc.specs.ParticipantView.{ParticipantView}
use Rattle.hp_proc.specs.PlaceLists.{place_named}
use Rattle.hp_proc.specs.Progress.{Tries}
use Rattle.hp_proc.specs.ZonesInHand.{AgreeOnceAnsweredIn}
use Rattle.hp_proc.specs.declared.searched_heap.SearchedHeap.{SearchedHeap}
use Rattle.hp_serve.proofs.AskingFacts.AskedAlong.{on_err_any}
use Rattle.hp_proc.proofs.AddressLies.{lies_none, lies_so}
use Rattle.hp_proc.proofs.AllocAgrees.{agrees_again, agrees_first, agrees_missing, keeps_asked, keeps_searched, stopped_none}
use Rattle.hp_proc.proofs.ChunkLies.{allocation_lies}
use Rattle.hp_proc.proofs.HandFacts.BesideNames.{names_kept, names_same}
use Rattle.hp_proc.proofs.HandFacts.HandAgain.{keeps_again, keeps_grown, lies_again}
use Rattle.hp_proc.proofs.HandFacts.HandAllocates.{keeps_alloc}
use Rattle.hp_proc.proofs.HandFacts.HandCalls.{call_index, call_serves}
use Rattle.hp_proc.proofs.HandFacts.HandSearched.{found_again, found_first, found_none, halted, passed, passed_external}
use Rattle.hp_proc.proofs.HandFacts.Holds.{holds_on, room_called}
use Rattle.hp_proc.proofs.ZoneAgrees.{agrees_passed}
use Rattle.hp_proc.proofs.participant.Participant.allocate_held.Goals as goal

-- the flags of the first search, as the names have the heap
asked_is : (its : NamedHeap) (place : SearchedHeap) (request asked : Request) (flags : ℕ) → place_named its ≡ place
    → flags ≡ first_flags place.serves request.flags → asked ≡ with_flags flags request → asked ≡ with_flags (first_flags its.serves request.flags) request
asked_is its place request asked flags named is asks =
    asks
    ∙ ap (λ (flags : ℕ). with_flags flags request)
    (is ∙ ap (λ (place : SearchedHeap). first_flags place.serves request.flags) (sym named))

index_is : (its : NamedHeap) (place : SearchedHeap) → place_named its ≡ place → its.index ≡ place.index
index_is its place named = ap (λ (place : SearchedHeap). place.index) named

serves_is : (its : NamedHeap) (place : SearchedHeap) → place_named its ≡ place → its.serves ≡ place.serves
serves_is its place named = ap (λ (place : SearchedHeap). place.serves) named

-- THE FIRST SEARCH

pub allocate_in-requires : goal.allocate_in-requires
allocate_in-requires g c =
    let spare = c.requires.room.spare in
    let counted = c.requires.room.counted in
    record { spare = omega (arith, spare); counted = omega (arith, counted) }

-- IT in-Some A PLACE

pub returns-in-Some-clause-does : goal.returns-in-Some-clause-does
returns-in-Some-clause-does g c = λ its heaps named.
    let place = c.args.place.now in
    let doer = c.args.self.now in
    let a = g.H.Hall.state c.args.hall.now in
    let request = c.args.request.now in
    subst (λ (at : ℕ). Tries at [] a.count (did_in doer.party.me a a) (trying doer.context.pools request c.args.tag (its ∷ heaps))
    (trying doer.context.pools request c.args.tag heaps) (Some (gives.Address c.in-Some.addr)) (moment_with c.args.heap.now doer.party.me doer a)
    (moment_with c.allocate_in.new.heap doer.party.me c.allocate_in.new.self a)) (index_is its place named)
    (found_first doer c.allocate_in.new.self a c.args.heap.now c.allocate_in.new.heap its request c.with_flags-first.result c.args.tag c.allocate_in.result
    (asked_is its place request c.with_flags-first.result c.first_flags.result named c.first_flags.ensures c.with_flags-first.ensures) c.allocate_in.ensures.step
    c.allocate_in.ensures.counted (index_is its place named ∙ c.requires.its) heaps c.in-Some.addr c.in-Some.is)

pub returns-in-Some-clause-lies : goal.returns-in-Some-clause-lies
returns-in-Some-clause-lies g c = λ given.
    let doer = c.args.self.now in
    let a = g.H.Hall.state c.args.hall.now in
    lies_so doer.party.me a (gives.Address c.in-Some.addr) given
    (allocation_lies doer.party.me doer c.with_flags-first.result c.args.tag c.in-Some.addr c.args.heap.now c.allocate_in.new.heap a
    c.in-Some.ensures.step refl c.requires.holds)

pub returns-in-Some-clause-clock : goal.returns-in-Some-clause-clock
returns-in-Some-clause-clock g c = λ one. omega arith

pub returns-in-Some-clause-keeps : goal.returns-in-Some-clause-keeps
returns-in-Some-clause-keeps g c =
    keeps_alloc c.args.self.now c.allocate_in.new.self c.args.heap.now c.allocate_in.new.heap c.with_flags-first.result c.args.tag c.allocate_in.result
    (g.H.Hall.state c.args.hall.now) c.allocate_in.ensures.step c.allocate_in.ensures.counted c.requires.named c.requires.holds

pub returns-in-Some-clause-names : goal.returns-in-Some-clause-names
returns-in-Some-clause-names g c = names_same c.args.self.now.party.me (g.H.Hall.state c.args.hall.now)

pub returns-in-Some-clause-goes_on : goal.returns-in-Some-clause-goes_on
returns-in-Some-clause-goes_on g c = g.met.H.Hall.goes_on_same _

pub returns-in-Some-clause-agrees : goal.returns-in-Some-clause-agrees
returns-in-Some-clause-agrees g c =
    agrees_first c.args.self.now c.args.heap.now c.allocate_in.new.heap c.with_flags-first.result c.args.tag c.allocate_in.result (g.H.Hall.state c.args.hall.now) c.allocate_in.ensures.step
    c.requires.holds c.in-Some.addr c.in-Some.is

-- IT in-Some NONE IN EXTERNAL MEMORY

pub returns-in_default-serves-clause-does : goal.returns-in_default-serves-clause-does
returns-in_default-serves-clause-does g c = λ its heaps named.
    let place = c.args.place.now in
    let doer = c.args.self.now in
    let a = g.H.Hall.state c.args.hall.now in
    let request = c.args.request.now in
    subst (λ (at : ℕ). Tries at [] a.count (did_in doer.party.me a a) (trying doer.context.pools request c.args.tag (its ∷ heaps))
    (trying doer.context.pools request c.args.tag heaps) None (moment_with c.args.heap.now doer.party.me doer a)
    (moment_with c.allocate_in.new.heap doer.party.me c.allocate_in.new.self a)) (index_is its place named)
    (passed_external doer c.allocate_in.new.self a c.args.heap.now c.allocate_in.new.heap its request c.with_flags-first.result c.args.tag
    c.allocate_in.result
    (asked_is its place request c.with_flags-first.result c.first_flags.result named c.first_flags.ensures c.with_flags-first.ensures) c.allocate_in.ensures.step
    c.allocate_in.ensures.counted (index_is its place named ∙ c.requires.its) heaps (serves_is its place named ∙ c.in_default-serves.is) c.in_default.is)

pub returns-in_default-serves-clause-lies : goal.returns-in_default-serves-clause-lies
returns-in_default-serves-clause-lies g c = λ given. lies_none c.args.self.now.party.me (g.H.Hall.state c.args.hall.now) given

pub returns-in_default-serves-clause-clock : goal.returns-in_default-serves-clause-clock
returns-in_default-serves-clause-clock g c = λ one. omega arith

pub returns-in_default-serves-clause-keeps : goal.returns-in_default-serves-clause-keeps
returns-in_default-serves-clause-keeps g c =
    keeps_alloc c.args.self.now c.allocate_in.new.self c.args.heap.now c.allocate_in.new.heap c.with_flags-first.result c.args.tag c.allocate_in.result
    (g.H.Hall.state c.args.hall.now) c.allocate_in.ensures.step c.allocate_in.ensures.counted c.requires.named c.requires.holds

pub returns-in_default-serves-clause-names : goal.returns-in_default-serves-clause-names
returns-in_default-serves-clause-names g c = names_same c.args.self.now.party.me (g.H.Hall.state c.args.hall.now)

pub returns-in_default-serves-clause-goes_on : goal.returns-in_default-serves-clause-goes_on
returns-in_default-serves-clause-goes_on g c = g.met.H.Hall.goes_on_same _

pub returns-in_default-serves-clause-agrees : goal.returns-in_default-serves-clause-agrees
returns-in_default-serves-clause-agrees g c =
    agrees_passed (keeps_searched c.args.self.now c.args.heap.now c.allocate_in.new.heap c.with_flags-first.result c.args.tag c.allocate_in.result (g.H.Hall.state c.args.hall.now) c.allocate_in.ensures.step
    c.requires.holds c.allocate_in.ensures.none c.in_default.is)

-- PAGES ARE ASKED FOR

pub grow-requires-clause-holds : goal.grow-requires-clause-holds
grow-requires-clause-holds g c =
    holds_on (keeps_alloc c.args.self.now c.allocate_in.new.self c.args.heap.now c.allocate_in.new.heap c.with_flags-first.result c.args.tag
    c.allocate_in.result (g.H.Hall.state c.args.hall.now) c.allocate_in.ensures.step c.allocate_in.ensures.counted c.requires.named
    c.requires.holds) c.requires.holds

pub grow-requires-clause-its : goal.grow-requires-clause-its
grow-requires-clause-its g c = c.requires.its ∙ sym (call_index _ _ _ _ _ c.allocate_in.ensures.step)

pub grow-requires-clause-of_socket : goal.grow-requires-clause-of_socket
grow-requires-clause-of_socket g c = call_serves _ _ _ _ _ c.allocate_in.ensures.step ∙ (c.requires.of_socket ∙ c.in-Some-serves.is)

pub grow-requires-clause-room : goal.grow-requires-clause-room
grow-requires-clause-room g c =
    let room =
    room_called 2 c.args.self.now c.allocate_in.new.self c.args.heap.now c.allocate_in.new.heap c.allocate_in.ensures.step.spare
    c.allocate_in.ensures.counted c.requires.room in
    let spare = room.spare in
    let counted = room.counted in
    record { spare = omega (arith, spare); counted = omega (arith, counted) }

-- IT STOPPED MEANWHILE

pub returns-in_err-grow-clause-halts : goal.returns-in_err-grow-clause-halts
returns-in_err-grow-clause-halts g c =
    let place = c.args.place.now in
    let doer = c.args.self.now in
    let mid = c.allocate_in.new.self in
    let grown = c.grow.new.self in
    let heap = c.args.heap.now in
    let next = c.allocate_in.new.heap in
    let more = c.grow.new.heap in
    let a = g.H.Hall.state c.args.hall.now in
    let b = g.H.Hall.state c.grow.new.hall in
    let request = c.args.request.now in
    let socket = c.in-Some-serves.socket in
    let halts : (its : NamedHeap) (heaps : List NamedHeap) → place_named its ≡ place
    → HaltsHeld doer.party.me doer grown heap more a b (trying doer.context.pools request c.args.tag (its ∷ heaps)) =
    λ its heaps named.
    halted doer mid a heap next its request c.with_flags-first.result c.args.tag c.allocate_in.result
    (asked_is its place request c.with_flags-first.result c.first_flags.result named c.first_flags.ensures c.with_flags-first.ensures) c.allocate_in.ensures.step
    c.allocate_in.ensures.counted (index_is its place named ∙ c.requires.its) heaps socket (serves_is its place named ∙ c.in-Some-serves.is) grown b more
    c.in_default.is
    (λ tag otherwise.
    subst (λ (at : ℕ). HaltsHeld mid.party.me mid grown next more a b
    (asking at socket request tag otherwise (page_sizes_for mid.context.pools socket request.flags))) (sym (index_is its place named))
    (c.in_err-grow.ensures.halts tag otherwise)) in
    on_err_any _ _ halts

pub returns-in_err-grow-clause-clock : goal.returns-in_err-grow-clause-clock
returns-in_err-grow-clause-clock g c = λ one. omega (arith, c.grow.ensures.clock one, ap (λ (doer : ParticipantView). doer.party.deadline) c.allocate_in.ensures.counted)

pub returns-in_err-grow-clause-keeps : goal.returns-in_err-grow-clause-keeps
returns-in_err-grow-clause-keeps g c = keeps_grown c.args.self.now c.allocate_in.new.self c.grow.new.self c.args.heap.now c.allocate_in.new.heap c.grow.new.heap
    c.with_flags-first.result c.args.request.now c.args.tag c.allocate_in.result (g.H.Hall.state c.args.hall.now) (g.H.Hall.state c.grow.new.hall)
    c.allocate_in.ensures.step c.allocate_in.ensures.counted c.requires.named c.requires.holds c.grow.ensures.keeps

pub returns-in_err-grow-clause-names : goal.returns-in_err-grow-clause-names
returns-in_err-grow-clause-names g c = names_kept (keeps_grown c.args.self.now c.allocate_in.new.self c.grow.new.self c.args.heap.now c.allocate_in.new.heap c.grow.new.heap
    c.with_flags-first.result c.args.request.now c.args.tag c.allocate_in.result (g.H.Hall.state c.args.hall.now) (g.H.Hall.state c.grow.new.hall)
    c.allocate_in.ensures.step c.allocate_in.ensures.counted c.requires.named c.requires.holds c.grow.ensures.keeps)

pub returns-in_err-grow-clause-goes_on : goal.returns-in_err-grow-clause-goes_on
returns-in_err-grow-clause-goes_on g c = c.grow.ensures.goes_on

pub returns-in_err-grow-clause-agrees : goal.returns-in_err-grow-clause-agrees
returns-in_err-grow-clause-agrees g c =
    let me = c.args.self.now.party.me in
    subst (λ (given : Option Answer). AgreeOnceAnsweredIn me c.args.tag given c.args.heap.now c.grow.new.heap
    ((g.H.Hall.state c.args.hall.now).part me) ((g.H.Hall.state c.grow.new.hall).part me))
    (stopped_none c.from_residual.result c.from_residual.ensures.0)
    (agrees_passed (keeps_asked c.args.self.now c.args.heap.now c.allocate_in.new.heap c.with_flags-first.result c.args.tag c.allocate_in.result (g.H.Hall.state c.args.hall.now) c.allocate_in.ensures.step
    c.requires.holds c.allocate_in.ensures.none c.in_default.is c.allocate_in.new.self c.grow.new.self c.grow.new.heap (g.H.Hall.state c.grow.new.hall)
    (ap (λ (doer : ParticipantView). doer.party.me) c.allocate_in.ensures.counted) c.grow.ensures.keeps c.grow.ensures.says))

-- NONE WERE c.if-not-branch.false

pub returns-then-not-branch-clause-does : goal.returns-then-not-branch-clause-does
returns-then-not-branch-clause-does g c = λ its heaps named.
    let place = c.args.place.now in
    let doer = c.args.self.now in
    let mid = c.allocate_in.new.self in
    let grown = c.grow.new.self in
    let heap = c.args.heap.now in
    let next = c.allocate_in.new.heap in
    let more = c.grow.new.heap in
    let a = g.H.Hall.state c.args.hall.now in
    let b = g.H.Hall.state c.grow.new.hall in
    let request = c.args.request.now in
    let socket = c.in-Some-serves.socket in
    let keeps = keeps_grown c.args.self.now c.allocate_in.new.self c.grow.new.self c.args.heap.now c.allocate_in.new.heap c.grow.new.heap
    c.with_flags-first.result c.args.request.now c.args.tag c.allocate_in.result (g.H.Hall.state c.args.hall.now) (g.H.Hall.state c.grow.new.hall)
    c.allocate_in.ensures.step c.allocate_in.ensures.counted c.requires.named c.requires.holds c.grow.ensures.keeps in
    subst (λ (at : ℕ). Tries at [] a.count (did_in doer.party.me a b) (trying doer.context.pools request c.args.tag (its ∷ heaps))
    (trying doer.context.pools request c.args.tag heaps) None (moment_with heap doer.party.me doer a)
    (moment_with more doer.party.me grown b)) (index_is its place named)
    (passed doer mid a heap next its request c.with_flags-first.result c.args.tag c.allocate_in.result
    (asked_is its place request c.with_flags-first.result c.first_flags.result named c.first_flags.ensures c.with_flags-first.ensures) c.allocate_in.ensures.step
    c.allocate_in.ensures.counted (index_is its place named ∙ c.requires.its) heaps socket (serves_is its place named ∙ c.in-Some-serves.is) grown b more
    c.in_ok-grow.field-0 c.in_default.is
    (λ tag otherwise.
    subst (λ (at : ℕ). DoesHeld mid.party.me mid grown next more a b
    (asking at socket request tag otherwise (page_sizes_for mid.context.pools socket request.flags))
    (after_asking at request tag otherwise c.in_ok-grow.field-0)) (sym (index_is its place named)) (c.in_ok-grow.ensures.does tag otherwise)) (c.if-not-branch.true))

pub returns-then-not-branch-clause-lies : goal.returns-then-not-branch-clause-lies
returns-then-not-branch-clause-lies g c = λ given. lies_none c.args.self.now.party.me (g.H.Hall.state c.grow.new.hall) given

pub returns-then-not-branch-clause-clock : goal.returns-then-not-branch-clause-clock
returns-then-not-branch-clause-clock g c = λ one. omega (arith, c.grow.ensures.clock one, ap (λ (doer : ParticipantView). doer.party.deadline) c.allocate_in.ensures.counted)

pub returns-then-not-branch-clause-keeps : goal.returns-then-not-branch-clause-keeps
returns-then-not-branch-clause-keeps g c = keeps_grown c.args.self.now c.allocate_in.new.self c.grow.new.self c.args.heap.now c.allocate_in.new.heap c.grow.new.heap
    c.with_flags-first.result c.args.request.now c.args.tag c.allocate_in.result (g.H.Hall.state c.args.hall.now) (g.H.Hall.state c.grow.new.hall)
    c.allocate_in.ensures.step c.allocate_in.ensures.counted c.requires.named c.requires.holds c.grow.ensures.keeps

pub returns-then-not-branch-clause-names : goal.returns-then-not-branch-clause-names
returns-then-not-branch-clause-names g c = names_kept (keeps_grown c.args.self.now c.allocate_in.new.self c.grow.new.self c.args.heap.now c.allocate_in.new.heap c.grow.new.heap
    c.with_flags-first.result c.args.request.now c.args.tag c.allocate_in.result (g.H.Hall.state c.args.hall.now) (g.H.Hall.state c.grow.new.hall)
    c.allocate_in.ensures.step c.allocate_in.ensures.counted c.requires.named c.requires.holds c.grow.ensures.keeps)

pub returns-then-not-branch-clause-goes_on : goal.returns-then-not-branch-clause-goes_on
returns-then-not-branch-clause-goes_on g c = c.grow.ensures.goes_on

pub returns-then-not-branch-clause-agrees : goal.returns-then-not-branch-clause-agrees
returns-then-not-branch-clause-agrees g c =
    agrees_passed (keeps_asked c.args.self.now c.args.heap.now c.allocate_in.new.heap c.with_flags-first.result c.args.tag c.allocate_in.result (g.H.Hall.state c.args.hall.now) c.allocate_in.ensures.step
    c.requires.holds c.allocate_in.ensures.none c.in_default.is c.allocate_in.new.self c.grow.new.self c.grow.new.heap (g.H.Hall.state c.grow.new.hall)
    (ap (λ (doer : ParticipantView). doer.party.me) c.allocate_in.ensures.counted) c.grow.ensures.keeps c.grow.ensures.says)

-- SOME WERE, AND IT IS SEARCHED AGAIN

pub allocate_in-requires-2 : goal.allocate_in-requires-2
allocate_in-requires-2 g c =
    let room =
    room_called 2 c.args.self.now c.allocate_in.new.self c.args.heap.now c.allocate_in.new.heap c.allocate_in.ensures.step.spare
    c.allocate_in.ensures.counted c.requires.room in
    let left = c.grow.ensures.spare in
    let calls = c.grow.ensures.more in
    let spare = room.spare in
    let counted = room.counted in
    record { spare = omega (arith, spare, left); counted = omega (arith, counted, calls) }

pub returns-in-Some-allocate_in-clause-does : goal.returns-in-Some-allocate_in-clause-does
returns-in-Some-allocate_in-clause-does g c = λ its heaps named.
    let place = c.args.place.now in
    let doer = c.args.self.now in
    let mid = c.allocate_in.new.self in
    let grown = c.grow.new.self in
    let heap = c.args.heap.now in
    let next = c.allocate_in.new.heap in
    let more = c.grow.new.heap in
    let a = g.H.Hall.state c.args.hall.now in
    let b = g.H.Hall.state c.grow.new.hall in
    let request = c.args.request.now in
    let socket = c.in-Some-serves.socket in
    let keeps = keeps_grown c.args.self.now c.allocate_in.new.self c.grow.new.self c.args.heap.now c.allocate_in.new.heap c.grow.new.heap
    c.with_flags-first.result c.args.request.now c.args.tag c.allocate_in.result (g.H.Hall.state c.args.hall.now) (g.H.Hall.state c.grow.new.hall)
    c.allocate_in.ensures.step c.allocate_in.ensures.counted c.requires.named c.requires.holds c.grow.ensures.keeps in
    let last = c.allocate_in-2.new.self in
    let again = c.allocate_in-2.new.heap in
    subst (λ (at : ℕ). Tries at [] a.count (did_in doer.party.me a b) (trying doer.context.pools request c.args.tag (its ∷ heaps))
    (trying doer.context.pools request c.args.tag heaps) (Some (gives.Address c.in-Some-allocate_in.addr)) (moment_with heap doer.party.me doer a)
    (moment_with again doer.party.me last b)) (index_is its place named)
    (found_again doer mid a heap next its request c.with_flags-first.result c.args.tag c.allocate_in.result
    (asked_is its place request c.with_flags-first.result c.first_flags.result named c.first_flags.ensures c.with_flags-first.ensures) c.allocate_in.ensures.step
    c.allocate_in.ensures.counted (index_is its place named ∙ c.requires.its) heaps socket (serves_is its place named ∙ c.in-Some-serves.is) grown b more
    c.in_ok-grow.field-0 c.in_default.is
    (λ tag otherwise.
    subst (λ (at : ℕ). DoesHeld mid.party.me mid grown next more a b
    (asking at socket request tag otherwise (page_sizes_for mid.context.pools socket request.flags))
    (after_asking at request tag otherwise c.in_ok-grow.field-0)) (sym (index_is its place named)) (c.in_ok-grow.ensures.does tag otherwise)) last again c.allocate_in-2.result c.allocate_in-2.ensures.step c.allocate_in-2.ensures.counted
    (index_is its place named ∙ (c.requires.its ∙ sym keeps.index)) (c.if-not-branch.false) c.in-Some-allocate_in.addr c.in-Some-allocate_in.is)

pub returns-in-Some-allocate_in-clause-lies : goal.returns-in-Some-allocate_in-clause-lies
returns-in-Some-allocate_in-clause-lies g c = λ given.
    lies_so c.args.self.now.party.me (g.H.Hall.state c.grow.new.hall) (gives.Address c.in-Some-allocate_in.addr) given
    (lies_again c.args.self.now c.allocate_in.new.self c.grow.new.self c.args.heap.now c.allocate_in.new.heap c.grow.new.heap
    c.with_flags-first.result c.args.request.now c.args.tag c.allocate_in.result (g.H.Hall.state c.args.hall.now) (g.H.Hall.state c.grow.new.hall)
    c.allocate_in.ensures.step c.allocate_in.ensures.counted c.requires.named c.requires.holds c.grow.ensures.keeps c.allocate_in-2.new.heap c.in-Some-allocate_in.addr c.in-Some-allocate_in.ensures.step)

pub returns-in-Some-allocate_in-clause-clock : goal.returns-in-Some-allocate_in-clause-clock
returns-in-Some-allocate_in-clause-clock g c = λ one. omega (arith, c.grow.ensures.clock one, ap (λ (doer : ParticipantView). doer.party.deadline) c.allocate_in.ensures.counted)

pub returns-in-Some-allocate_in-clause-keeps : goal.returns-in-Some-allocate_in-clause-keeps
returns-in-Some-allocate_in-clause-keeps g c = keeps_again c.args.self.now c.allocate_in.new.self c.grow.new.self c.args.heap.now c.allocate_in.new.heap c.grow.new.heap
    c.with_flags-first.result c.args.request.now c.args.tag c.allocate_in.result (g.H.Hall.state c.args.hall.now) (g.H.Hall.state c.grow.new.hall)
    c.allocate_in.ensures.step c.allocate_in.ensures.counted c.requires.named c.requires.holds c.grow.ensures.keeps c.allocate_in-2.new.self c.allocate_in-2.new.heap c.allocate_in-2.result c.allocate_in-2.ensures.step c.allocate_in-2.ensures.counted

pub returns-in-Some-allocate_in-clause-names : goal.returns-in-Some-allocate_in-clause-names
returns-in-Some-allocate_in-clause-names g c = names_kept (keeps_again c.args.self.now c.allocate_in.new.self c.grow.new.self c.args.heap.now c.allocate_in.new.heap c.grow.new.heap
    c.with_flags-first.result c.args.request.now c.args.tag c.allocate_in.result (g.H.Hall.state c.args.hall.now) (g.H.Hall.state c.grow.new.hall)
    c.allocate_in.ensures.step c.allocate_in.ensures.counted c.requires.named c.requires.holds c.grow.ensures.keeps c.allocate_in-2.new.self c.allocate_in-2.new.heap c.allocate_in-2.result c.allocate_in-2.ensures.step c.allocate_in-2.ensures.counted)

pub returns-in-Some-allocate_in-clause-goes_on : goal.returns-in-Some-allocate_in-clause-goes_on
returns-in-Some-allocate_in-clause-goes_on g c = c.grow.ensures.goes_on

pub returns-in-Some-allocate_in-clause-agrees : goal.returns-in-Some-allocate_in-clause-agrees
returns-in-Some-allocate_in-clause-agrees g c =
    agrees_again c.args.self.now c.args.heap.now c.allocate_in.new.heap c.with_flags-first.result c.args.tag c.allocate_in.result (g.H.Hall.state c.args.hall.now) c.allocate_in.ensures.step
    c.requires.holds c.allocate_in.ensures.none c.in_default.is c.allocate_in.new.self c.grow.new.self c.grow.new.heap (g.H.Hall.state c.grow.new.hall)
    (ap (λ (doer : ParticipantView). doer.party.me) c.allocate_in.ensures.counted) c.grow.ensures.keeps c.grow.ensures.says
    c.args.request.now c.allocate_in-2.result c.allocate_in-2.new.heap c.allocate_in-2.ensures.step c.in-Some-allocate_in.addr c.in-Some-allocate_in.is

pub returns-in-None-clause-does : goal.returns-in-None-clause-does
returns-in-None-clause-does g c = λ its heaps named.
    let place = c.args.place.now in
    let doer = c.args.self.now in
    let mid = c.allocate_in.new.self in
    let grown = c.grow.new.self in
    let heap = c.args.heap.now in
    let next = c.allocate_in.new.heap in
    let more = c.grow.new.heap in
    let a = g.H.Hall.state c.args.hall.now in
    let b = g.H.Hall.state c.grow.new.hall in
    let request = c.args.request.now in
    let socket = c.in-Some-serves.socket in
    let keeps = keeps_grown c.args.self.now c.allocate_in.new.self c.grow.new.self c.args.heap.now c.allocate_in.new.heap c.grow.new.heap
    c.with_flags-first.result c.args.request.now c.args.tag c.allocate_in.result (g.H.Hall.state c.args.hall.now) (g.H.Hall.state c.grow.new.hall)
    c.allocate_in.ensures.step c.allocate_in.ensures.counted c.requires.named c.requires.holds c.grow.ensures.keeps in
    let last = c.allocate_in-2.new.self in
    let again = c.allocate_in-2.new.heap in
    subst (λ (at : ℕ). Tries at [] a.count (did_in doer.party.me a b) (trying doer.context.pools request c.args.tag (its ∷ heaps))
    (trying doer.context.pools request c.args.tag heaps) (Some gives.None) (moment_with heap doer.party.me doer a)
    (moment_with again doer.party.me last b)) (index_is its place named)
    (found_none doer mid a heap next its request c.with_flags-first.result c.args.tag c.allocate_in.result
    (asked_is its place request c.with_flags-first.result c.first_flags.result named c.first_flags.ensures c.with_flags-first.ensures) c.allocate_in.ensures.step
    c.allocate_in.ensures.counted (index_is its place named ∙ c.requires.its) heaps socket (serves_is its place named ∙ c.in-Some-serves.is) grown b more
    c.in_ok-grow.field-0 c.in_default.is
    (λ tag otherwise.
    subst (λ (at : ℕ). DoesHeld mid.party.me mid grown next more a b
    (asking at socket request tag otherwise (page_sizes_for mid.context.pools socket request.flags))
    (after_asking at request tag otherwise c.in_ok-grow.field-0)) (sym (index_is its place named)) (c.in_ok-grow.ensures.does tag otherwise)) last again c.allocate_in-2.result c.allocate_in-2.ensures.step c.allocate_in-2.ensures.counted
    (index_is its place named ∙ (c.requires.its ∙ sym keeps.index)) (c.if-not-branch.false) c.in-None.is)

pub returns-in-None-clause-lies : goal.returns-in-None-clause-lies
returns-in-None-clause-lies g c = λ given. lies_so c.args.self.now.party.me (g.H.Hall.state c.grow.new.hall) gives.None given tt

pub returns-in-None-clause-clock : goal.returns-in-None-clause-clock
returns-in-None-clause-clock g c = λ one. omega (arith, c.grow.ensures.clock one, ap (λ (doer : ParticipantView). doer.party.deadline) c.allocate_in.ensures.counted)

pub returns-in-None-clause-keeps : goal.returns-in-None-clause-keeps
returns-in-None-clause-keeps g c = keeps_again c.args.self.now c.allocate_in.new.self c.grow.new.self c.args.heap.now c.allocate_in.new.heap c.grow.new.heap
    c.with_flags-first.result c.args.request.now c.args.tag c.allocate_in.result (g.H.Hall.state c.args.hall.now) (g.H.Hall.state c.grow.new.hall)
    c.allocate_in.ensures.step c.allocate_in.ensures.counted c.requires.named c.requires.holds c.grow.ensures.keeps c.allocate_in-2.new.self c.allocate_in-2.new.heap c.allocate_in-2.result c.allocate_in-2.ensures.step c.allocate_in-2.ensures.counted

pub returns-in-None-clause-names : goal.returns-in-None-clause-names
returns-in-None-clause-names g c = names_kept (keeps_again c.args.self.now c.allocate_in.new.self c.grow.new.self c.args.heap.now c.allocate_in.new.heap c.grow.new.heap
    c.with_flags-first.result c.args.request.now c.args.tag c.allocate_in.result (g.H.Hall.state c.args.hall.now) (g.H.Hall.state c.grow.new.hall)
    c.allocate_in.ensures.step c.allocate_in.ensures.counted c.requires.named c.requires.holds c.grow.ensures.keeps c.allocate_in-2.new.self c.allocate_in-2.new.heap c.allocate_in-2.result c.allocate_in-2.ensures.step c.allocate_in-2.ensures.counted)

pub returns-in-None-clause-goes_on : goal.returns-in-None-clause-goes_on
returns-in-None-clause-goes_on g c = c.grow.ensures.goes_on

pub returns-in-None-clause-agrees : goal.returns-in-None-clause-agrees
returns-in-None-clause-agrees g c =
    agrees_missing c.args.self.now c.args.heap.now c.allocate_in.new.heap c.with_flags-first.result c.args.tag c.allocate_in.result (g.H.Hall.state c.args.hall.now) c.allocate_in.ensures.step
    c.requires.holds c.allocate_in.ensures.none c.in_default.is c.allocate_in.new.self c.grow.new.self c.grow.new.heap (g.H.Hall.state c.grow.new.hall)
    (ap (λ (doer : ParticipantView). doer.party.me) c.allocate_in.ensures.counted) c.grow.ensures.keeps c.grow.ensures.says
    c.args.request.now c.allocate_in-2.result c.allocate_in-2.new.heap c.allocate_in-2.ensures.step c.allocate_in-2.ensures.none c.in-None.is
