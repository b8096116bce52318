-- A heap is held, looked into and given back.
use Rattle.std.proofs.Common.{◌≡◌, ◌∙◌, ℕ, List, [], ◌∷◌, Option, ap, sym, subst, inl, arith}
use Rattle.std.specs.Prelude.{slice_get}
use Rattle.hp_heap.specs.History.{HeapView}
use Rattle.hp_hall.specs.Holding.{HeapPart}
use Rattle.hp_hall.specs.declared.kept.Kept.{Kept}
use Rattle.hp_log.specs.declared.log_record.LogRecord.{LogRecord}
use Rattle.hp_segs.specs.declared.outcome.AskLog.{AskLog}
use Rattle.hp_proc.specs.Contexts.{Context, IsPlaceOf}
use Rattle.hp_proc.specs.Doing.{Doing}
use Rattle.hp_proc.specs.Freeing.{acting, after_looking, looking}
use Rattle.hp_proc.specs.Heaps.{sockets_of}
use Rattle.hp_proc.specs.ParticipantView.{ParticipantView}
use Rattle.hp_proc.specs.Progress.{IsInHand, moment_of}
use Rattle.hp_proc.specs.declared.searched_heap.SearchedHeap.{SearchedHeap}
use Rattle.hp_serve.proofs.AskingFacts.AskedAlong.{on_err_any}
use Rattle.hp_proc.specs.LineInHall.{HaltsHere, HoldsIn, moment, moment_with}
use Rattle.hp_hall.specs.declared.slot.TheConstants.{NAMES_SLOT}
use Rattle.hp_proc.proofs.HandFacts.BesideNames.{but_home, called_home}
use Rattle.hp_proc.proofs.HandFacts.HeldBack.{back_then, beside_then, held_then, with_then}
use Rattle.hp_proc.proofs.HandFacts.Holds.{does_next}
use Rattle.hp_proc.proofs.participant.Participant.look_there.Goals as goal

-- a place that was taken is that of the heap in hand
socket_is : (taken : ℕ → Option Kept) (before doer : ParticipantView) (parts : ℕ → HeapPart) (log : List LogRecord) (asks : List AskLog)
    (heap : HeapView) (place : SearchedHeap) → doer.context ≡ before.context → IsPlaceOf before.context.pools place
    → heap.plain.index ≡ place.index → IsInHand taken (moment_of doer parts log asks) heap → place.serves ≡ heap.plain.serves
socket_is taken before doer parts log asks heap place knew of its hand =
    of.serves ∙ ap (λ (context : Context). slice_get (sockets_of context.pools) place.index) (sym knew)
    ∙ ap (λ (index : ℕ). slice_get (sockets_of doer.context.pools) index) (sym its)
    ∙ sym (hand.sockets heap.plain.index) ∙ sym hand.its_socket

pub look_held-left-requires-clause-holds : goal.look_held-left-requires-clause-holds
look_held-left-requires-clause-holds g c =
    subst (λ (who : ℕ). HoldsIn who c.hold.new.self c.in_ok-heap.heap (g.H.Hall.state c.hold.new.hall)) (sym c.hold.ensures.same.me)
    c.in_ok-heap.ensures.hand.holds

pub look_held-left-requires-clause-of_socket : goal.look_held-left-requires-clause-of_socket
look_held-left-requires-clause-of_socket g c =
    let me = c.args.self.now.party.me in
    let hall = g.H.Hall.state c.hold.new.hall in
    socket_is hall.taken c.args.self.now c.hold.new.self (hall.part me) (hall.seen me) (hall.heard me)
    c.in_ok-heap.heap c.args.place.now c.hold.ensures.context c.requires.place c.in_ok-heap.ensures.hand.index
    c.in_ok-heap.ensures.hand.holds.in_hand

pub hold-requires-clause-ready : goal.hold-requires-clause-ready
hold-requires-clause-ready g c = but_home c.requires.ready

pub hold-requires-clause-beside : goal.hold-requires-clause-beside
hold-requires-clause-beside g c = inl (c.requires.ready.idle.free NAMES_SLOT)

pub put-requires : goal.put-requires
put-requires g c =
    let hold = c.hold.ensures in
    let hand = c.in_ok-heap.ensures.hand in
    let keeps = c.look_held-left.ensures.keeps in
    let held = held_then hold.same hold.context c.requires.place.few hold.slots hand keeps in
    record {
      serves = held.can.may.serves;
      in_hand = held.in_hand;
      settled = held.settled;
      taken_with = with_then hold.same hold.context c.requires.place.few hold.slots hand keeps;
      beside = beside_then hold.same hold.context c.requires.place.few hold.slots hand keeps (inl (c.requires.ready.idle.free NAMES_SLOT));
    }

pub returns : goal.returns
returns g c =
    let doer = c.args.self.now in
    let me = doer.party.me in
    let first = g.H.Hall.state c.args.hall.now in
    let second = g.H.Hall.state c.hold.new.hall in
    let third = g.H.Hall.state c.look_held-left.new.hall in
    let last = g.H.Hall.state c.put.new.hall in
    let holds = c.hold.new.self in
    let after = c.look_held-left.new.self in
    let heap = c.in_ok-heap.heap in
    let next = c.look_held-left.new.heap in
    let here = c.hold.ensures.same.me in
    let is = c.look_held-left.ensures in
    let count = (g.met.H.Hall.goes_on_later _ _ c.hold.ensures.goes_on).count in
    let there : after.party.me ≡ me = is.keeps.remains.same.me ∙ here in
    let put = c.put.ensures in
    let took = c.in_ok-heap.ensures in
    let back =
    back_then c.hold.ensures.same c.hold.ensures.context c.requires.place.few c.hold.ensures.slots took.hand is.keeps put.marks put.tied put.ready
    put.table put.agreed put.free put.slots put.others in
    record {
      does = λ places.
          let doing : Doing = looking c.args.tag (acting c.args.action) (c.args.place.now ∷ places) in
          let rest : Doing = after_looking c.args.place.now.index (looking c.args.tag (acting c.args.action) places) c.look_held-left.result in
          does_next me (moment me doer first) (λ who. moment_with next who after third) (λ who. moment who after last) there (is.others.later.count ∙ count)
          (does_next me (moment me doer first) (λ who. moment_with heap who holds second) (λ who. moment_with next who after third) here count
          (took.did doing) (is.does places)) (put.does rest);
      halts = tt;
      clock = λ one. omega (arith, c.hold.ensures.clock one, is.others.clock, put.others.clock);
      ready = called_home c.requires.ready back;
      goes_on = g.met.H.Hall.goes_on_then _ _ _ c.hold.ensures.goes_on (g.met.H.Hall.goes_on_then _ _ _ is.goes_on put.goes_on);
    }

pub returns-in_err-heap-clause-ready : goal.returns-in_err-heap-clause-ready
returns-in_err-heap-clause-ready g c = called_home c.requires.ready c.in_err-heap.ensures.err

pub returns-in_err-heap-clause-halts : goal.returns-in_err-heap-clause-halts
returns-in_err-heap-clause-halts g c =
    let doer = c.args.self.now in
    let place = c.args.place.now in
    let halts : (places : List SearchedHeap) → HaltsHere (place.index ∷ []) doer.party.me doer c.hold.new.self (g.H.Hall.state c.args.hall.now)
    (g.H.Hall.state c.hold.new.hall) (looking c.args.tag (acting c.args.action) (place ∷ places)) =
    λ places. c.in_err-heap.ensures.halts (looking c.args.tag (acting c.args.action) (place ∷ places)) in
    on_err_any _ _ halts
