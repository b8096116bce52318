-- The heap that was taken has room, or goes back.
use Rattle.std.proofs.Common.{◌≡◌, ◌∙◌, ℕ, ◌<◌, [], ◌∷◌, None, refl, ap, sym, subst, arith}
use Rattle.hp_base.specs.declared.limits.TheConstants.{MAX_HEAPS}
use Rattle.hp_heap.specs.History.{HeapView}
use Rattle.hp_heap.specs.PlainHeap.{PlainHeap}
use Rattle.hp_hall.proofs.HallStates.{did_same, did_then}
use Rattle.hp_hall.specs.HallState.{HallState, SlotsStayBut}
use Rattle.hp_hall.specs.Holding.{AgreeWith}
use Rattle.hp_hall.specs.declared.slot.TheConstants.{NAMES_SLOT}
use Rattle.hp_proc.specs.LineInHall.{AreFreeBesideNames, HoldsIn, IsBesideTheNames, IsReadyBut, MayGiveBeside, did_in, moment, moment_with}
use Rattle.hp_proc.specs.NamesInHand.{KeepsAgreed, with_naming}
use Rattle.hp_proc.specs.Progress.{AreSettled, Does, IsInHand}
use Rattle.hp_proc.proofs.Halted.{halts_of, halts_same}
use Rattle.hp_proc.proofs.HandFacts.BesideNames.{gives_beside, names_same}
use Rattle.hp_proc.proofs.HandFacts.HandCalls.{does_spared, hand_spared, spared_taken, taken_with}
use Rattle.hp_proc.proofs.HandFacts.SeenHeap.{sees_spared}
use Rattle.hp_proc.proofs.HandFacts.Holds.{knew_same, names_put, ready_put, spared_agrees, spared_holds}
use Rattle.hp_proc.proofs.Joining.{does_then}
use Rattle.hp_serve.proofs.Carrying.{same_party}
use Rattle.hp_proc.proofs.participant.Participant.hold.Goals as goal

-- it did nothing with the names where it gave the heap back, of that index
put_beside : {me who slot : ℕ} (heap : HeapView) {old a b : HallState} → who ≡ me → heap.plain.index ≡ slot → slot < MAX_HEAPS
    → AreFreeBesideNames slot me old a → KeepsAgreed who heap a b → SlotsStayBut heap.plain.index a b → IsBesideTheNames me old b
put_beside {me} {who} {slot} heap {old} {a} {b} same index few free agreed slots =
    names_put (subst (λ (slot : ℕ). slot < MAX_HEAPS) (sym index) few)
    (subst (λ (slot : ℕ). AreFreeBesideNames slot me old a) (sym index) free)
    (subst (λ (who : ℕ). KeepsAgreed who heap a b) same agreed) slots

pub put-requires-clause-serves : goal.put-requires-clause-serves
put-requires-clause-serves g c =
    subst (g.H.Hall.state c.take_heap.new.hall).serves (sym c.take_heap.ensures.same.me) c.in_ok-heap.ensures.hand.holds.can.may.serves

pub put-requires-clause-in_hand : goal.put-requires-clause-in_hand
put-requires-clause-in_hand g c =
    let mid = g.H.Hall.state c.take_heap.new.hall in
    let doer = c.take_heap.new.self in
    subst (λ (who : ℕ). IsInHand mid.taken (moment who doer mid) c.reserve.new.self) (sym c.take_heap.ensures.same.me)
    (hand_spared c.in_ok-heap.heap c.reserve.new.self c.reserve.ensures.same _ mid.taken c.in_ok-heap.ensures.hand.holds.in_hand)

pub put-requires-clause-settled : goal.put-requires-clause-settled
put-requires-clause-settled g c =
    let mid = g.H.Hall.state c.take_heap.new.hall in
    subst (λ (who : ℕ). AreSettled (moment who c.take_heap.new.self mid)) (sym c.take_heap.ensures.same.me)
    c.in_ok-heap.ensures.hand.holds.settled

pub put-requires-clause-taken_with : goal.put-requires-clause-taken_with
put-requires-clause-taken_with g c =
    taken_with c.in_ok-heap.heap c.reserve.new.self (g.H.Hall.state c.take_heap.new.hall).taken
    (ap (λ (heap : PlainHeap). heap.index) c.reserve.ensures.same.plain) c.in_ok-heap.ensures.hand.taken_with

pub put-requires-clause-beside : goal.put-requires-clause-beside
put-requires-clause-beside g c =
    subst (λ (who : ℕ). MayGiveBeside who (g.H.Hall.state c.take_heap.new.hall)) (sym c.take_heap.ensures.same.me)
    (gives_beside c.take_heap.ensures.slots.names c.requires.beside)

pub returns-in-Ok-clause-did : goal.returns-in-Ok-clause-did
returns-in-Ok-clause-did g c = λ doing.
    does_spared c.in_ok-heap.heap c.reserve.new.self c.reserve.ensures.same
    (moment c.args.self.now.party.me c.take_heap.new.self (g.H.Hall.state c.take_heap.new.hall)) _ _ doing doing _ (c.in_ok-heap.ensures.did doing)

pub returns-in-Ok-clause-sees : goal.returns-in-Ok-clause-sees
returns-in-Ok-clause-sees g c = λ external goes.
    let same = c.reserve.ensures.same in
    let me = c.args.self.now.party.me in
    let old = g.H.Hall.state c.args.hall.now in
    let new = g.H.Hall.state c.take_heap.new.hall in
    let was : c.in_ok-heap.heap.plain.serves ≡ None = sym (ap (λ (heap : PlainHeap). heap.serves) same.plain) ∙ external in
    sees_spared c.in_ok-heap.heap c.reserve.new.self same c.args.index me c.args.self.now c.take_heap.new.self old new goes
    (c.in_ok-heap.ensures.sees was goes)

pub returns-in-Ok-clause-hand : goal.returns-in-Ok-clause-hand
returns-in-Ok-clause-hand g c =
    let held = c.in_ok-heap.ensures.hand.holds in
    let same = c.reserve.ensures.same in
    record {
      holds = spared_holds c.args.self.now.party.me c.take_heap.new.self c.in_ok-heap.heap c.reserve.new.self
          (g.H.Hall.state c.take_heap.new.hall) same held;
      index = ap (λ (heap : PlainHeap). heap.index) same.plain ∙ c.in_ok-heap.ensures.hand.index;
      taken_with = taken_with c.in_ok-heap.heap c.reserve.new.self (g.H.Hall.state c.take_heap.new.hall).taken
          (ap (λ (heap : PlainHeap). heap.index) same.plain) c.in_ok-heap.ensures.hand.taken_with;
      as_taken = spared_taken c.in_ok-heap.heap c.reserve.new.self (g.H.Hall.state c.take_heap.new.hall).taken same c.in_ok-heap.ensures.hand.as_taken;
    }

pub returns-in-Ok-clause-agreed : goal.returns-in-Ok-clause-agreed
returns-in-Ok-clause-agreed g c = λ names agree.
    spared_agrees c.in_ok-heap.heap c.reserve.new.self _ c.reserve.ensures.same (c.in_ok-heap.ensures.agreed names agree)

pub returns-in-Err-clause-slots : goal.returns-in-Err-clause-slots
returns-in-Err-clause-slots g c =
    let index = ap (λ (heap : PlainHeap). heap.index) c.reserve.ensures.same.plain ∙ c.in_ok-heap.ensures.hand.index in
    let was = c.take_heap.ensures.slots in
    let put = c.put.ensures.slots in
    record {
      taken = λ number apart away. put.taken number (λ same. apart (same ∙ index)) ∙ was.taken number apart away;
      home = λ number few apart. put.home number (λ same. apart (same ∙ index)) (was.home number few apart);
      names = put_beside c.reserve.new.self c.take_heap.ensures.same.me
          (ap (λ (heap : PlainHeap). heap.index) c.reserve.ensures.same.plain ∙ c.in_ok-heap.ensures.hand.index) c.requires.few
          c.take_heap.ensures.slots c.put.ensures.agreed c.put.ensures.slots;
    }

pub returns-in-Err-clause-err : goal.returns-in-Err-clause-err
returns-in-Err-clause-err g c =
    let me = c.args.self.now.party.me in
    let same = c.take_heap.ensures.same.me in
    let index = ap (λ (heap : PlainHeap). heap.index) c.reserve.ensures.same.plain ∙ c.in_ok-heap.ensures.hand.index in
    let old = g.H.Hall.state c.args.hall.now in
    let mid = g.H.Hall.state c.take_heap.new.hall in
    let new = g.H.Hall.state c.put.new.hall in
    let doer = c.take_heap.new.self in
    let heap = c.reserve.new.self in
    let put = c.put.ensures in
    let holds : HoldsIn me doer heap mid =
    spared_holds me doer c.in_ok-heap.heap heap mid c.reserve.ensures.same c.in_ok-heap.ensures.hand.holds in
    let free : AreFreeBesideNames heap.plain.index me old mid =
    subst (λ (index : ℕ). AreFreeBesideNames index me old mid) (sym index) c.take_heap.ensures.slots in
    record {
      same = c.take_heap.ensures.same;
      but = subst (λ (who : ℕ). IsReadyBut NAMES_SLOT who doer new) same
          (ready_put doer heap (subst (λ (who : ℕ). HoldsIn who doer heap mid) (sym same) holds)
          (subst (λ (who : ℕ). AreFreeBesideNames heap.plain.index who old mid) (sym same) free) put.marks put.tied put.ready put.table put.free
          put.slots put.others);
      context = knew_same c.args.self.now.context doer.context c.take_heap.ensures.context;
      names = put_beside c.reserve.new.self c.take_heap.ensures.same.me
          (ap (λ (heap : PlainHeap). heap.index) c.reserve.ensures.same.plain ∙ c.in_ok-heap.ensures.hand.index) c.requires.few
          c.take_heap.ensures.slots c.put.ensures.agreed c.put.ensures.slots;
    }

pub returns-in-Err-clause-agreed : goal.returns-in-Err-clause-agreed
returns-in-Err-clause-agreed g c = λ names agree.
    let same = c.take_heap.ensures.same.me in
    let mid = g.H.Hall.state c.take_heap.new.hall in
    let new = g.H.Hall.state c.put.new.hall in
    let held =
    spared_agrees c.in_ok-heap.heap c.reserve.new.self _ c.reserve.ensures.same (c.in_ok-heap.ensures.agreed names agree) in
    subst (λ (who : ℕ). AgreeWith (new.part who) names) same
    (c.put.ensures.agreed.agrees names
    (subst (λ (who : ℕ). AgreeWith (with_naming c.reserve.new.self (mid.part who)) names) (sym same) held))

pub returns-in-Err-clause-goes_on : goal.returns-in-Err-clause-goes_on
returns-in-Err-clause-goes_on g c = g.met.H.Hall.goes_on_then _ _ _ c.take_heap.ensures.goes_on c.put.ensures.goes_on

pub returns-in-Err-clause-clock : goal.returns-in-Err-clause-clock
returns-in-Err-clause-clock g c = λ one. omega (arith, c.take_heap.ensures.clock one, c.put.ensures.others.clock)

-- without a number for its calls nothing was done
pub returns-then-is_none-clause-err : goal.returns-then-is_none-clause-err
returns-then-is_none-clause-err g c = record {
  same = same_party c.args.self.now.party;
  but = c.requires.ready;
  context = refl;
  names = names_same c.args.self.now.party.me (g.H.Hall.state c.args.hall.now);
}

pub returns-then-is_none-clause-slots : goal.returns-then-is_none-clause-slots
returns-then-is_none-clause-slots g c =
    let free = c.requires.ready.free in
    record {
      taken = λ number apart away. free.taken number away;
      home = λ number few apart. free.home number (omega (arith, few)) (λ same. omega (arith, few, same));
      names = names_same c.args.self.now.party.me (g.H.Hall.state c.args.hall.now);
    }

pub returns-then-is_none-clause-agreed : goal.returns-then-is_none-clause-agreed
returns-then-is_none-clause-agreed g c = λ names agree. agree

pub returns-then-is_none-clause-halts : goal.returns-then-is_none-clause-halts
returns-then-is_none-clause-halts g c = λ doing.
    let doer = c.args.self.now in
    let me = doer.party.me in
    let hall = g.H.Hall.state c.args.hall.now in
    halts_same (c.args.index ∷ []) hall.count (did_in me hall hall) doing (moment me doer hall) (did_same me hall)

-- it was taken and given back
pub returns-in-Err-clause-halts : goal.returns-in-Err-clause-halts
returns-in-Err-clause-halts g c = λ doing.
    let me = c.args.self.now.party.me in
    let old = g.H.Hall.state c.args.hall.now in
    let mid = g.H.Hall.state c.take_heap.new.hall in
    let new = g.H.Hall.state c.put.new.hall in
    let doer = c.take_heap.new.self in
    let heap = c.reserve.new.self in
    let took =
    does_spared c.in_ok-heap.heap heap c.reserve.ensures.same (moment me doer mid) _ _ doing doing _ (c.in_ok-heap.ensures.did doing) in
    let count = (g.met.H.Hall.goes_on_later _ _ c.take_heap.ensures.goes_on).count in
    let put =
    subst (λ (count : ℕ). Does [] count (did_in me mid new) doing doing (moment_with heap me doer mid) (moment me doer new)) count
    (subst (λ (who : ℕ). Does [] mid.count (did_in who mid new) doing doing (moment_with heap who doer mid) (moment who doer new))
    c.take_heap.ensures.same.me (c.put.ensures.does doing)) in
    halts_of old.count (did_in me old new) doing doing (moment me c.args.self.now old) (moment me doer new)
    (does_then old.count (did_in me old mid) (did_in me mid new) (did_in me old new) doing doing doing (moment me c.args.self.now old)
    (moment_with heap me doer mid) (moment me doer new) (λ first second. did_then) took put)
