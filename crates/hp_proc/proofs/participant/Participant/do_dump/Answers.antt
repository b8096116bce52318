-- The names say which heap it is, and that is asked for its statistics in one hold.
use Rattle.std.proofs.Common.{◌≡◌, ◌∙◌, ◌<◌, ℕ, [], ◌∷◌, Option, None, refl, ap, sym, subst, inl, arith}
use Rattle.hp_hall.proofs.HallStates.{did_same, did_then}
use Rattle.hp_hall.specs.declared.slot.TheConstants.{NAMES_SLOT}
use Rattle.hp_heap.specs.declared.entry.HeapAnswer.TheVariants as gives
use Rattle.hp_heap.specs.declared.entry.HeapCall.TheVariants as call
use Rattle.hp_script.specs.declared.answer.Answer.TheVariants as answer
use Rattle.hp_proc.specs.Doing.{Deed, Doing}
use Rattle.hp_proc.specs.LineInHall.{HoldsIn, HasReadNames, IsReadyIn, KeepsHeld, did_in, moment, moment_with}
use Rattle.hp_proc.specs.Lines.{with_statistics}
use Rattle.hp_proc.specs.ParticipantView.{ParticipantView, with_calls}
use Rattle.hp_proc.specs.Progress.{Does, caller_of}
use Rattle.hp_proc.specs.declared.searched_heap.SearchedHeap.{SearchedHeap}
use Rattle.hp_serve.proofs.AskingFacts.AskedAlong.{on_err_any}
use Rattle.hp_serve.proofs.Carrying.{same_then}
use Rattle.hp_proc.proofs.DumpLines.{dumps_heap, dumps_nothing, stops_holding, stops_unread}
use Rattle.hp_proc.proofs.HandFacts.BesideNames.{but_home, called_home}
use Rattle.hp_proc.proofs.HandFacts.HandCalls.{does_call}
use Rattle.hp_proc.proofs.HandFacts.HeldBack.{back_then, beside_then, held_then, with_then}
use Rattle.hp_proc.proofs.HandFacts.Holds.{does_next, keeps_called}
use Rattle.hp_proc.proofs.Joining.{does_then}
use Rattle.hp_proc.proofs.LineFacts.{done_one}
use Rattle.hp_proc.proofs.LookedUp.{place_is}
use Rattle.hp_proc.proofs.PagesStay.{stats_pages}
use Rattle.hp_proc.proofs.participant.Participant.do_dump.Goals as goal

pub returns-in_default-clause-does : goal.returns-in_default-clause-does
returns-in_default-clause-does g c =
    let doer = c.args.self.now in
    let mid = c.read_place.new.self in
    let old = g.H.Hall.state c.args.hall.now in
    let at = g.H.Hall.state c.read_place.new.hall in
    dumps_nothing doer mid old at c.args.line.now c.args.name.now c.requires.act c.requires.attached c.read_place.ensures.ready.again.same.me
    (g.met.H.Hall.goes_on_later _ _ c.read_place.ensures.goes_on).count
    (subst (λ (found : Option SearchedHeap). HasReadNames doer.party.me doer mid c.args.name.now.text found old at) c.in_default.is
    c.in_ok-place.ensures.read)

pub returns-in_default-clause-ready : goal.returns-in_default-clause-ready
returns-in_default-clause-ready g c = c.read_place.ensures.ready.again

pub hold-requires-clause-few : goal.hold-requires-clause-few
hold-requires-clause-few g c = (place_is c.in_ok-place.ensures.read c.in-Some.place c.in-Some.is).few

pub hold-requires-clause-ready : goal.hold-requires-clause-ready
hold-requires-clause-ready g c =
    let read = c.read_place.ensures.ready.again in
    but_home (subst (λ (who : ℕ). IsReadyIn who c.read_place.new.self (g.H.Hall.state c.read_place.new.hall)) (sym read.same.me) read.ready)

pub hold-requires-clause-beside : goal.hold-requires-clause-beside
hold-requires-clause-beside g c = inl (c.read_place.ensures.ready.again.ready.idle.free NAMES_SLOT)

pub stats_in-stats-requires-clause-spare : goal.stats_in-stats-requires-clause-spare
stats_in-stats-requires-clause-spare g c = omega (arith, c.in_ok-heap.ensures.room.spare)

pub put-requires : goal.put-requires
put-requires g c =
    let hold = c.hold.ensures in
    let hand = c.in_ok-heap.ensures.hand in
    let few = (place_is c.in_ok-place.ensures.read c.in-Some.place c.in-Some.is).few in
    let held = hold.same.me in
    let mid = g.H.Hall.state c.hold.new.hall in
    let doer = c.hold.new.self in
    let holds : HoldsIn doer.party.me doer c.in_ok-heap.heap mid = subst (λ (who : ℕ). HoldsIn who doer c.in_ok-heap.heap mid) (sym held) hand.holds in
    let keeps =
    keeps_called doer c.stats_in-stats.new.self c.in_ok-heap.heap c.stats_in-stats.new.heap c.stats_in-stats.ensures.step c.stats_in-stats.ensures.counted
    (stats_pages (caller_of doer) (gives.Statistics c.stats_in-stats.result) c.in_ok-heap.heap c.stats_in-stats.new.heap c.stats_in-stats.ensures.step)
    refl refl tt tt holds in
    let here = held_then hold.same hold.context few hold.slots hand keeps in
    record {
      serves = here.can.may.serves;
      in_hand = here.in_hand;
      settled = here.settled;
      taken_with = with_then hold.same hold.context few hold.slots hand keeps;
      beside = beside_then hold.same hold.context few hold.slots hand keeps (inl (c.read_place.ensures.ready.again.ready.idle.free NAMES_SLOT));
    }

pub returns : goal.returns
returns g c =
    let first = c.args.self.now in
    let me = first.party.me in
    let old = g.H.Hall.state c.args.hall.now in
    let before = c.read_place.new.self in
    let at = g.H.Hall.state c.read_place.new.hall in
    let doer = c.hold.new.self in
    let mid = g.H.Hall.state c.hold.new.hall in
    let after = c.stats_in-stats.new.self in
    let new = g.H.Hall.state c.put.new.hall in
    let heap = c.in_ok-heap.heap in
    let next = c.stats_in-stats.new.heap in
    let stats = c.stats_in-stats.result in
    let step = c.stats_in-stats.ensures.step in
    let counted = c.stats_in-stats.ensures.counted in
    let hold = c.hold.ensures in
    let took = c.in_ok-heap.ensures in
    let put = c.put.ensures in
    let place = c.in-Some.place in
    let few = (place_is c.in_ok-place.ensures.read place c.in-Some.is).few in
    let own = before.party.me in
    let read = c.read_place.ensures.ready.again in
    let count = (g.met.H.Hall.goes_on_later _ _ hold.goes_on).count in
    let after_me = ap (λ (doer : ParticipantView). doer.party.me) counted ∙ hold.same.me in
    let holds : HoldsIn doer.party.me doer heap mid = subst (λ (who : ℕ). HoldsIn who doer heap mid) (sym hold.same.me) took.hand.holds in
    let keeps : KeepsHeld doer.party.me doer after heap next mid mid =
    keeps_called doer after heap next step counted (stats_pages (caller_of doer) (gives.Statistics stats) heap next step) refl refl tt tt holds in
    let doing = Doing.Then (Deed.Call heap.plain.index call.Stats) with_statistics in
    let ended = Doing.Ended (answer.Statistics stats) in
    let called : Does [] at.count (did_in own mid mid) doing ended (moment_with heap own doer mid) (moment_with next own after mid) =
    subst (λ (who : ℕ). Does [] at.count (did_in who mid mid) doing ended (moment_with heap who doer mid) (moment_with next who after mid)) hold.same.me
    (does_call doer (mid.part doer.party.me) (mid.seen doer.party.me) (mid.heard doer.party.me) call.Stats (gives.Statistics stats) heap next step
    at.count (did_in doer.party.me mid mid) with_statistics after counted (did_same doer.party.me mid) refl) in
    let does : Does (place.index ∷ []) at.count (did_in own at new) doing ended (moment own before at) (moment own after new) =
    does_next own (moment own before at) (λ who. moment_with next who after mid) (λ who. moment who after new) after_me count
    (does_then at.count (did_in own at mid) (did_in own mid mid) (did_in own at mid) doing doing ended (moment own before at)
    (moment_with heap own doer mid) (moment_with next own after mid) (λ one other. did_then) (took.did doing) called) (put.does ended) in
    let back =
    back_then hold.same hold.context few hold.slots took.hand keeps put.marks put.tied put.ready put.table put.agreed put.free put.slots put.others in
    let ready : IsReadyIn own before at = subst (λ (who : ℕ). IsReadyIn who before at) (sym read.same.me) read.ready in
    let again = called_home ready back in
    record {
      halts = tt;
      does = dumps_heap first before old at c.args.line.now c.args.name.now c.requires.act c.requires.attached read.same.me
          (g.met.H.Hall.goes_on_later _ _ c.read_place.ensures.goes_on).count place (answer.Statistics stats) new after
          (subst (λ (found : Option SearchedHeap). HasReadNames me first before c.args.name.now.text found old at) c.in-Some.is
          c.in_ok-place.ensures.read) again.context
          (done_one place.index at.count (did_in own at new) (Doing.Then (Deed.Call place.index call.Stats) with_statistics) ended
          (moment own before at) (moment own after new)
          (subst (λ (index : ℕ). Does (place.index ∷ []) at.count (did_in own at new) (Doing.Then (Deed.Call index call.Stats) with_statistics) ended
          (moment own before at) (moment own after new)) took.hand.index does));
      clock = λ one. omega (arith, c.read_place.ensures.clock one, hold.clock one, put.others.clock);
      ready = record {
        same = same_then first.party before.party after.party read.same again.again.same;
        ready = subst (λ (who : ℕ). IsReadyIn who after new) read.same.me again.again.ready;
      };
      goes_on = g.met.H.Hall.goes_on_then _ _ _ c.read_place.ensures.goes_on (g.met.H.Hall.goes_on_then _ _ _ hold.goes_on put.goes_on);
    }

-- somebody stopped before it had the names
pub returns-in_err-place-clause-ready : goal.returns-in_err-place-clause-ready
returns-in_err-place-clause-ready g c = c.read_place.ensures.ready.again

pub returns-in_err-place-clause-halts : goal.returns-in_err-place-clause-halts
returns-in_err-place-clause-halts g c =
    on_err_any c.from_residual.result _
    (stops_unread c.args.self.now c.read_place.new.self (g.H.Hall.state c.args.hall.now) (g.H.Hall.state c.read_place.new.hall) c.args.line.now
    c.args.name.now c.requires.act c.requires.attached c.read_place.ensures.ready.again.same.me
    (g.met.H.Hall.goes_on_later _ _ c.read_place.ensures.goes_on).count c.in_err-place.ensures.halts)

-- or before it had the heap
pub returns-in_err-heap-clause-ready : goal.returns-in_err-heap-clause-ready
returns-in_err-heap-clause-ready g c =
    let first = c.args.self.now in
    let before = c.read_place.new.self in
    let at = g.H.Hall.state c.read_place.new.hall in
    let read = c.read_place.ensures.ready.again in
    let ready : IsReadyIn before.party.me before at = subst (λ (who : ℕ). IsReadyIn who before at) (sym read.same.me) read.ready in
    let again = (called_home ready c.in_err-heap.ensures.err).again in
    record {
      same = same_then first.party before.party c.hold.new.self.party read.same again.same;
      ready = subst (λ (who : ℕ). IsReadyIn who c.hold.new.self (g.H.Hall.state c.hold.new.hall)) read.same.me again.ready;
    }

pub returns-in_err-heap-clause-clock : goal.returns-in_err-heap-clause-clock
returns-in_err-heap-clause-clock g c = λ one. omega (arith, c.read_place.ensures.clock one, c.hold.ensures.clock one)

pub returns-in_err-heap-clause-goes_on : goal.returns-in_err-heap-clause-goes_on
returns-in_err-heap-clause-goes_on g c = g.met.H.Hall.goes_on_then _ _ _ c.read_place.ensures.goes_on c.hold.ensures.goes_on

pub returns-in_err-heap-clause-halts : goal.returns-in_err-heap-clause-halts
returns-in_err-heap-clause-halts g c =
    on_err_any _ _
    (stops_holding c.args.self.now c.read_place.new.self (g.H.Hall.state c.args.hall.now) (g.H.Hall.state c.read_place.new.hall) c.args.line.now
    c.args.name.now c.requires.act c.requires.attached c.read_place.ensures.ready.again.same.me
    (g.met.H.Hall.goes_on_later _ _ c.read_place.ensures.goes_on).count c.in-Some.place (g.H.Hall.state c.hold.new.hall) c.hold.new.self _
    c.in_ok-place.ensures.read c.in_err-heap.ensures.halts)
