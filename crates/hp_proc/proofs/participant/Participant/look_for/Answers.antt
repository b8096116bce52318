-- Heap after heap is looked into, until one has the element.
use Rattle.std.proofs.Common.{◌≡◌, ℕ, ◌+◌, ◌<◌, List, [], ◌∷◌, ◌++◌, length, get_or, drop, take, map, Option, None, sym, subst, arith}
use Rattle.std.proofs.lemmas.List.{drop_all, drop_more}
use Rattle.std.proofs.lemmas.List.Elements.{Contains-get_or}
use Rattle.hp_base.specs.declared.tag.Tag.{Tag}
use Rattle.hp_hall.specs.Mail.{MailStep}
use Rattle.hp_script.specs.declared.answer.Answer.{Answer}
use Rattle.hp_proc.specs.Allocating.{unless_answered}
use Rattle.hp_proc.specs.Doing.{Doing}
use Rattle.hp_proc.specs.Freeing.{acting, looking}
use Rattle.hp_proc.specs.Contexts.{Context, IsPlaceOf}
use Rattle.hp_proc.specs.ParticipantView.{ParticipantView}
use Rattle.hp_proc.specs.Progress.{Does, Moment}
use Rattle.hp_proc.specs.declared.searched_heap.SearchedHeap.{SearchedHeap}
use Rattle.hp_proc.proofs.Joining.{does_same, does_then}
use Rattle.hp_hall.specs.HallState.{HallState}
use Rattle.hp_hall.proofs.HallStates.{did_same, did_then}
use Rattle.hp_serve.proofs.AskingFacts.AskedAlong.{on_err_any}
use Rattle.hp_proc.proofs.Halted.{halts_among, halts_more}
use Rattle.hp_proc.specs.LineInHall.{DoesHere, HaltsHere, IsReadyIn, did_in, moment}
use Rattle.hp_proc.proofs.HandFacts.Holds.{again_same, again_then}
use Rattle.hp_proc.proofs.HandFacts.OnceHeld.{heaps_more, once_taken}
use Rattle.hp_proc.proofs.participant.Participant.look_for.Goals as goal

-- one heap more was looked into
looked_on : {held : List ℕ} (one count : ℕ) (before here all : List MailStep → Type 0) (tag : Tag) (found : SearchedHeap → ℕ → Doing)
    (places : List SearchedHeap) (index : ℕ) (first mid last : Moment)
    → ((one two : List MailStep) → before one → here two → all (one ++ two))
    → Does held count before (looking tag found places) (looking tag found (drop index places)) first mid
    → (default : SearchedHeap) → index < length places → (given : Option Answer)
    → ((others : List SearchedHeap)
    → Does (one ∷ []) count here (looking tag found (get_or places index default ∷ others)) (unless_answered (looking tag found others) given) mid last)
    → Does (held ++ one ∷ []) count all (looking tag found places) (unless_answered (looking tag found (drop (index + 1) places)) given) first last
looked_on one count before here all tag found places index first mid last join was default within given looks =
    does_then count before here all (looking tag found places) (looking tag found (drop index places))
    (unless_answered (looking tag found (drop (index + 1) places)) given) first mid last join was
    (subst (λ (left : List SearchedHeap). Does (one ∷ []) count here (looking tag found left)
    (unless_answered (looking tag found (drop (index + 1) places)) given) mid last) (sym (drop_more places index default within))
    (looks (drop (index + 1) places)))

-- no place
abbrev nowhere : SearchedHeap
nowhere = record { index = 0; serves = None }

-- the heap in which it looks at a place
abbrev heap_of : SearchedHeap → ℕ
heap_of place = place.index

pub loop-place-init : goal.loop-place-init
loop-place-init g c =
    let doer = c.args.self.now in
    let me = doer.party.me in
    let hall = g.H.Hall.state c.args.hall.now in
    record {
      does = does_same hall.count (did_in me hall hall) (looking c.args.tag (acting c.args.action) c.args.places.now) (moment me doer hall)
          (did_same me hall);
      called = again_same doer c.requires.ready;
      goes_on = g.met.H.Hall.goes_on_same _;
      clock = λ one. omega arith;
    }

-- one heap more
module _ (doer looked after : ParticipantView) (old mid new : HallState) (tag : Tag) (found : SearchedHeap → ℕ → Doing) (places : List SearchedHeap)
    (index : ℕ) (same : looked.party.me ≡ doer.party.me) (count : mid.count ≡ old.count)
    (was : DoesHere (map heap_of (take index places)) doer.party.me doer looked old mid (looking tag found places) (looking tag found (drop index places)))
    (within : index < length places) (given : Option Answer)
    (looks : (others : List SearchedHeap) → DoesHere (heap_of (get_or places index nowhere) ∷ []) looked.party.me looked after mid new (looking tag found (get_or places index nowhere ∷ others))
    (unless_answered (looking tag found others) given)) where
  looked_here : DoesHere (map heap_of (take (index + 1) places)) doer.party.me doer after old new (looking tag found places)
      (unless_answered (looking tag found (drop (index + 1) places)) given)
  looked_here =
      let me = doer.party.me in
      let one = heap_of (get_or places index nowhere) in
      subst (λ (held : List ℕ). DoesHere held me doer after old new (looking tag found places)
      (unless_answered (looking tag found (drop (index + 1) places)) given)) (heaps_more heap_of places index nowhere within)
      (looked_on one old.count (did_in me old mid) (did_in me mid new) (did_in me old new) tag found places index (moment me doer old)
      (moment me looked mid) (moment me after new) (λ one two. did_then) was nowhere within given
      (λ others.
      subst (λ (count : ℕ). Does (one ∷ []) count (did_in me mid new) (looking tag found (get_or places index nowhere ∷ others))
      (unless_answered (looking tag found others) given) (moment me looked mid) (moment me after new)) count
      (subst (λ (who : ℕ). DoesHere (one ∷ []) who looked after mid new (looking tag found (get_or places index nowhere ∷ others))
      (unless_answered (looking tag found others) given)) same (looks others))))

pub look_in-requires-clause-place : goal.look_in-requires-clause-place
look_in-requires-clause-place g c =
    let place = get_or c.args.places.now c.loop-place.place-index nowhere in
    subst (λ (context : Context). IsPlaceOf context.pools place) (sym c.loop-place.invariant.called.context)
    (c.requires.places place (Contains-get_or c.args.places.now c.loop-place.place-index nowhere c.loop-place-test.true))

pub look_in-requires-clause-ready : goal.look_in-requires-clause-ready
look_in-requires-clause-ready g c =
    let was = c.loop-place.invariant in
    let looked = c.loop-place.self in
    let mid = g.H.Hall.state c.loop-place.hall in
    subst (λ (who : ℕ). IsReadyIn who looked mid) (sym was.called.again.same.me) was.called.again.ready

pub loop-place-preserved : goal.loop-place-preserved
loop-place-preserved g c =
    let doer = c.args.self.now in
    let me = doer.party.me in
    let old = g.H.Hall.state c.args.hall.now in
    let mid = g.H.Hall.state c.loop-place.hall in
    let new = g.H.Hall.state c.look_in.new.hall in
    let was = c.loop-place.invariant in
    let looked = c.loop-place.self in
    let after = c.look_in.new.self in
    let one = c.in_ok-answer.ensures in
    let found = acting c.args.action in
    let index = c.loop-place.place-index in
    record {
      does = subst (λ (given : Option Answer). DoesHere (map heap_of (take (index + 1) c.args.places.now)) me doer after old new
          (looking c.args.tag found c.args.places.now)
          (unless_answered (looking c.args.tag found (drop (index + 1) c.args.places.now)) given)) c.in_default.is
          (looked_here doer looked after old mid new c.args.tag found c.args.places.now index was.called.again.same.me
          ((g.met.H.Hall.goes_on_later _ _ was.goes_on).count) was.does c.loop-place-test.true c.in_ok-answer.field-0 one.does);
      called = again_then doer looked after was.called c.look_in.ensures.ready;
      goes_on = g.met.H.Hall.goes_on_then _ _ _ was.goes_on c.look_in.ensures.goes_on;
      clock = λ thread. omega (arith, was.clock thread, one.passed c.in_default.is thread);
    }

pub returns-in_err-answer-clause-clock : goal.returns-in_err-answer-clause-clock
returns-in_err-answer-clause-clock g c = λ one.
    let was = c.loop-place.invariant in
    omega (arith, was.clock one, c.look_in.ensures.clock one, was.called.again.same.deadline)

pub returns-in_err-answer-clause-ready : goal.returns-in_err-answer-clause-ready
returns-in_err-answer-clause-ready g c = again_then c.args.self.now c.loop-place.self c.look_in.new.self c.loop-place.invariant.called c.look_in.ensures.ready

pub returns-in_err-answer-clause-goes_on : goal.returns-in_err-answer-clause-goes_on
returns-in_err-answer-clause-goes_on g c = g.met.H.Hall.goes_on_then _ _ _ c.loop-place.invariant.goes_on c.look_in.ensures.goes_on

pub returns-in-Some : goal.returns-in-Some
returns-in-Some g c =
    let doer = c.args.self.now in
    let me = doer.party.me in
    let old = g.H.Hall.state c.args.hall.now in
    let mid = g.H.Hall.state c.loop-place.hall in
    let new = g.H.Hall.state c.look_in.new.hall in
    let was = c.loop-place.invariant in
    let looked = c.loop-place.self in
    let after = c.look_in.new.self in
    let one = c.in_ok-answer.ensures in
    let found = acting c.args.action in
    let index = c.loop-place.place-index in
    record {
      does = record {
        held = map heap_of (take (index + 1) c.args.places.now);
        once = once_taken heap_of c.args.places.now (index + 1) c.requires.apart;
        does = subst (λ (given : Option Answer). DoesHere (map heap_of (take (index + 1) c.args.places.now)) me doer after old new
            (looking c.args.tag found c.args.places.now)
            (unless_answered (looking c.args.tag found (drop (index + 1) c.args.places.now)) given)) c.in-Some.is
            (looked_here doer looked after old mid new c.args.tag found c.args.places.now index was.called.again.same.me
            ((g.met.H.Hall.goes_on_later _ _ was.goes_on).count) was.does c.loop-place-test.true c.in_ok-answer.field-0 one.does);
      };
      halts = tt;
      clock = λ thread. omega (arith, was.clock thread, c.look_in.ensures.clock thread, was.called.again.same.deadline);
      ready = again_then doer looked after was.called c.look_in.ensures.ready;
      goes_on = g.met.H.Hall.goes_on_then _ _ _ was.goes_on c.look_in.ensures.goes_on;
    }

pub returns-clause-does : goal.returns-clause-does
returns-clause-does g c =
    let doer = c.args.self.now in
    let old = g.H.Hall.state c.args.hall.now in
    let new = g.H.Hall.state c.loop-place.hall in
    let places = c.args.places.now in
    let found = acting c.args.action in
    let held = map heap_of (take c.loop-place.place-index places) in
    record {
      held = held;
      once = once_taken heap_of places c.loop-place.place-index c.requires.apart;
      does = subst (λ (left : List SearchedHeap). DoesHere held doer.party.me doer c.loop-place.self old new (looking c.args.tag found places)
          (looking c.args.tag found left)) (drop_all c.loop-place.place-index places c.loop-place-test.false) c.loop-place.invariant.does;
    }

pub returns-clause-clock : goal.returns-clause-clock
returns-clause-clock g c = λ one. omega (arith, c.loop-place.invariant.clock one)

pub returns-in_err-answer-clause-halts : goal.returns-in_err-answer-clause-halts
returns-in_err-answer-clause-halts g c =
    let doer = c.args.self.now in
    let me = doer.party.me in
    let old = g.H.Hall.state c.args.hall.now in
    let mid = g.H.Hall.state c.loop-place.hall in
    let new = g.H.Hall.state c.look_in.new.hall in
    let was = c.loop-place.invariant in
    let looked = c.loop-place.self in
    let after = c.look_in.new.self in
    let tag = c.args.tag in
    let found = acting c.args.action in
    let places = c.args.places.now in
    let index = c.loop-place.place-index in
    let place = get_or places index nowhere in
    let left = looking tag found (drop index places) in
    let stopped : HaltsHere (place.index ∷ []) looked.party.me looked after mid new left =
    subst (λ (rest : List SearchedHeap). HaltsHere (place.index ∷ []) looked.party.me looked after mid new (looking tag found rest))
    (sym (drop_more places index nowhere c.loop-place-test.true)) (c.in_err-answer.ensures.halts (drop (index + 1) places)) in
    let halts : HaltsHere (map heap_of places) me doer after old new (looking tag found places) =
    halts_among heap_of places index nowhere old.count (did_in me old new) (looking tag found places) (moment me doer old) (moment me after new)
    c.loop-place-test.true
    (halts_more (place.index ∷ []) old mid new looked.party.me me (λ moment. moment) (λ moment. moment) looked after (moment me doer old)
    (looking tag found places) was.called.again.same.me ((g.met.H.Hall.goes_on_later _ _ was.goes_on).count) left was.does stopped) in
    on_err_any _ _ halts
