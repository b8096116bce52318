-- One heap more is tried, and it answered the line or was passed.
use Rattle.std.proofs.Common.{◌≡◌, ◌∙◌, ◌+◌, ◌<◌, ◌∷◌, ◌==◌, ℕ, ◌≤◌, List, [], drop, take, get_or, length, map, Option, Some, None, true, false, refl, ap, sym, subst, arith, inr}
use Rattle.std.proofs.lemmas.List.{drop_all, drop_more, get_or-map, length-map}
use Rattle.std.proofs.lemmas.List.Elements.{Contains-get_or}
use Rattle.std.proofs.lemmas.Bool.{eqb-true, false≢true}
use Rattle.hp_base.specs.declared.pool_line.PoolLine.{PoolLine}
use Rattle.hp_base.specs.declared.request.Request.{Request}
use Rattle.hp_base.specs.declared.tag.Tag.{Tag}
use Rattle.hp_hall.proofs.HallStates.{did_same, did_then}
use Rattle.std.specs.List.{Contains}
use Rattle.hp_hall.specs.HallState.{HallState, IsBusy}
use Rattle.hp_hall.specs.Holding.{AgreeWith}
use Rattle.hp_hall.specs.Mail.{MailStep}
use Rattle.hp_script.specs.declared.answer.Answer.{Answer}
use Rattle.hp_script.specs.declared.answer.Answer.TheVariants as gives
use Rattle.hp_serve.proofs.AskingFacts.AskedAlong.{on_err_any}
use Rattle.hp_serve.specs.Clocks.{longest_growth}
use Rattle.hp_zone.specs.declared.names.Names.{Names as NamesView}
use Rattle.hp_proc.specs.Allocating.{serving, trying}
use Rattle.hp_proc.specs.Contexts.{Context, IsPlaceOf}
use Rattle.hp_proc.specs.Doing.{Doing}
use Rattle.hp_proc.specs.Heaps.{NamedHeap}
use Rattle.hp_proc.specs.LineInHall.{HaltsHere, HasNamesOut, IsKnownMapped, IsReadyBut, MayGiveBeside, did_in, moment}
use Rattle.hp_proc.specs.ParticipantView.{ParticipantView}
use Rattle.hp_proc.specs.PlaceLists.{place_named}
use Rattle.hp_proc.specs.Progress.{AreOnce, Brings, Does, Moment, Tries}
use Rattle.hp_proc.specs.ZonesInHand.{AgreeOnceAnswered, answer_of, last_heap_of}
use Rattle.hp_proc.specs.declared.searched_heap.SearchedHeap.{SearchedHeap}
use Rattle.hp_hall.specs.declared.slot.TheConstants.{NAMES_SLOT}
use Rattle.hp_proc.proofs.AllocAgrees.{stopped_last}
use Rattle.hp_proc.proofs.Halted.{halts_among, halts_more}
use Rattle.hp_proc.proofs.HallMoments.{told_alike}
use Rattle.hp_proc.proofs.HandFacts.BesideNames.{gives_beside}
use Rattle.hp_proc.proofs.HandFacts.HandAllocates.{out_still}
use Rattle.hp_proc.proofs.HandFacts.HandTried.{brings_then}
use Rattle.hp_proc.proofs.HandFacts.OnceHeld.{heaps_more, once_none, once_taken}
use Rattle.hp_proc.proofs.Joining.{does_same, does_then}
use Rattle.hp_proc.proofs.NamesBeside.{beside_same, beside_then}
use Rattle.hp_proc.proofs.Rising.{rises_more, rises_within}
use Rattle.hp_proc.proofs.ZoneAgrees.{agrees_none, agrees_then, no_address}
use Rattle.hp_proc.proofs.participant.Participant.serve_request.Goals as goal

pub loop-place-init : goal.loop-place-init
loop-place-init g c = record {
  passed = λ heaps are. does_same _ _ _ _ (did_same _ _);
  few = omega arith;
  called = beside_same c.args.self.now c.requires.ready;
  agrees = λ names agree. agree;
  goes_on = g.met.H.Hall.goes_on_same _;
  along = omega arith;
  clock = λ one. omega arith;
}

pub try_heap-requires-clause-ready : goal.try_heap-requires-clause-ready
try_heap-requires-clause-ready g c =
    let was = c.loop-place.invariant in
    let doer = c.loop-place.self in
    let mid = g.H.Hall.state c.loop-place.hall in
    subst (λ (who : ℕ). IsReadyBut NAMES_SLOT who doer mid) (sym was.called.same.me) was.called.but

pub try_heap-requires-clause-beside : goal.try_heap-requires-clause-beside
try_heap-requires-clause-beside g c =
    let was = c.loop-place.invariant in
    let mid = g.H.Hall.state c.loop-place.hall in
    subst (λ (who : ℕ). MayGiveBeside who mid) (sym was.called.same.me) (gives_beside was.called.names c.requires.beside)

pub try_heap-requires-clause-named : goal.try_heap-requires-clause-named
try_heap-requires-clause-named g c = λ zone.
    let was = c.loop-place.invariant in
    let mid = g.H.Hall.state c.loop-place.hall in
    subst (λ (who : ℕ). HasNamesOut who mid) (sym was.called.same.me) (out_still was.called.names (c.requires.named zone))

abbrev none_at : SearchedHeap
none_at = record { index = 0; serves = None }

abbrev none_named : NamedHeap
none_named = record { index = 0; name = []; serves = None }

-- the heap that it tries at a place
abbrev heap_of : SearchedHeap → ℕ
heap_of place = place.index

-- the heaps by their places: so many, and each is at its place
long_as : (heaps : List NamedHeap) (places : List SearchedHeap) → map place_named heaps ≡ places → length heaps ≡ length places
long_as heaps places are = sym (length-map heaps place_named) ∙ ap (λ (places : List SearchedHeap). length places) are

item_at : (heaps : List NamedHeap) (places : List SearchedHeap) → map place_named heaps ≡ places → (i : ℕ) → i < length places
    → place_named (get_or heaps i none_named) ≡ get_or places i none_at
item_at heaps places are i within =
    sym (get_or-map place_named heaps i none_named none_at (omega (arith, within, long_as heaps places are)))
    ∙ ap (λ (places : List SearchedHeap). get_or places i none_at) are

-- where there is a place, the heaps are tried
served_within : (pools : List PoolLine) (request : Request) (tag : Tag) (heaps : List NamedHeap) (i : ℕ) → i < length heaps
    → trying pools request tag heaps ≡ serving pools request tag heaps
served_within pools request tag [] i within = absurd (omega (arith, within))
served_within pools request tag (heap ∷ heaps) i within = refl

served_some : (pools : List PoolLine) (request : Request) (tag : Tag) (heaps : List NamedHeap) → false ≡ (length heaps == 0)
    → trying pools request tag heaps ≡ serving pools request tag heaps
served_some pools request tag [] some = absurd (false≢true some)
served_some pools request tag (heap ∷ heaps) some = refl

served_none : (pools : List PoolLine) (request : Request) (tag : Tag) (heaps : List NamedHeap) → true ≡ (length heaps == 0)
    → Doing.Ended gives.NoHeap ≡ serving pools request tag heaps
served_none pools request tag [] none = refl
served_none pools request tag (heap ∷ heaps) none = absurd (omega (arith, eqb-true (length (heap ∷ heaps)) 0 (sym none)))

none_differs : (address : ℕ) → gives.None ≡ gives.Address address → ⊥
none_differs address equal = cc

no_heap_differs : (address : ℕ) → gives.NoHeap ≡ gives.Address address → ⊥
no_heap_differs address equal = cc

some_other : (answer : Answer) → ((address : ℕ) → answer ≡ gives.Address address → ⊥) → (address : ℕ) → Some answer ≡ Some (gives.Address address) → ⊥
some_other answer other address is = other address cc

-- an answer that is no address is brought from any heap
brings_none : (heap count : ℕ) (did : List MailStep → Type 0) (doing : Doing) (answer : Answer) (old new : Moment) (held : List ℕ)
    → ((address : ℕ) → answer ≡ gives.Address address → ⊥) → AreOnce held → Does held count did doing (Doing.Ended answer) old new
    → Brings heap count did doing answer old new
brings_none heap count did doing answer old new held other once does =
    record { held = held; once = once; does = does; last = λ address is. absurd (other address is) }

place_of : (pools others : List PoolLine) (places : List SearchedHeap) (i : ℕ) → i < length places → others ≡ pools
    → ((place : SearchedHeap) → Contains places place → IsPlaceOf pools place) → IsPlaceOf others (get_or places i none_at)
place_of pools others places i within same are =
    subst (λ (pools : List PoolLine). IsPlaceOf pools (get_or places i none_at)) (sym same)
    (are (get_or places i none_at) (Contains-get_or places i none_at within))

pub try_heap-requires-clause-place : goal.try_heap-requires-clause-place
try_heap-requires-clause-place g c =
    place_of c.args.self.now.context.pools c.loop-place.self.context.pools c.args.places.now c.loop-place.place-index c.loop-place-test.true
    (ap (λ (context : Context). context.pools) c.loop-place.invariant.called.context) c.requires.places

-- what one heap more makes of what was passed
module _ (me : ℕ) (doer tried after : ParticipantView) (first second third : HallState) (pools : List PoolLine) (request : Request) (tag : Tag)
    (places : List SearchedHeap) (i : ℕ) (within : i < length places) (same : tried.party.me ≡ me) (known : tried.context.pools ≡ pools)
    (count : second.count ≡ first.count) (heaps : List NamedHeap) (are : map place_named heaps ≡ places) where
  abbrev item : SearchedHeap
  item = get_or places i none_at

  abbrev named : NamedHeap
  named = get_or heaps i none_named

  abbrev left : Doing
  left = trying pools request tag (named ∷ drop (i + 1) heaps)

  abbrev otherwise : Doing
  otherwise = trying pools request tag (drop (i + 1) heaps)

  in_heaps : i < length heaps
  in_heaps = omega (arith, within, long_as heaps places are)

  to_here : Does (map heap_of (take i places)) first.count (did_in me first second) (trying pools request tag heaps)
      (trying pools request tag (drop i heaps)) (moment me doer first) (moment me tried second)
      → Does (map heap_of (take i places)) first.count (did_in me first second) (trying pools request tag heaps) left (moment me doer first)
      (moment me tried second)
  to_here passed =
      subst (λ (rest : List NamedHeap). Does (map heap_of (take i places)) first.count (did_in me first second) (trying pools request tag heaps)
      (trying pools request tag rest) (moment me doer first) (moment me tried second)) (drop_more heaps i none_named in_heaps) passed

  from_here : (given : Option Answer)
      → ((its : NamedHeap) (heaps : List NamedHeap) → place_named its ≡ item → Tries item.index (item.index ∷ []) second.count
      (did_in tried.party.me second third) (trying tried.context.pools request tag (its ∷ heaps)) (trying tried.context.pools request tag heaps) given
      (moment tried.party.me tried second) (moment tried.party.me after third))
      → Tries item.index (item.index ∷ []) first.count (did_in me second third) left otherwise given (moment me tried second) (moment me after third)
  from_here given tries =
      subst (λ (pools : List PoolLine). Tries item.index (item.index ∷ []) first.count (did_in me second third)
      (trying pools request tag (named ∷ drop (i + 1) heaps)) (trying pools request tag (drop (i + 1) heaps)) given (moment me tried second)
      (moment me after third)) known
      (told_alike (λ count did old new. Tries item.index (item.index ∷ []) count did
      (trying tried.context.pools request tag (named ∷ drop (i + 1) heaps)) (trying tried.context.pools request tag (drop (i + 1) heaps)) given old new)
      second.count first.count second third tried.party.me me (λ moment. moment) (λ moment. moment) tried after same count
      (tries named (drop (i + 1) heaps) (item_at heaps places are i within)))

  pub passed_more : Does (map heap_of (take i places)) first.count (did_in me first second) (trying pools request tag heaps)
      (trying pools request tag (drop i heaps)) (moment me doer first) (moment me tried second)
      → ((its : NamedHeap) (heaps : List NamedHeap) → place_named its ≡ item → Tries item.index (item.index ∷ []) second.count
      (did_in tried.party.me second third) (trying tried.context.pools request tag (its ∷ heaps)) (trying tried.context.pools request tag heaps) None
      (moment tried.party.me tried second) (moment tried.party.me after third))
      → Does (map heap_of (take (i + 1) places)) first.count (did_in me first third) (trying pools request tag heaps) otherwise (moment me doer first)
      (moment me after third)
  passed_more passed tries =
      subst (λ (held : List ℕ). Does held first.count (did_in me first third) (trying pools request tag heaps) otherwise (moment me doer first)
      (moment me after third)) (heaps_more heap_of places i none_at within)
      (does_then first.count (did_in me first second) (did_in me second third) (did_in me first third) (trying pools request tag heaps) left otherwise
      (moment me doer first) (moment me tried second) (moment me after third) (λ steps next one two. did_then one two) (to_here passed)
      (from_here None tries).does)

  pub brought : (answer : Answer) → AreOnce (map heap_of places)
      → Does (map heap_of (take i places)) first.count (did_in me first second) (trying pools request tag heaps)
      (trying pools request tag (drop i heaps)) (moment me doer first) (moment me tried second)
      → ((its : NamedHeap) (heaps : List NamedHeap) → place_named its ≡ item → Tries item.index (item.index ∷ []) second.count
      (did_in tried.party.me second third) (trying tried.context.pools request tag (its ∷ heaps)) (trying tried.context.pools request tag heaps)
      (Some answer) (moment tried.party.me tried second) (moment tried.party.me after third))
      → Brings item.index first.count (did_in me first third) (serving pools request tag heaps) answer (moment me doer first) (moment me after third)
  brought answer once passed tries =
      subst (λ (doing : Doing). Brings item.index first.count (did_in me first third) doing answer (moment me doer first) (moment me after third))
      (served_within pools request tag heaps i in_heaps)
      (brings_then first.count (did_in me first second) (did_in me second third) (did_in me first third) (trying pools request tag heaps) left
      (moment me doer first) (moment me tried second) (moment me after third) (λ steps next one two. did_then one two) otherwise answer item.index
      (to_here passed) (from_here (Some answer) tries)
      (subst AreOnce (sym (heaps_more heap_of places i none_at within)) (once_taken heap_of places (i + 1) once)))

  pub stopped : Does (map heap_of (take i places)) first.count (did_in me first second) (trying pools request tag heaps)
      (trying pools request tag (drop i heaps)) (moment me doer first) (moment me tried second)
      → ((its : NamedHeap) (heaps : List NamedHeap) → place_named its ≡ item
      → HaltsHere (item.index ∷ []) tried.party.me tried after second third (trying tried.context.pools request tag (its ∷ heaps)))
      → HaltsHere (map heap_of places) me doer after first third (serving pools request tag heaps)
  stopped passed halts =
      let here : HaltsHere (item.index ∷ []) tried.party.me tried after second third (trying pools request tag (drop i heaps)) =
      subst (λ (rest : List NamedHeap). HaltsHere (item.index ∷ []) tried.party.me tried after second third (trying pools request tag rest))
      (sym (drop_more heaps i none_named in_heaps))
      (subst (λ (pools : List PoolLine). HaltsHere (item.index ∷ []) tried.party.me tried after second third
      (trying pools request tag (named ∷ drop (i + 1) heaps))) known (halts named (drop (i + 1) heaps) (item_at heaps places are i within))) in
      subst (λ (doing : Doing). HaltsHere (map heap_of places) me doer after first third doing) (served_within pools request tag heaps i in_heaps)
      (halts_among heap_of places i none_at first.count (did_in me first third) (trying pools request tag heaps) (moment me doer first)
      (moment me after third) within
      (halts_more (item.index ∷ []) first second third tried.party.me me (λ moment. moment) (λ moment. moment) tried after (moment me doer first)
      (trying pools request tag heaps) same count (trying pools request tag (drop i heaps)) passed here))

pub loop-place-preserved : goal.loop-place-preserved
loop-place-preserved g c =
    let was = c.loop-place.invariant in
    let doer = c.args.self.now in
    let tried = c.loop-place.self in
    let after = c.try_heap.new.self in
    let me = doer.party.me in
    let first = g.H.Hall.state c.args.hall.now in
    let second = g.H.Hall.state c.loop-place.hall in
    let third = g.H.Hall.state c.try_heap.new.hall in
    let places = c.args.places.now in
    let i = c.loop-place.place-index in
    let request = c.args.request.now in
    let tag = c.args.tag in
    let item = get_or places i none_at in
    let one = c.try_heap.ensures in
    let within = c.loop-place-test.true in
    let pools_are = ap (λ (context : Context). context.pools) was.called.context in
    let many = (g.met.H.Hall.goes_on_later _ _ was.goes_on).count in
    record {
      passed = λ heaps are.
          passed_more me doer tried after first second third doer.context.pools request tag places i within was.called.same.me pools_are many heaps
          are (was.passed heaps are)
          (λ its heaps same.
          subst (λ (given : Option Answer). Tries item.index (item.index ∷ []) second.count (did_in tried.party.me second third)
          (trying tried.context.pools request tag (its ∷ heaps)) (trying tried.context.pools request tag heaps) given
          (moment tried.party.me tried second) (moment tried.party.me after third)) c.in_default.is (c.in_ok-answer.ensures.does its heaps same));
      few = (place_of doer.context.pools doer.context.pools places i within refl c.requires.places).few;
      called = beside_then was.called one.ready was.called.same.me;
      agrees = λ names agree.
          subst (λ (who : ℕ). AgreeWith (third.part who) names) was.called.same.me
          (one.agrees.still names (inr (no_address (answer_of c.try_heap.result) (ap answer_of c.in_ok-answer.was ∙ c.in_default.is)))
          (subst (λ (who : ℕ). AgreeWith (second.part who) names) (sym was.called.same.me) (was.agrees names agree)));
      goes_on = g.met.H.Hall.goes_on_then _ _ _ was.goes_on one.goes_on;
      along = omega (arith, within);
      clock = rises_more g.H.Hall.pending (λ hall. IsBusy (g.H.Hall.state hall)) i (longest_growth doer.party.deadline)
          (longest_growth tried.party.deadline) first.clock second.clock third.clock
          (ap longest_growth was.called.same.deadline) was.clock one.clock;
    }

-- WITH AN ANSWER

pub returns-in-Some-clause-does : goal.returns-in-Some-clause-does
returns-in-Some-clause-does g c = λ heaps are.
    let was = c.loop-place.invariant in
    let doer = c.args.self.now in
    let tried = c.loop-place.self in
    let after = c.try_heap.new.self in
    let first = g.H.Hall.state c.args.hall.now in
    let second = g.H.Hall.state c.loop-place.hall in
    let third = g.H.Hall.state c.try_heap.new.hall in
    let places = c.args.places.now in
    let i = c.loop-place.place-index in
    let request = c.args.request.now in
    let tag = c.args.tag in
    let item = get_or places i none_at in
    brought doer.party.me doer tried after first second third doer.context.pools request tag places i c.loop-place-test.true was.called.same.me
    (ap (λ (context : Context). context.pools) was.called.context) ((g.met.H.Hall.goes_on_later _ _ was.goes_on).count) heaps are c.in-Some.answer
    c.requires.apart (was.passed heaps are)
    (λ its heaps same.
    subst (λ (given : Option Answer). Tries item.index (item.index ∷ []) second.count (did_in tried.party.me second third)
    (trying tried.context.pools request tag (its ∷ heaps)) (trying tried.context.pools request tag heaps) given
    (moment tried.party.me tried second) (moment tried.party.me after third)) c.in-Some.is (c.in_ok-answer.ensures.does its heaps same))

pub returns-in-Some-clause-lies : goal.returns-in-Some-clause-lies
returns-in-Some-clause-lies g c =
    subst (λ (who : ℕ). IsKnownMapped who (g.H.Hall.state c.try_heap.new.hall) c.in-Some.answer) c.loop-place.invariant.called.same.me
    (c.in_ok-answer.ensures.lies c.in-Some.answer c.in-Some.is)

pub returns-in-Some-clause-few : goal.returns-in-Some-clause-few
returns-in-Some-clause-few g c =
    (place_of c.args.self.now.context.pools c.args.self.now.context.pools c.args.places.now c.loop-place.place-index c.loop-place-test.true refl
    c.requires.places).few

pub returns-in-Some-clause-agrees : goal.returns-in-Some-clause-agrees
returns-in-Some-clause-agrees g c =
    let was = c.loop-place.invariant in
    let tried = c.loop-place.self in
    let me = c.args.self.now.party.me in
    let first = g.H.Hall.state c.args.hall.now in
    let second = g.H.Hall.state c.loop-place.hall in
    let third = g.H.Hall.state c.try_heap.new.hall in
    let index = (get_or c.args.places.now c.loop-place.place-index none_at).index in
    agrees_then was.agrees
    (subst (λ (who : ℕ). AgreeOnceAnswered c.args.tag (Some c.in-Some.answer) index (second.part who) (third.part who)) was.called.same.me
    (subst (λ (given : Option Answer). AgreeOnceAnswered c.args.tag given index (second.part tried.party.me) (third.part tried.party.me))
    (ap answer_of c.in_ok-answer.was ∙ c.in-Some.is) c.try_heap.ensures.agrees))

pub returns-in-Some-clause-goes_on : goal.returns-in-Some-clause-goes_on
returns-in-Some-clause-goes_on g c = g.met.H.Hall.goes_on_then _ _ _ c.loop-place.invariant.goes_on c.try_heap.ensures.goes_on

pub returns-in-Some-clause-ready : goal.returns-in-Some-clause-ready
returns-in-Some-clause-ready g c = beside_then c.loop-place.invariant.called c.try_heap.ensures.ready c.loop-place.invariant.called.same.me

-- WITHOUT ONE

pub returns-clause-does : goal.returns-clause-does
returns-clause-does g c = λ heaps are.
    let was = c.loop-place.invariant in
    let me = c.args.self.now.party.me in
    let first = g.H.Hall.state c.args.hall.now in
    let hall = g.H.Hall.state c.loop-place.hall in
    let pools = c.args.self.now.context.pools in
    let places = c.args.places.now in
    let i = c.loop-place.place-index in
    let held = map heap_of (take i places) in
    let long = long_as heaps places are in
    let some : false ≡ (length heaps == 0) = subst (λ (n : ℕ). false ≡ (n == 0)) (sym long) c.if-is_empty.ensures in
    let past : length heaps ≤ i = subst (λ (n : ℕ). n ≤ i) (sym long) c.loop-place-test.false in
    brings_none c.loop-place.last first.count (did_in me first hall) (serving pools c.args.request.now c.args.tag heaps) gives.None
    (moment me c.args.self.now first) (moment me c.loop-place.self hall) held none_differs (once_taken heap_of places i c.requires.apart)
    (subst (λ (doing : Doing). Does held first.count (did_in me first hall) doing (Doing.Ended gives.None)
    (moment me c.args.self.now first) (moment me c.loop-place.self hall))
    (served_some pools c.args.request.now c.args.tag heaps some)
    (subst (λ (rest : List NamedHeap). Does held first.count (did_in me first hall) (trying pools c.args.request.now c.args.tag heaps)
    (trying pools c.args.request.now c.args.tag rest) (moment me c.args.self.now first) (moment me c.loop-place.self hall))
    (drop_all i heaps past) (was.passed heaps are)))

pub returns-clause-agrees : goal.returns-clause-agrees
returns-clause-agrees g c = agrees_none (some_other gives.None none_differs) c.loop-place.invariant.agrees

pub returns-then-is_empty-clause-does : goal.returns-then-is_empty-clause-does
returns-then-is_empty-clause-does g c = λ heaps are.
    let me = c.args.self.now.party.me in
    let first = g.H.Hall.state c.args.hall.now in
    let pools = c.args.self.now.context.pools in
    let at = moment me c.args.self.now first in
    let none : true ≡ (length heaps == 0) =
    subst (λ (n : ℕ). true ≡ (n == 0)) (sym (long_as heaps c.args.places.now are)) c.if-is_empty.ensures in
    brings_none 0 first.count (did_in me first first) (serving pools c.args.request.now c.args.tag heaps) gives.NoHeap at at [] no_heap_differs
    once_none
    (subst (λ (doing : Doing). Does [] first.count (did_in me first first) doing (Doing.Ended gives.NoHeap) at at)
    (served_none pools c.args.request.now c.args.tag heaps none)
    (does_same first.count (did_in me first first) (Doing.Ended gives.NoHeap) at (did_same me first)))

pub returns-then-is_empty-clause-agrees : goal.returns-then-is_empty-clause-agrees
returns-then-is_empty-clause-agrees g c = agrees_none (some_other gives.NoHeap no_heap_differs) (λ names agree. agree)

pub returns-then-is_empty-clause-ready : goal.returns-then-is_empty-clause-ready
returns-then-is_empty-clause-ready g c = beside_same c.args.self.now c.requires.ready

-- WHERE IT STOPS

pub returns-in_err-answer-clause-goes_on : goal.returns-in_err-answer-clause-goes_on
returns-in_err-answer-clause-goes_on g c = g.met.H.Hall.goes_on_then _ _ _ c.loop-place.invariant.goes_on c.try_heap.ensures.goes_on

pub returns-in_err-answer-clause-ready : goal.returns-in_err-answer-clause-ready
returns-in_err-answer-clause-ready g c = beside_then c.loop-place.invariant.called c.try_heap.ensures.ready c.loop-place.invariant.called.same.me

pub returns-in_err-answer-clause-agrees : goal.returns-in_err-answer-clause-agrees
returns-in_err-answer-clause-agrees g c =
    let was = c.loop-place.invariant in
    let tried = c.loop-place.self in
    let me = c.args.self.now.party.me in
    let second = g.H.Hall.state c.loop-place.hall in
    let third = g.H.Hall.state c.try_heap.new.hall in
    subst (λ (given : Option Answer). AgreeOnceAnswered c.args.tag given (last_heap_of c.from_residual.result)
    ((g.H.Hall.state c.args.hall.now).part me) (third.part me)) (stopped_last c.from_residual.result c.from_residual.ensures.0)
    (agrees_none (no_address None refl) (λ names agree.
    subst (λ (who : ℕ). AgreeWith (third.part who) names) was.called.same.me
    (c.try_heap.ensures.agrees.still names (inr (no_address (answer_of c.try_heap.result) (ap answer_of c.in_err-answer.was)))
    (subst (λ (who : ℕ). AgreeWith (second.part who) names) (sym was.called.same.me) (was.agrees names agree)))))

pub returns-in_err-answer-clause-halts : goal.returns-in_err-answer-clause-halts
returns-in_err-answer-clause-halts g c =
    let was = c.loop-place.invariant in
    let doer = c.args.self.now in
    let tried = c.loop-place.self in
    let after = c.try_heap.new.self in
    let first = g.H.Hall.state c.args.hall.now in
    let second = g.H.Hall.state c.loop-place.hall in
    let third = g.H.Hall.state c.try_heap.new.hall in
    let places = c.args.places.now in
    let i = c.loop-place.place-index in
    let halts : (heaps : List NamedHeap) → map place_named heaps ≡ places
    → HaltsHere (map heap_of places) doer.party.me doer after first third (serving doer.context.pools c.args.request.now c.args.tag heaps) =
    λ heaps are.
    stopped doer.party.me doer tried after first second third doer.context.pools c.args.request.now c.args.tag places i c.loop-place-test.true
    was.called.same.me (ap (λ (context : Context). context.pools) was.called.context) ((g.met.H.Hall.goes_on_later _ _ was.goes_on).count) heaps are
    (was.passed heaps are) c.in_err-answer.ensures.halts in
    on_err_any _ _ halts

-- BY HOW MUCH IT CARRIES THE CLOCK

pub returns-in_err-answer-clause-clock : goal.returns-in_err-answer-clause-clock
returns-in_err-answer-clause-clock g c =
    let was = c.loop-place.invariant in
    let doer = c.args.self.now in
    let old = (g.H.Hall.state c.args.hall.now).clock in
    let new = (g.H.Hall.state c.try_heap.new.hall).clock in
    let index = c.loop-place.place-index in
    rises_within g.H.Hall.pending (λ hall. IsBusy (g.H.Hall.state hall)) (index + 1) (length c.args.places.now) (longest_growth doer.party.deadline) old new
    (omega (arith, c.loop-place-test.true))
    (rises_more g.H.Hall.pending (λ hall. IsBusy (g.H.Hall.state hall)) index (longest_growth doer.party.deadline) (longest_growth c.loop-place.self.party.deadline) old
    (g.H.Hall.state c.loop-place.hall).clock new (ap longest_growth was.called.same.deadline) was.clock c.try_heap.ensures.clock)

pub returns-in-Some-clause-clock : goal.returns-in-Some-clause-clock
returns-in-Some-clause-clock g c =
    let was = c.loop-place.invariant in
    let doer = c.args.self.now in
    let old = (g.H.Hall.state c.args.hall.now).clock in
    let new = (g.H.Hall.state c.try_heap.new.hall).clock in
    let index = c.loop-place.place-index in
    rises_within g.H.Hall.pending (λ hall. IsBusy (g.H.Hall.state hall)) (index + 1) (length c.args.places.now) (longest_growth doer.party.deadline) old new
    (omega (arith, c.loop-place-test.true))
    (rises_more g.H.Hall.pending (λ hall. IsBusy (g.H.Hall.state hall)) index (longest_growth doer.party.deadline) (longest_growth c.loop-place.self.party.deadline) old
    (g.H.Hall.state c.loop-place.hall).clock new (ap longest_growth was.called.same.deadline) was.clock c.try_heap.ensures.clock)

pub returns-clause-clock : goal.returns-clause-clock
returns-clause-clock g c =
    let was = c.loop-place.invariant in
    rises_within g.H.Hall.pending (λ hall. IsBusy (g.H.Hall.state hall)) c.loop-place.place-index (length c.args.places.now)
    (longest_growth c.args.self.now.party.deadline) (g.H.Hall.state c.args.hall.now).clock (g.H.Hall.state c.loop-place.hall).clock was.along was.clock
