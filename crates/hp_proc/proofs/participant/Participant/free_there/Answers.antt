-- The memzone's heap is taken, its element freed there, and the heap given back.
use Rattle.std.proofs.Common.{◌≡◌, ◌∙◌, ℕ, ◌<◌, List, [], ◌∷◌, Some, ap, sym, subst, inr, arith}
use Rattle.std.proofs.lemmas.List.Elements.{All-contains}
use Rattle.hp_base.specs.declared.limits.TheConstants.{MAX_HEAPS}
use Rattle.hp_base.specs.declared.pool_line.PoolLine.{PoolLine}
use Rattle.hp_hall.specs.HallState.{HallState}
use Rattle.hp_zone.specs.Zones.{IsFound}
use Rattle.hp_zone.specs.declared.names.Names.{Names as NamesView}
use Rattle.hp_zone.specs.declared.zone.Zone.{Zone}
use Rattle.hp_proc.specs.Contexts.{Context}
use Rattle.hp_proc.specs.Courses.{searched_heap_at}
use Rattle.hp_proc.specs.Freeing.{left_of}
use Rattle.hp_proc.specs.LineInHall.{HoldsIn}
use Rattle.hp_proc.specs.NamesInHand.{DoesNamedHeld, HaltsNamed, HasNamesBeside, IsReadyNamed, KeepsAgreed}
use Rattle.hp_proc.specs.ParticipantView.{ParticipantView}
use Rattle.hp_proc.specs.ZoneLines.{freeing_zone}
use Rattle.hp_proc.specs.declared.searched_heap.SearchedHeap.{SearchedHeap}
use Rattle.hp_serve.proofs.AskingFacts.AskedAlong.{on_err_any}
use Rattle.hp_proc.proofs.HandFacts.HeldBack.{back_then, beside_then, held_then, with_then}
use Rattle.hp_proc.proofs.HandFacts.NamedBetween.{alone_given, beside_taken, named_again, named_between, named_quiet, named_stopped, names_beside, stopped_gives}
use Rattle.hp_proc.proofs.participant.Participant.free_there.Goals as goal

-- a memzone's heap is one of the board
few_of : {me : ℕ} {doer : ParticipantView} {names : NamesView} {state : HallState} (zone : Zone) → IsReadyNamed me doer names state
    → IsFound names.zones.zones zone.name zone → zone.heap < MAX_HEAPS
few_of {me} {doer} {names} zone ready found =
    All-contains (λ (zone : Zone). zone.heap < MAX_HEAPS) names.zones.zones zone ready.agrees.agreed.zones found.there

pub place_at-place-requires : goal.place_at-place-requires
place_at-place-requires g c = record { few = few_of c.args.zone.now c.requires.ready c.requires.found }

pub hold-requires-clause-few : goal.hold-requires-clause-few
hold-requires-clause-few g c = few_of c.args.zone.now c.requires.ready c.requires.found

pub hold-requires-clause-ready : goal.hold-requires-clause-ready
hold-requires-clause-ready g c = c.requires.ready.but

pub hold-requires-clause-beside : goal.hold-requires-clause-beside
hold-requires-clause-beside g c = inr c.requires.ready.told

pub free_named-left-requires-clause-holds : goal.free_named-left-requires-clause-holds
free_named-left-requires-clause-holds g c =
    subst (λ (who : ℕ). HoldsIn who c.hold.new.self c.in_ok-heap.heap (g.H.Hall.state c.hold.new.hall)) (sym c.hold.ensures.same.me)
    c.in_ok-heap.ensures.hand.holds

pub free_named-left-requires-clause-names : goal.free_named-left-requires-clause-names
free_named-left-requires-clause-names g c =
    let me = c.args.self.now.party.me in
    let names = c.args.names.now in
    let first = g.H.Hall.state c.args.hall.now in
    let second = g.H.Hall.state c.hold.new.hall in
    let ready = c.requires.ready in
    subst (λ (who : ℕ). HasNamesBeside who c.hold.new.self names c.in_ok-heap.heap second) (sym c.hold.ensures.same.me)
    (names_beside ready c.hold.ensures.slots.names c.hold.ensures.context c.in_ok-heap.ensures.agreed
    (beside_taken first second c.args.self.now c.hold.new.self c.in_ok-heap.heap c.args.zone.now.heap ready.was names c.hold.ensures.same.me
    c.in_ok-heap.ensures.did ready.goes_on))

pub free_named-left-requires-clause-its : goal.free_named-left-requires-clause-its
free_named-left-requires-clause-its g c =
    c.place_at-place.ensures.place
    ∙ (ap (λ (doer : ParticipantView). searched_heap_at doer.context.pools c.args.zone.now.heap) c.self.view_is
    ∙ (ap (λ (context : Context). searched_heap_at context.pools c.args.zone.now.heap) (sym c.hold.ensures.context)
    ∙ ap (searched_heap_at c.hold.new.self.context.pools) (sym c.in_ok-heap.ensures.hand.index)))

pub free_named-left-requires-clause-there : goal.free_named-left-requires-clause-there
free_named-left-requires-clause-there g c = sym c.in_ok-heap.ensures.hand.index

pub put-requires : goal.put-requires
put-requires g c =
    let hold = c.hold.ensures in
    let few = few_of c.args.zone.now c.requires.ready c.requires.found in
    let hand = c.in_ok-heap.ensures.hand in
    let keeps = c.free_named-left.ensures.keeps.held in
    let held = held_then hold.same hold.context few hold.slots hand keeps in
    record {
      serves = held.can.may.serves;
      in_hand = held.in_hand;
      settled = held.settled;
      taken_with = with_then hold.same hold.context few hold.slots hand keeps;
      beside = beside_then hold.same hold.context few hold.slots hand keeps (inr c.requires.ready.told);
    }

pub returns : goal.returns
returns g c =
    let zone = c.args.zone.now in
    let doer = c.args.self.now in
    let me = doer.party.me in
    let mid = c.hold.new.self in
    let after = c.free_named-left.new.self in
    let names = c.args.names.now in
    let given = c.free_named-left.new.names in
    let heap = c.in_ok-heap.heap in
    let next = c.free_named-left.new.heap in
    let first = g.H.Hall.state c.args.hall.now in
    let second = g.H.Hall.state c.hold.new.hall in
    let third = g.H.Hall.state c.free_named-left.new.hall in
    let last = g.H.Hall.state c.put.new.hall in
    let hold = c.hold.ensures in
    let few = few_of zone c.requires.ready c.requires.found in
    let took = c.in_ok-heap.ensures in
    let is = c.free_named-left.ensures in
    let put = c.put.ensures in
    let here = hold.same.me in
    let there : after.party.me ≡ me = is.keeps.held.remains.same.me ∙ here in
    let count = (g.met.H.Hall.goes_on_later _ _ hold.goes_on).count in
    let later : third.count ≡ first.count = is.keeps.others.later.count ∙ count in
    let back =
    back_then hold.same hold.context few hold.slots took.hand is.keeps.held put.marks put.tied put.ready put.table put.agreed put.free put.slots
    put.others in
    let doing = freeing_zone (searched_heap_at doer.context.pools) (Some zone) in
    let rest = left_of zone.heap c.free_named-left.result in
    let did : DoesNamedHeld mid.party.me mid after names given heap next second third doing rest =
    subst (λ (pools : List PoolLine). DoesNamedHeld mid.party.me mid after names given heap next second third
    (freeing_zone (searched_heap_at pools) (Some zone)) rest) (ap (λ (context : Context). context.pools) hold.context) is.does in
    let has : HasNamesBeside me after given next third =
    subst (λ (who : ℕ). HasNamesBeside who after given next third) here is.keeps.beside in
    record {
      does = named_between first second third last doer mid after heap next names given zone.heap here there count later took.did put.does doing rest
          did;
      halts = tt;
      clock = λ one. omega (arith, hold.clock one, is.keeps.others.clock, put.others.clock);
      ready = named_again back has (subst (λ (who : ℕ). KeepsAgreed who next third last) there put.agreed) put.slots
          (subst (λ (at : ℕ). at < MAX_HEAPS) (sym (is.keeps.held.index ∙ took.hand.index)) few)
          (alone_given first second third last doer mid after heap next names given zone.heap here there count later took.did put.does has.goes_on);
      goes_on = g.met.H.Hall.goes_on_then _ _ _ (g.met.H.Hall.goes_on_then _ _ _ hold.goes_on is.goes_on) put.goes_on;
    }

-- IT COULD NOT TAKE THE HEAP

pub returns-in_err-heap-clause-halts : goal.returns-in_err-heap-clause-halts
returns-in_err-heap-clause-halts g c =
    let zone = c.args.zone.now in
    let doer = c.args.self.now in
    let names = c.args.names.now in
    let halts : HaltsNamed (zone.heap ∷ []) doer.party.me doer c.hold.new.self names names (g.H.Hall.state c.args.hall.now)
    (g.H.Hall.state c.hold.new.hall) (freeing_zone (searched_heap_at doer.context.pools) (Some zone)) =
    named_quiet names c.in_err-heap.ensures.halts (freeing_zone (searched_heap_at doer.context.pools) (Some zone)) in
    on_err_any _ _ halts

pub returns-in_err-heap-clause-ready : goal.returns-in_err-heap-clause-ready
returns-in_err-heap-clause-ready g c =
    named_stopped c.in_err-heap.ensures.err c.requires.ready c.in_err-heap.ensures.agreed
    (stopped_gives c.in_err-heap.ensures.halts c.requires.ready.goes_on)
