-- A reservation is served with the names in hand, and what it brings is put among the memzones.
use Rattle.std.proofs.Common.{◌≡◌, ◌∙◌, ℕ, List, map, Option, Some, inr, refl, ap, sym, subst}
use Rattle.std.specs.Option.{option_map}
use Rattle.hp_base.specs.declared.limits.TheConstants.{MAX_HEAPS}
use Rattle.hp_base.specs.declared.tag.Tag.{Tag}
use Rattle.hp_hall.specs.HallState.{IsBusy}
use Rattle.hp_script.specs.Part.{Part}
use Rattle.hp_script.specs.declared.answer.Answer.{Answer}
use Rattle.hp_serve.proofs.AskingFacts.AskedAlong.{on_err_any}
use Rattle.hp_serve.specs.Clocks.{longest_growth}
use Rattle.hp_zone.specs.Zones.{ZonesView}
use Rattle.hp_proc.specs.Allocating.{serving}
use Rattle.hp_zone.specs.declared.names.Names.{Names as NamesView}
use Rattle.hp_proc.specs.Contexts.{AreFactsOf}
use Rattle.hp_proc.specs.Courses.{maker_for}
use Rattle.hp_proc.specs.Doing.{Doing}
use Rattle.hp_proc.specs.Handing.{shared_of}
use Rattle.hp_proc.specs.Heaps.{heaps_for}
use Rattle.hp_proc.specs.LineInHall.{HaltsHere, did_in, moment}
use Rattle.hp_proc.specs.Lines.{Facts}
use Rattle.hp_proc.specs.NamesInHand.{DoesNamedOnce, HasCalledNamed, HaltsNamedOnce}
use Rattle.hp_proc.specs.PlaceLists.{place_named}
use Rattle.hp_proc.specs.Progress.{Brings}
use Rattle.hp_proc.specs.SharedNames.{heaps_in}
use Rattle.hp_proc.specs.ZoneLines.{zone_tag}
use Rattle.hp_proc.specs.ZonesInHand.{AgreeOnceAnswered, MayPut, PutsZone, last_answer_of, last_heap_of, reserving_by}
use Rattle.hp_proc.specs.declared.searched_heap.SearchedHeap.{SearchedHeap}
use Rattle.hp_proc.proofs.HandFacts.OnceHeld.{zone_places_once}
use Rattle.hp_proc.proofs.NamesRead.{as_leaves}
use Rattle.hp_proc.proofs.Reservations.{reservations_agree}
use Rattle.hp_proc.proofs.Rising.{few_zone_places, rises_within}
use Rattle.hp_proc.proofs.TreeDeeds.{only_serving}
use Rattle.hp_proc.proofs.ZoneAgrees.{no_address}
use Rattle.hp_proc.proofs.ZoneDone.{halts_named, named_same}
use Rattle.hp_proc.proofs.ZoneHeld.{may_put, named_none, named_put, names_out, roomy, roomy_ready}
use Rattle.hp_proc.proofs.ZonePlaces.{zone_places_of}
use Rattle.hp_proc.proofs.ZoneServed.{zone_does, zone_halts}
use Rattle.hp_proc.proofs.ZoneTrees.{AreThese, served_tree}
use Rattle.hp_proc.proofs.participant.Participant.serve_zone.Goals as goal

pub zone_places-requires-clause-sound : goal.zone_places-requires-clause-sound
zone_places-requires-clause-sound g c = c.requires.ready.sound.1

pub zone_places-requires-clause-sockets : goal.zone_places-requires-clause-sockets
zone_places-requires-clause-sockets g c = c.requires.ready.sockets

pub serve_request-requires-clause-places : goal.serve_request-requires-clause-places
serve_request-requires-clause-places g c = λ place among.
    (let ready = c.requires.ready in
    let options = c.args.options.now in
    zone_places_of c.args.names.now.heaps ready.sound.1 c.args.self.now.context.pools ready.sockets c.args.self.now.party.socket
    (option_map (λ (name : Part). name.text) options.heap) options.socket c.as_slice.result.now (c.as_slice.ensures.value ∙ c.in_ok-places.ensures) place among)

pub serve_request-requires-clause-apart : goal.serve_request-requires-clause-apart
serve_request-requires-clause-apart g c =
    let options = c.args.options.now in
    zone_places_once c.args.names.now.heaps.plain c.args.self.now.party.socket (option_map (λ (name : Part). name.text) options.heap) options.socket
    c.as_slice.result.now (c.as_slice.ensures.value ∙ c.in_ok-places.ensures)

pub serve_request-requires-clause-ready : goal.serve_request-requires-clause-ready
serve_request-requires-clause-ready g c = c.requires.ready.but

pub serve_request-requires-clause-beside : goal.serve_request-requires-clause-beside
serve_request-requires-clause-beside g c = inr c.requires.ready.told

pub serve_request-requires-clause-named : goal.serve_request-requires-clause-named
serve_request-requires-clause-named g c = λ zoned. names_out c.requires.ready

pub put_zone-requires : goal.put_zone-requires
put_zone-requires g c =
    let names = c.args.names.now in
    let size = c.args.request.now.size in
    let heap = c.in_ok-answer.heap in
    let answer = c.in_ok-answer.answer in
    record {
      may = subst (λ (zones : ZonesView). MayPut (record { zones = zones; heaps = names.heaps }) c.args.kept size heap answer) (sym c.in_ok-reserve.ensures.ok)
          (subst (λ (text : List ℕ). MayPut (roomy names) text size heap answer) (sym c.requires.kept)
          (may_put names c.args.name.now.text c.requires.asks.len c.args.options.now c.requires.asks.acceptable size heap answer));
    }

-- WHAT IT DID

pub returns-clause-does : goal.returns-clause-does
returns-clause-does g c = λ facts known.
    (let doer = c.args.self.now in
    let me = doer.party.me in
    let hall = g.H.Hall.state c.args.hall.now in
    let names = c.args.names.now in
    let options = c.args.options.now in
    let heaps = heaps_for doer.party.socket (heaps_in names.heaps.plain) (option_map (λ (name : Part). name.text) options.heap) options.socket in
    let ready = c.requires.ready in
    let asks = c.requires.asks in
    let name = c.args.name.now in
    let line = c.args.line.now in
    let request = c.args.request.now in
    let to = g.H.Hall.state c.serve_request.new.hall in
    let after = c.serve_request.new.self in
    let tag = zone_tag line (maker_for doer.context.lines (Some name)) in
    let serves = serving doer.context.pools request tag heaps in
    let these : AreThese doer.context names =
    record { replayed = ready.sound.0.replayed; directory = as_leaves doer names ready.sound.1 ready.sockets } in
    let judged = (reservations_agree names.zones.zones name.text asks.len options).accepted asks.acceptable in
    let same_log = ap (λ (zones : ZonesView). zones.log) c.in_ok-reserve.ensures.ok in
    let are : map place_named heaps ≡ c.as_slice.result.now = sym (c.as_slice.ensures.value ∙ c.in_ok-places.ensures) in
    let heap = c.in_ok-answer.heap in
    let answer = c.in_ok-answer.answer in
    let now = c.put_zone.new.names in
    let brings : Brings heap hall.count (did_in me hall to) serves answer (moment me doer hall) (moment me after to) =
    subst (λ (tag : Tag). Brings heap hall.count (did_in me hall to) (serving doer.context.pools request tag heaps) answer (moment me doer hall)
    (moment me after to)) c.zone_tag-tag.ensures (c.in_ok-answer.ensures.does heaps are) in
    subst (λ (doing : Doing). DoesNamedOnce me doer after names now hall to doing (Doing.Ended answer))
    (served_tree line name asks.len options asks.its_act doer.party.socket doer.context names these facts known request asks.accepted asks.is judged)
    (zone_does me heap request.size doer after names c.reserve.new.self hall to serves (only_serving request tag doer.context.pools heaps) name.text
    asks.len asks.is.size_is c.args.kept c.requires.kept same_log answer brings now c.put_zone.ensures))

pub returns-clause-ready : goal.returns-clause-ready
returns-clause-ready g c =
    let doer = c.args.self.now in
    let me = doer.party.me in
    let hall = g.H.Hall.state c.args.hall.now in
    let names = c.args.names.now in
    let options = c.args.options.now in
    let heaps = heaps_for doer.party.socket (heaps_in names.heaps.plain) (option_map (λ (name : Part). name.text) options.heap) options.socket in
    let ready = c.requires.ready in
    let asks = c.requires.asks in
    let name = c.args.name.now in
    let line = c.args.line.now in
    let request = c.args.request.now in
    let to = g.H.Hall.state c.serve_request.new.hall in
    let after = c.serve_request.new.self in
    let tag = zone_tag line (maker_for doer.context.lines (Some name)) in
    let serves = serving doer.context.pools request tag heaps in
    let these : AreThese doer.context names =
    record { replayed = ready.sound.0.replayed; directory = as_leaves doer names ready.sound.1 ready.sockets } in
    let judged = (reservations_agree names.zones.zones name.text asks.len options).accepted asks.acceptable in
    let same_log = ap (λ (zones : ZonesView). zones.log) c.in_ok-reserve.ensures.ok in
    let are : map place_named heaps ≡ c.as_slice.result.now = sym (c.as_slice.ensures.value ∙ c.in_ok-places.ensures) in
    let heap = c.in_ok-answer.heap in
    let answer = c.in_ok-answer.answer in
    let now = c.put_zone.new.names in
    let brings = c.in_ok-answer.ensures.does heaps are in
    named_put names ready c.serve_request.ensures.ready (λ heap. (_, brings.does.entries heap)) tag (Some answer) heap
    (subst (λ (tag : Tag). AgreeOnceAnswered tag (Some answer) heap (hall.part me) (to.part me)) c.zone_tag-tag.ensures
    (subst (λ (last : ℕ). AgreeOnceAnswered c.zone_tag-tag.result (Some answer) last (hall.part me) (to.part me)) (ap last_heap_of c.in_ok-answer.was)
    (subst (λ (given : Option Answer). AgreeOnceAnswered c.zone_tag-tag.result given (last_heap_of c.serve_request.result) (hall.part me) (to.part me))
    (ap last_answer_of c.in_ok-answer.was) c.serve_request.ensures.agrees))) refl answer refl c.args.kept request.size now
    (subst (λ (zones : ZonesView). PutsZone (record { zones = zones; heaps = names.heaps }) now c.args.kept request.size heap answer)
    c.in_ok-reserve.ensures.ok c.put_zone.ensures) c.are_sound.ensures

pub returns-clause-clock : goal.returns-clause-clock
returns-clause-clock g c =
    let doer = c.args.self.now in
    let me = doer.party.me in
    let hall = g.H.Hall.state c.args.hall.now in
    let names = c.args.names.now in
    let options = c.args.options.now in
    let heaps = heaps_for doer.party.socket (heaps_in names.heaps.plain) (option_map (λ (name : Part). name.text) options.heap) options.socket in
    rises_within g.H.Hall.pending (λ hall. IsBusy (g.H.Hall.state hall)) _ MAX_HEAPS (longest_growth doer.party.deadline) _ _
    (few_zone_places names.heaps.plain doer.party.socket (option_map (λ (name : Part). name.text) options.heap) options.socket c.as_slice.result.now
    (c.as_slice.ensures.value ∙ c.in_ok-places.ensures)) c.serve_request.ensures.clock

-- it stopped over a heap
pub returns-in_err-answer-clause-halts : goal.returns-in_err-answer-clause-halts
returns-in_err-answer-clause-halts g c =
    let doer = c.args.self.now in
    let me = doer.party.me in
    let hall = g.H.Hall.state c.args.hall.now in
    let names = c.args.names.now in
    let options = c.args.options.now in
    let heaps = heaps_for doer.party.socket (heaps_in names.heaps.plain) (option_map (λ (name : Part). name.text) options.heap) options.socket in
    let ready = c.requires.ready in
    let asks = c.requires.asks in
    let name = c.args.name.now in
    let line = c.args.line.now in
    let request = c.args.request.now in
    let to = g.H.Hall.state c.serve_request.new.hall in
    let after = c.serve_request.new.self in
    let tag = zone_tag line (maker_for doer.context.lines (Some name)) in
    let serves = serving doer.context.pools request tag heaps in
    let these : AreThese doer.context names =
    record { replayed = ready.sound.0.replayed; directory = as_leaves doer names ready.sound.1 ready.sockets } in
    let judged = (reservations_agree names.zones.zones name.text asks.len options).accepted asks.acceptable in
    let same_log = ap (λ (zones : ZonesView). zones.log) c.in_ok-reserve.ensures.ok in
    let are : map place_named heaps ≡ c.as_slice.result.now = sym (c.as_slice.ensures.value ∙ c.in_ok-places.ensures) in
    let now : NamesView = record { zones = c.reserve.new.self; heaps = names.heaps } in
    let stops : (facts : Facts) → AreFactsOf doer.party.socket doer.context line facts
    → HaltsNamedOnce me doer after names now hall to (reserving_by line.act line facts (shared_of names)) =
    λ facts known.
    subst (λ (doing : Doing). HaltsNamedOnce me doer after names now hall to doing)
    (served_tree line name asks.len options asks.its_act doer.party.socket doer.context names these facts known request asks.accepted asks.is judged)
    (zone_halts me 0 request.size doer after names c.reserve.new.self hall to serves (only_serving request tag doer.context.pools heaps) name.text
    asks.len asks.is.size_is c.args.kept c.requires.kept same_log (map (λ (place : SearchedHeap). place.index) c.as_slice.result.now)
    (zone_places_once names.heaps.plain doer.party.socket (option_map (λ (name : Part). name.text) options.heap) options.socket
    c.as_slice.result.now (c.as_slice.ensures.value ∙ c.in_ok-places.ensures))
    (subst (λ (tag : Tag). HaltsHere (map (λ (place : SearchedHeap). place.index) c.as_slice.result.now) me doer after hall to
    (serving doer.context.pools request tag heaps)) c.zone_tag-tag.ensures (c.in_err-answer.ensures.halts heaps are))) in
    on_err_any _ _ stops

pub returns-in_err-answer-clause-ready : goal.returns-in_err-answer-clause-ready
returns-in_err-answer-clause-ready g c =
    let doer = c.args.self.now in
    let me = doer.party.me in
    let hall = g.H.Hall.state c.args.hall.now in
    let names = c.args.names.now in
    let options = c.args.options.now in
    let heaps = heaps_for doer.party.socket (heaps_in names.heaps.plain) (option_map (λ (name : Part). name.text) options.heap) options.socket in
    let after = c.serve_request.new.self in
    let to = g.H.Hall.state c.serve_request.new.hall in
    let are : map place_named heaps ≡ c.as_slice.result.now = sym (c.as_slice.ensures.value ∙ c.in_ok-places.ensures) in
    let halts = c.in_err-answer.ensures.halts heaps are in
    subst (λ (zones : ZonesView). HasCalledNamed me doer after (record { zones = zones; heaps = names.heaps }) to) (sym c.in_ok-reserve.ensures.ok)
    (named_none names c.requires.ready c.serve_request.ensures.ready (λ heap. (_, halts.entries heap)) c.zone_tag-tag.result
    (last_answer_of c.serve_request.result) (last_heap_of c.serve_request.result) c.serve_request.ensures.agrees
    (inr (no_address (last_answer_of c.serve_request.result) (ap last_answer_of c.in_err-answer.was))))

pub returns-in_err-answer-clause-clock : goal.returns-in_err-answer-clause-clock
returns-in_err-answer-clause-clock g c =
    let doer = c.args.self.now in
    let names = c.args.names.now in
    let options = c.args.options.now in
    rises_within g.H.Hall.pending (λ hall. IsBusy (g.H.Hall.state hall)) _ MAX_HEAPS (longest_growth doer.party.deadline) _ _
    (few_zone_places names.heaps.plain doer.party.socket (option_map (λ (name : Part). name.text) options.heap) options.socket c.as_slice.result.now
    (c.as_slice.ensures.value ∙ c.in_ok-places.ensures)) c.serve_request.ensures.clock

-- or before it had one
pub returns-in_err-places-clause-halts : goal.returns-in_err-places-clause-halts
returns-in_err-places-clause-halts g c =
    let doer = c.args.self.now in
    let names = c.args.names.now in
    let line = c.args.line.now in
    let hall = g.H.Hall.state c.args.hall.now in
    let now : NamesView = record { zones = c.reserve.new.self; heaps = names.heaps } in
    let stops : (facts : Facts) → AreFactsOf doer.party.socket doer.context line facts
    → HaltsNamedOnce doer.party.me doer doer names now hall hall (reserving_by line.act line facts (shared_of names)) =
    λ facts known.
    halts_named doer.party.me doer names now hall (reserving_by line.act line facts (shared_of names))
    (ap (λ (zones : ZonesView). shared_of (record { zones = zones; heaps = names.heaps })) c.in_ok-reserve.ensures.ok) in
    on_err_any _ _ stops

pub returns-in_err-places-clause-ready : goal.returns-in_err-places-clause-ready
returns-in_err-places-clause-ready g c =
    let doer = c.args.self.now in
    let names = c.args.names.now in
    subst (λ (zones : ZonesView). HasCalledNamed doer.party.me doer doer (record { zones = zones; heaps = names.heaps }) (g.H.Hall.state c.args.hall.now))
    (sym c.in_ok-reserve.ensures.ok) (named_same doer (roomy names) (roomy_ready c.requires.ready))

pub returns-in_err-reserve-clause-halts : goal.returns-in_err-reserve-clause-halts
returns-in_err-reserve-clause-halts g c =
    let doer = c.args.self.now in
    let names = c.args.names.now in
    let line = c.args.line.now in
    let hall = g.H.Hall.state c.args.hall.now in
    let now : NamesView = record { zones = c.reserve.new.self; heaps = names.heaps } in
    let stops : (facts : Facts) → AreFactsOf doer.party.socket doer.context line facts
    → HaltsNamedOnce doer.party.me doer doer names now hall hall (reserving_by line.act line facts (shared_of names)) =
    λ facts known.
    halts_named doer.party.me doer names now hall (reserving_by line.act line facts (shared_of names))
    (ap (λ (zones : ZonesView). shared_of (record { zones = zones; heaps = names.heaps })) c.in_err-reserve.ensures.err) in
    on_err_any _ _ stops

pub returns-in_err-reserve-clause-ready : goal.returns-in_err-reserve-clause-ready
returns-in_err-reserve-clause-ready g c =
    let doer = c.args.self.now in
    let names = c.args.names.now in
    subst (λ (zones : ZonesView). HasCalledNamed doer.party.me doer doer (record { zones = zones; heaps = names.heaps }) (g.H.Hall.state c.args.hall.now))
    (sym c.in_err-reserve.ensures.err) (named_same doer names c.requires.ready)

pub returns-in_err-reserve-clause-goes_on : goal.returns-in_err-reserve-clause-goes_on
returns-in_err-reserve-clause-goes_on g c = g.met.H.Hall.goes_on_same _
