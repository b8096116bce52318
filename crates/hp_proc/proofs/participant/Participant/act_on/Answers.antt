-- The element that the label stands for is looked for where it lies.
use Rattle.std.proofs.Common.{◌≡◌, ◌∙◌, ℕ, Bool, false, List, [], map, Option, Some, None, ap, refl, sym, subst, arith, Result, Ok, Err}
use Rattle.std.specs.Prelude.{IfOk, OnErr}
use Rattle.std.proofs.lemmas.Result.{on_err_weaker}
use Rattle.std.specs.List.{Contains}
use Rattle.std.specs.Option.{option_to_list}
use Rattle.std.proofs.lemmas.Bool.{true≢false}
use Rattle.hp_base.specs.declared.tag.Tag.{Tag}
use Rattle.hp_hall.specs.HallState.{HallState}
use Rattle.hp_hall.proofs.HallStates.{did_same}
use Rattle.hp_script.specs.Labels.{maker_of}
use Rattle.hp_script.specs.Part.{Part}
use Rattle.hp_script.specs.declared.answer.Answer.{Answer}
use Rattle.hp_script.specs.declared.answer.Answer.TheVariants as answer
use Rattle.hp_script.specs.declared.line.Line.{Line}
use Rattle.hp_serve.proofs.AskingFacts.AskedAlong.{if_ok, on_err_any}
use Rattle.hp_proc.specs.Contexts.{AreFactsOf, Context, IsPlaceOf}
use Rattle.hp_proc.specs.Courses.{is_zone_act, maker_from}
use Rattle.hp_proc.specs.Doing.{Doing}
use Rattle.hp_proc.specs.Freeing.{FitsTag, IsSizedWell, act_for, acting, looking}
use Rattle.hp_proc.specs.LineInHall.{DoesApartHere, DoesOnceHere, HaltsHere, IsReadyIn, did_in, moment}
use Rattle.hp_proc.specs.LineTrees.{on_made}
use Rattle.hp_proc.specs.Lines.{Facts, Maker, is_own_maker, tag_made}
use Rattle.hp_proc.specs.ParticipantView.{ParticipantView}
use Rattle.hp_proc.specs.PlaceLists.{place_list}
use Rattle.hp_proc.specs.Progress.{AreOnce}
use Rattle.hp_proc.specs.declared.element_act.ElementAct.{ElementAct}
use Rattle.hp_proc.specs.declared.searched_heap.SearchedHeap.{SearchedHeap}
use Rattle.hp_proc.proofs.HandFacts.Holds.{again_same, again_then}
use Rattle.hp_proc.proofs.HandFacts.OnceHeld.{once_none}
use Rattle.hp_proc.proofs.LineFacts.{apart_same}
use Rattle.hp_proc.proofs.Lookups.{found_of, found_once, looked_apart, looked_halts, looks}
use Rattle.hp_proc.proofs.Makers.{other_made, searching_all, unmade}
use Rattle.hp_proc.proofs.participant.Participant.act_on.Goals as goal

-- a size that may be asked for is so whatever the element is
sized_for : (tag : Tag) (size : Option ℕ) → IsSizedWell (act_for false size) → FitsTag tag (act_for tag.zone size)
sized_for tag None sized = sized
sized_for tag (Some size) sized = (refl, sized)

-- WHERE NO LINE MAKES IT

pub returns-in_default-clause-does : goal.returns-in_default-clause-does
returns-in_default-clause-does g c = λ facts known.
    let doer = c.args.self.now in
    let me = doer.party.me in
    let hall = g.H.Hall.state c.args.hall.now in
    let at = moment me doer hall in
    let none : maker_of doer.context.lines c.args.label.now.text ≡ None =
    subst (λ (doer : ParticipantView). maker_of doer.context.lines c.args.label.now.text ≡ None) c.self.view_is (sym c.in_default.ensures) in
    subst (λ (doing : Doing). DoesApartHere me doer doer hall hall doing (Doing.Ended answer.NoElement))
    (unmade me doer.party.socket doer.context c.args.line.now c.args.label.now facts known c.requires.label (looks c.args.size) none)
    (apart_same hall.count (did_in me hall hall) (Doing.Ended answer.NoElement) at (did_same me hall))

pub returns-in_default-clause-ready : goal.returns-in_default-clause-ready
returns-in_default-clause-ready g c = again_same c.args.self.now c.requires.ready

-- WHERE THE HEAPS ARE FOUND

-- the tag, the act and the heaps by which the code looks are those of the line's maker
looked_for : (me named : ℕ) (made : Line) (size : Option ℕ) (zone : Bool) (action : ElementAct) (given places : List SearchedHeap) → named ≡ me
    → zone ≡ is_zone_act made.act → action ≡ act_for zone size → given ≡ places
    → looking (record { who = named; zone = zone; number = made.line }) (acting action) given ≡ looks size (tag_made me (maker_from made)) places
looked_for me named made size zone action given places is_named is_zone is_action is_given =
    ap (looking (record { who = named; zone = zone; number = made.line }) (acting action)) is_given
    ∙ ap (λ (action : ElementAct). looking (record { who = named; zone = zone; number = made.line }) (acting action) places) is_action
    ∙ ap (λ (zone : Bool). looking (record { who = named; zone = zone; number = made.line }) (acting (act_for zone size)) places) is_zone
    ∙ ap (λ (named : ℕ). looking (record { who = named; zone = is_zone_act made.act; number = made.line })
    (acting (act_for (is_zone_act made.act) size)) places) is_named

pub look_for-requires-clause-size : goal.look_for-requires-clause-size
look_for-requires-clause-size g c =
    let tag : Tag = record { who = c.number.result; zone = c.is_zone-zone.result; number = c.in-Some.maker.now.line } in
    subst (FitsTag tag) (sym c.act_for-action.ensures) (sized_for tag c.args.size c.requires.size)

pub look_for-requires-clause-places : goal.look_for-requires-clause-places
look_for-requires-clause-places g c = λ place among.
    found_of c.args.self.now.party.me c.args.self.now c.places_for.new.self (maker_from c.in-Some.maker.now) (place_list c.in_ok-places.places)
    (c.places_for.new.hall ≡ c.args.hall.now) (g.H.Hall.state c.args.hall.now) (g.H.Hall.state c.places_for.new.hall)
    (is_own_maker c.args.self.now.party.me (maker_from c.in-Some.maker.now)) c.in_ok-places.ensures.does place
    (subst (λ (places : List SearchedHeap). Contains places place) c.as_slice.ensures.value among)

pub look_for-requires-clause-apart : goal.look_for-requires-clause-apart
look_for-requires-clause-apart g c =
    subst (λ (places : List SearchedHeap). AreOnce (map (λ (place : SearchedHeap). place.index) places)) (sym c.as_slice.ensures.value)
    (found_once c.args.self.now.party.me c.args.self.now c.places_for.new.self (maker_from c.in-Some.maker.now) (place_list c.in_ok-places.places)
    (c.places_for.new.hall ≡ c.args.hall.now) (g.H.Hall.state c.args.hall.now) (g.H.Hall.state c.places_for.new.hall)
    (is_own_maker c.args.self.now.party.me (maker_from c.in-Some.maker.now)) c.in_ok-places.ensures.does)

pub look_for-requires-clause-ready : goal.look_for-requires-clause-ready
look_for-requires-clause-ready g c =
    let called = c.places_for.ensures.ready in
    subst (λ (who : ℕ). IsReadyIn who c.places_for.new.self (g.H.Hall.state c.places_for.new.hall)) (sym called.again.same.me) called.again.ready

pub returns-clause-does : goal.returns-clause-does
returns-clause-does g c =
    let doer = c.args.self.now in
    let me = doer.party.me in
    let mid = c.places_for.new.self in
    let after = c.look_for.new.self in
    let second = g.H.Hall.state c.places_for.new.hall in
    let third = g.H.Hall.state c.look_for.new.hall in
    let made = c.in-Some.maker.now in
    let places = place_list c.in_ok-places.places in
    let mine = c.places_for.ensures.ready.again.same.me in
    let found : maker_of doer.context.lines c.args.label.now.text ≡ Some made =
    subst (λ (doer : ParticipantView). maker_of doer.context.lines c.args.label.now.text ≡ Some made) c.self.view_is (sym c.in-Some.ensures) in
    if_ok _ (λ given. (facts : Facts) → AreFactsOf doer.party.socket doer.context c.args.line.now facts
    → DoesApartHere me doer after (g.H.Hall.state c.args.hall.now) third (on_made me facts (looks c.args.size) facts.maker) (Doing.Ended given))
    c.look_for.result
    (λ given does facts known.
    looked_apart (λ hall. g.H.Hall.state hall) c.args.hall.now c.places_for.new.hall third me mid.party.me doer mid after c.args.line.now
    c.args.label.now facts known c.requires.label made found c.args.size places mine
    ((g.met.H.Hall.goes_on_later _ _ c.places_for.ensures.goes_on).count) given (is_own_maker me (maker_from made)) refl c.in_ok-places.ensures.does
    (subst (λ (doing : Doing). DoesOnceHere mid.party.me mid after second third doing (Doing.Ended given))
    (looked_for me c.number.result made c.args.size c.is_zone-zone.result c.act_for-action.result c.as_slice.result.now places
    (c.number.ensures ∙ mine) c.is_zone-zone.ensures c.act_for-action.ensures c.as_slice.ensures.value) does))
    c.look_for.ensures.does

pub returns-clause-ready : goal.returns-clause-ready
returns-clause-ready g c = again_then c.args.self.now c.places_for.new.self c.look_for.new.self c.places_for.ensures.ready c.look_for.ensures.ready

pub returns-clause-clock : goal.returns-clause-clock
returns-clause-clock g c = λ one.
    omega (arith, c.places_for.ensures.clock one, c.look_for.ensures.clock one, c.places_for.ensures.ready.again.same.deadline)

-- A LINE THAT ENDS HERE

pub returns-in_err-places-clause-ready : goal.returns-in_err-places-clause-ready
returns-in_err-places-clause-ready g c = c.places_for.ensures.ready

pub returns-in_err-places-clause-clock : goal.returns-in_err-places-clause-clock
returns-in_err-places-clause-clock g c = λ one. omega (arith, c.places_for.ensures.clock one)

pub returns-in_err-places-clause-halts : goal.returns-in_err-places-clause-halts
returns-in_err-places-clause-halts g c =
    let doer = c.args.self.now in
    let me = doer.party.me in
    let mid = c.places_for.new.self in
    let made = c.in-Some.maker.now in
    let found : maker_of doer.context.lines c.args.label.now.text ≡ Some made =
    subst (λ (doer : ParticipantView). maker_of doer.context.lines c.args.label.now.text ≡ Some made) c.self.view_is (sym c.in-Some.ensures) in
    let stopped = c.in_err-places.ensures.halts in
    let halts : (facts : Facts) → AreFactsOf doer.party.socket doer.context c.args.line.now facts → (heaps : List ℕ) × AreOnce heaps
    × HaltsHere heaps me doer mid (g.H.Hall.state c.args.hall.now) (g.H.Hall.state c.places_for.new.hall)
    (on_made me facts (looks c.args.size) facts.maker) =
    λ facts known. (
      [],
      once_none,
      subst (HaltsHere [] me doer mid (g.H.Hall.state c.args.hall.now) (g.H.Hall.state c.places_for.new.hall))
          (other_made me doer.party.socket doer.context c.args.line.now c.args.label.now facts known c.requires.label (looks c.args.size) made found
          stopped.0)
          (stopped.1 (searching_all doer.context.pools (tag_made me (maker_from made)) (looks c.args.size))),
    ) in
    on_err_any _ _ halts

pub returns-clause-halts : goal.returns-clause-halts
returns-clause-halts g c =
    let doer = c.args.self.now in
    let me = doer.party.me in
    let mid = c.places_for.new.self in
    let after = c.look_for.new.self in
    let first = g.H.Hall.state c.args.hall.now in
    let second = g.H.Hall.state c.places_for.new.hall in
    let third = g.H.Hall.state c.look_for.new.hall in
    let made = c.in-Some.maker.now in
    let places = place_list c.in_ok-places.places in
    let own = is_own_maker me (maker_from made) in
    let mine = c.places_for.ensures.ready.again.same.me in
    let found : maker_of doer.context.lines c.args.label.now.text ≡ Some made =
    subst (λ (doer : ParticipantView). maker_of doer.context.lines c.args.label.now.text ≡ Some made) c.self.view_is (sym c.in-Some.ensures) in
    on_err_weaker c.look_for.result
    (λ halts facts known. (
      map (λ (place : SearchedHeap). place.index) places,
      found_once me doer mid (maker_from made) places (c.places_for.new.hall ≡ c.args.hall.now) first second own c.in_ok-places.ensures.does,
      looked_halts (λ hall. g.H.Hall.state hall) c.args.hall.now c.places_for.new.hall third me mid.party.me doer mid after c.args.line.now
          c.args.label.now facts known c.requires.label made found c.args.size places mine
          ((g.met.H.Hall.goes_on_later _ _ c.places_for.ensures.goes_on).count) own refl c.in_ok-places.ensures.does
          (subst (λ (given : List SearchedHeap). HaltsHere (map (λ (place : SearchedHeap). place.index) given) mid.party.me mid after second third
          (looks c.args.size (tag_made me (maker_from made)) places)) c.as_slice.ensures.value
          (subst (HaltsHere (map (λ (place : SearchedHeap). place.index) c.as_slice.result.now) mid.party.me mid after second third)
          (looked_for me c.number.result made c.args.size c.is_zone-zone.result c.act_for-action.result c.as_slice.result.now places
          (c.number.ensures ∙ mine) c.is_zone-zone.ensures c.act_for-action.ensures c.as_slice.ensures.value) halts)),
    ))
    c.look_for.ensures.halts

pub returns-clause-goes_on : goal.returns-clause-goes_on
returns-clause-goes_on g c = g.met.H.Hall.goes_on_then _ _ _ c.places_for.ensures.goes_on c.look_for.ensures.goes_on
