-- The place of its own element is noted, or the names are read.
use Rattle.std.proofs.Common.{◌≡◌, ◌∙◌, ℕ, Bool, true, false, not, ◌&&◌, ◌==◌, [], Option, None, Some, IfSome, refl, ap, sym, subst}
use Rattle.std.specs.List.{All, find}
use Rattle.std.proofs.lemmas.List.Elements.{All-cons, All-nil}
use Rattle.std.specs.Option.{option_map, option_to_list}
use Rattle.std.proofs.lemmas.Result.{on_err_weaker}
use Rattle.hp_proc.specs.Courses.{is_zone_act, maker_from, searched_heap_at}
use Rattle.hp_proc.specs.Contexts.{IsPlaceOf}
use Rattle.hp_proc.specs.LineInHall.{FindsBy}
use Rattle.hp_proc.specs.declared.searched_heap.SearchedHeap.{SearchedHeap}
use Rattle.hp_proc.specs.Lines.{is_own_maker}
use Rattle.hp_proc.specs.ParticipantView.{ParticipantView}
use Rattle.hp_proc.specs.PlaceLists.{place_list}
use Rattle.hp_serve.proofs.AskingFacts.AskedAlong.{if_ok}
use Rattle.hp_proc.proofs.participant.Participant.places_for.Goals as goal

-- what holds of a place, where there is one, holds of its list
place_listed : (P : SearchedHeap → Type 0) (found : Option SearchedHeap) → IfSome found P → All P (option_to_list found)
place_listed P None its = All-nil P
place_listed P (Some place) its = All-cons P place [] its (All-nil P)

pub returns-then-is_own-clause-does : goal.returns-then-is_own-clause-does
returns-then-is_own-clause-does g c =
    let doer = c.args.self.now in
    let me = doer.party.me in
    let line = c.args.maker.now in
    let hall = g.H.Hall.state c.args.hall.now in
    let own : is_own_maker me (maker_from line) ≡ true =
    ap (λ (who : ℕ). (line.participant == who) && not (is_zone_act line.act)) (sym c.number.ensures) ∙ (sym c.is_own.ensures ∙ c.if-is_own.true) in
    subst (λ (own : Bool). FindsBy own me doer doer (maker_from line) (place_list c.one_place.result) (c.args.hall.now ≡ c.args.hall.now) hall hall)
    (sym own) (
      refl,
      refl,
      c.one_place.ensures
          ∙ ap option_to_list
          (subst (λ (doer : ParticipantView). c.place_of.result ≡ option_map (λ element. searched_heap_at doer.context.pools element.heap)
          (find (λ element. element.line == line.line) doer.context.standing.elements)) c.self.view_is c.place_of.ensures.place),
      subst (All (IsPlaceOf doer.context.pools)) (sym c.one_place.ensures)
          (place_listed (IsPlaceOf doer.context.pools) c.place_of.result
          (subst (λ (doer : ParticipantView). IfSome c.place_of.result (λ place. IsPlaceOf doer.context.pools place)) c.self.view_is
          c.place_of.ensures.of_pools)),
    )

pub returns-clause-does : goal.returns-clause-does
returns-clause-does g c =
    let doer = c.args.self.now in
    let me = doer.party.me in
    let line = c.args.maker.now in
    let old = g.H.Hall.state c.args.hall.now in
    let new = g.H.Hall.state c.read_places.new.hall in
    let own : is_own_maker me (maker_from line) ≡ false =
    ap (λ (who : ℕ). (line.participant == who) && not (is_zone_act line.act)) (sym c.number.ensures) ∙ (sym c.is_own.ensures ∙ c.if-is_own.false) in
    if_ok _ _ c.read_places.result
    (λ places read.
    subst (λ (own : Bool). FindsBy own me doer c.read_places.new.self (maker_from line) (place_list places)
    (c.read_places.new.hall ≡ c.args.hall.now) old new) (sym own) read) c.read_places.ensures.read

pub returns-clause-halts : goal.returns-clause-halts
returns-clause-halts g c =
    let doer = c.args.self.now in
    let line = c.args.maker.now in
    let own : is_own_maker doer.party.me (maker_from line) ≡ false =
    ap (λ (who : ℕ). (line.participant == who) && not (is_zone_act line.act)) (sym c.number.ensures) ∙ (sym c.is_own.ensures ∙ c.if-is_own.false) in
    on_err_weaker c.read_places.result (λ halts. (own, halts)) c.read_places.ensures.halts
