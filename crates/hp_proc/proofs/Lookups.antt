-- The element of a line is looked for in the heaps in which its participant looks.
use Rattle.std.proofs.Common.{◌≡◌, ◌∙◌, ℕ, Bool, true, false, List, [], ◌∷◌, ◌++◌, map, Option, Some, None, refl, ap, sym, subst}
use Rattle.std.specs.List.{All, Contains}
use Rattle.std.specs.Option.{option_to_list}
use Rattle.std.proofs.lemmas.List.Elements.{All-contains, All-map}
use Rattle.hp_base.specs.declared.pool_line.PoolLine.{PoolLine}
use Rattle.hp_base.specs.declared.tag.Tag.{Tag}
use Rattle.hp_hall.specs.HallState.{HallState}
use Rattle.hp_script.specs.Labels.{maker_of}
use Rattle.hp_script.specs.Part.{Part}
use Rattle.hp_script.specs.ShapeWords.Acts.{label_used}
use Rattle.hp_script.specs.declared.answer.Answer.{Answer}
use Rattle.hp_script.specs.declared.line.Line.{Line}
use Rattle.hp_zone.specs.Directory.{PlainDirectory}
use Rattle.hp_proc.specs.Contexts.{AreFactsOf, Context, IsPlaceOf}
use Rattle.hp_proc.specs.Courses.{maker_from}
use Rattle.hp_proc.specs.Doing.{Doing}
use Rattle.hp_proc.specs.Freeing.{act_for, acting, looking}
use Rattle.hp_proc.specs.Handing.{shared_of}
use Rattle.hp_proc.specs.Heaps.{NamedHeap}
use Rattle.hp_proc.specs.LineInHall.{DoesApartHere, DoesOnceHere, FindsBy, HaltsHere, HasReadAll, did_in, moment}
use Rattle.hp_proc.specs.LineTrees.{on_made}
use Rattle.hp_proc.specs.Lines.{Facts, Maker, is_own_maker, places_of, reading_names, tag_made}
use Rattle.hp_proc.specs.ParticipantView.{ParticipantView}
use Rattle.hp_proc.specs.PlaceLists.{place_named}
use Rattle.hp_proc.specs.Progress.{AreOnce}
use Rattle.hp_proc.specs.SharedNames.{SharedNames, directory_in, heaps_in}
use Rattle.hp_proc.specs.declared.searched_heap.SearchedHeap.{SearchedHeap}
use Rattle.hp_proc.proofs.Halted.{halts_more}
use Rattle.hp_proc.proofs.HandFacts.OnceHeld.{named_once, named_places_once, one_once}
use Rattle.hp_proc.proofs.LinesApart.{apart_nameless, apart_read, looking_nameless}
use Rattle.hp_proc.proofs.Makers.{other_made, own_made, searching_all}

-- what is done with the element that is looked for
abbrev pub looks : Option ℕ → Tag → List SearchedHeap → Doing
looks size tag = looking tag (acting (act_for tag.zone size))

abbrev indexes : List SearchedHeap → List ℕ
indexes places = map (λ (place : SearchedHeap). place.index) places

-- the heaps in which it looks are heaps, none of them twice
module _ (me : ℕ) (doer mid : ParticipantView) (maker : Maker) (places : List SearchedHeap) (same : Type 0) (first second : HallState) where
  pub found_once : (own : Bool) → FindsBy own me doer mid maker places same first second → AreOnce (indexes places)
  found_once true finds = one_once _ places finds.2
  found_once false all = named_places_once (heaps_in all.names.heaps.plain) places all.found_are (named_once all.names.heaps.plain)

  pub found_of : (own : Bool) → FindsBy own me doer mid maker places same first second → (place : SearchedHeap) → Contains places place
      → IsPlaceOf mid.context.pools place
  found_of true finds place among =
      subst (λ (doer : ParticipantView). IsPlaceOf doer.context.pools place) (sym finds.0)
      (All-contains (IsPlaceOf doer.context.pools) places place finds.3 among)
  found_of false all place among =
      subst (λ (context : Context). IsPlaceOf context.pools place) (sym all.read.context)
      (All-contains (IsPlaceOf doer.context.pools) places place
      (subst (All (IsPlaceOf doer.context.pools)) (sym all.found_are)
      (All-map (IsPlaceOf doer.context.pools) place_named (heaps_in all.names.heaps.plain) all.read.places)) among)

  pub found_context : (own : Bool) → FindsBy own me doer mid maker places same first second → mid.context ≡ doer.context
  found_context true finds = ap (λ (doer : ParticipantView). doer.context) finds.0
  found_context false all = all.read.context

module _ {H : Type 0} (state : H → HallState) (one two : H) (third : HallState) (me now : ℕ) (doer mid after : ParticipantView) (line : Line)
    (label : Part) (facts : Facts) (known : AreFactsOf doer.party.socket doer.context line facts) (used : label_used line.act ≡ Some label)
    (made : Line) (is : maker_of doer.context.lines label.text ≡ Some made) (size : Option ℕ) (places : List SearchedHeap)
    (mine : now ≡ me) (count : (state two).count ≡ (state one).count) where
  abbrev maker : Maker
  maker = maker_from made

  abbrev tree : Doing
  tree = on_made me facts (looks size) facts.maker

  abbrev searched : Doing
  searched = looks size (tag_made me maker) places

  -- in all heaps that have a name
  all_searched : (all : HasReadAll me doer mid places (state one) (state two))
      → searched ≡ searching_all doer.context.pools (tag_made me maker) (looks size) (shared_of all.names)
  all_searched all =
      ap (looks size (tag_made me maker))
      (all.found_are ∙ ap (λ (plain : PlainDirectory). places_of (heaps_in plain)) all.read.leaves)

  pub looked_apart : (given : Answer) (own : Bool) → is_own_maker me maker ≡ own
      → FindsBy own me doer mid maker places (two ≡ one) (state one) (state two)
      → DoesOnceHere now mid after (state two) third searched (Doing.Ended given)
      → DoesApartHere me doer after (state one) third tree (Doing.Ended given)
  looked_apart given true its finds once =
      let here : DoesOnceHere me doer after (state one) third (looks size (tag_made me maker) _) (Doing.Ended given) =
      subst (λ (places : List SearchedHeap). DoesOnceHere me doer after (state one) third (looks size (tag_made me maker) places) (Doing.Ended given))
      finds.2
      (subst (λ (hall : H). DoesOnceHere me doer after (state hall) third searched (Doing.Ended given)) finds.1
      (subst (λ (mid : ParticipantView). DoesOnceHere me mid after (state two) third searched (Doing.Ended given)) finds.0
      (subst (λ (who : ℕ). DoesOnceHere who mid after (state two) third searched (Doing.Ended given)) mine once))) in
      subst (λ (doing : Doing). DoesApartHere me doer after (state one) third doing (Doing.Ended given))
      (own_made me doer.party.socket doer.context line label facts known used (looks size) made is its)
      (apart_nameless _ (Doing.Ended given) (looking_nameless (tag_made me maker) (act_for maker.zone size) _) refl refl here)
  looked_apart given false its all once =
      let goes = searching_all doer.context.pools (tag_made me maker) (looks size) in
      subst (λ (doing : Doing). DoesApartHere me doer after (state one) third doing (Doing.Ended given))
      (other_made me doer.party.socket doer.context line label facts known used (looks size) made is its)
      (apart_read (state one) (state two) third now me doer mid after all.names goes (Doing.Ended given) mine count (all.read.reads goes)
      (looking_nameless (tag_made me maker) (act_for maker.zone size) _)
      (subst (λ (doing : Doing). DoesOnceHere now mid after (state two) third doing (Doing.Ended given)) (all_searched all) once))

  -- it stopped over that
  pub looked_halts : (own : Bool) → is_own_maker me maker ≡ own
      → FindsBy own me doer mid maker places (two ≡ one) (state one) (state two)
      → HaltsHere (indexes places) now mid after (state two) third searched
      → HaltsHere (indexes places) me doer after (state one) third tree
  looked_halts true its finds halts =
      let here : HaltsHere (indexes places) me doer after (state one) third searched =
      subst (λ (hall : H). HaltsHere (indexes places) me doer after (state hall) third searched) finds.1
      (subst (λ (mid : ParticipantView). HaltsHere (indexes places) me mid after (state two) third searched) finds.0
      (subst (λ (who : ℕ). HaltsHere (indexes places) who mid after (state two) third searched) mine halts)) in
      subst (HaltsHere (indexes places) me doer after (state one) third)
      (ap (looks size (tag_made me maker)) finds.2
      ∙ own_made me doer.party.socket doer.context line label facts known used (looks size) made is its) here
  looked_halts false its all halts =
      let goes = searching_all doer.context.pools (tag_made me maker) (looks size) in
      subst (HaltsHere (indexes places) me doer after (state one) third)
      (other_made me doer.party.socket doer.context line label facts known used (looks size) made is its)
      (halts_more (indexes places) (state one) (state two) third now me (λ moment. moment) (λ moment. moment) mid after (moment me doer (state one))
      (reading_names goes) mine count (goes (shared_of all.names)) (all.read.reads goes).does
      (subst (HaltsHere (indexes places) now mid after (state two) third) (all_searched all) halts))
