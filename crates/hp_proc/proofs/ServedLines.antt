-- An allocation is served from the heaps that it chooses, for which it reads the names where a heap is named.
use Rattle.std.proofs.Common.{◌≡◌, ◌∙◌, ℕ, ◌≤◌, Bool, List, [], ◌∷◌, length, map, find, Option, Some, None, refl, ap, sym, subst, arith}
use Rattle.std.specs.List.{All, Contains}
use Rattle.std.specs.Option.{option_map, option_to_list}
use Rattle.std.proofs.lemmas.List.{length-map}
use Rattle.std.proofs.lemmas.List.Elements.{All-contains, All-map, All-weaker}
use Rattle.hp_base.specs.declared.limits.TheConstants.{MAX_HEAPS}
use Rattle.hp_base.specs.declared.pool_line.PoolLine.{PoolLine}
use Rattle.hp_base.specs.declared.request.Request.{Request}
use Rattle.hp_hall.specs.HallState.{HallState}
use Rattle.hp_script.specs.Part.{Part}
use Rattle.hp_script.specs.declared.answer.Answer.{Answer}
use Rattle.hp_script.specs.declared.line.Line.{Line}
use Rattle.hp_script.specs.declared.options.Options.{Options}
use Rattle.hp_zone.specs.Directory.{PlainDirectory}
use Rattle.hp_proc.specs.Allocating.{serving}
use Rattle.hp_proc.specs.Contexts.{Context, IsPlaceOf}
use Rattle.hp_proc.specs.Doing.{Doing}
use Rattle.hp_proc.specs.Handing.{shared_of}
use Rattle.hp_proc.specs.Heaps.{NamedHeap, has_name, heaps_for, socket_heaps}
use Rattle.hp_proc.specs.LineInHall.{ChoosesBy, HaltsHere, HasReadNames, StopsChoosing, did_in, moment}
use Rattle.hp_proc.specs.Lines.{reading_names, tag_of}
use Rattle.hp_proc.specs.ParticipantView.{ParticipantView}
use Rattle.hp_proc.specs.PlaceLists.{place_named}
use Rattle.hp_proc.specs.Progress.{AreOnce, Brings}
use Rattle.hp_proc.specs.SharedNames.{SharedNames, directory_in, heaps_in}
use Rattle.hp_proc.specs.declared.searched_heap.SearchedHeap.{SearchedHeap}
use Rattle.hp_proc.proofs.AllocLines.{BringsApart, alloc_by, brings_named, brings_plain}
use Rattle.hp_proc.proofs.ChosenHeaps.{All-heaps_for}
use Rattle.hp_proc.proofs.HallMoments.{told_alike}
use Rattle.hp_proc.proofs.Halted.{halts_more}
use Rattle.hp_proc.proofs.HandFacts.OnceHeld.{one_once, places_once}
use Rattle.hp_proc.proofs.Mapped.{All-found, map-listed}
use Rattle.hp_proc.proofs.Rising.{few_places}
use Rattle.hp_proc.proofs.SocketHeapLemmas.{IsListed, all_listed}

abbrev indexes : List SearchedHeap → List ℕ
indexes places = map (λ (place : SearchedHeap). place.index) places

-- what a line does once it has read the names for the heap that it names
abbrev naming : ℕ → List PoolLine → Line → Options → Request → Part → SharedNames → Doing
naming socket pools line options request name names =
    serving pools request (tag_of line) (heaps_for socket (heaps_in (directory_in pools names)) (Some name.text) options.socket)

-- the heaps that it tries are heaps, none twice, and no more than there may be
module _ (me : ℕ) (doer mid : ParticipantView) (options : Options) (places : List SearchedHeap) (same : Type 0) (first second : HallState) where
  pub chosen_once : (name : Option Part) → ChoosesBy me doer mid name options.socket places same first second → AreOnce (indexes places)
  chosen_once None chosen = places_once doer.context.pools doer.party.socket None options.socket places chosen.2
  chosen_once (Some name) chosen = one_once chosen.0 places chosen.1

  pub chosen_of : (name : Option Part) → ChoosesBy me doer mid name options.socket places same first second → (place : SearchedHeap)
      → Contains places place → IsPlaceOf mid.context.pools place
  chosen_of None chosen place among =
      let pools = doer.context.pools in
      let all : All (λ heap. IsPlaceOf pools (place_named heap)) (socket_heaps pools) =
      All-weaker (IsListed pools) (λ heap. IsPlaceOf pools (place_named heap)) (λ heap at. record { few = at.few; serves = sym at.serves })
      (socket_heaps pools) (all_listed pools) in
      subst (λ (doer : ParticipantView). IsPlaceOf doer.context.pools place) (sym chosen.0)
      (All-contains (IsPlaceOf pools) places place
      (subst (All (IsPlaceOf pools)) (sym chosen.2)
      (All-map (IsPlaceOf pools) place_named (heaps_for doer.party.socket (socket_heaps pools) None options.socket)
      (All-heaps_for (λ heap. IsPlaceOf pools (place_named heap)) doer.party.socket (socket_heaps pools) None options.socket all))) among)
  chosen_of (Some name) chosen place among =
      let pools = doer.context.pools in
      let its = chosen.2 in
      let heaps = heaps_in its.names.heaps.plain in
      let are : places ≡ map place_named (option_to_list (find (has_name name.text) heaps)) =
      chosen.1 ∙ (ap option_to_list its.found_is ∙ sym (map-listed place_named (find (has_name name.text) heaps))) in
      subst (λ (context : Context). IsPlaceOf context.pools place) (sym its.read.context)
      (All-contains (IsPlaceOf pools) places place
      (subst (All (IsPlaceOf pools)) (sym are)
      (All-map (IsPlaceOf pools) place_named (option_to_list (find (has_name name.text) heaps))
      (All-found (λ heap. IsPlaceOf pools (place_named heap)) (has_name name.text) heaps its.read.places))) among)

  pub chosen_few : (name : Option Part) → ChoosesBy me doer mid name options.socket places same first second → length places ≤ MAX_HEAPS
  chosen_few None chosen = few_places doer.context.pools doer.party.socket None options.socket places chosen.2
  chosen_few (Some name) chosen =
      subst (λ (places : List SearchedHeap). length places ≤ MAX_HEAPS) (sym chosen.1) (few_found chosen.0)
    where
      few_found : (found : Option SearchedHeap) → length (option_to_list found) ≤ MAX_HEAPS
      few_found None = omega arith
      few_found (Some place) = omega arith

  pub chosen_context : (name : Option Part) → ChoosesBy me doer mid name options.socket places same first second → mid.context ≡ doer.context
  chosen_context None chosen = ap (λ (doer : ParticipantView). doer.context) chosen.0
  chosen_context (Some name) chosen = chosen.2.read.context

module _ {H : Type 0} (state : H → HallState) (one two : H) (third : HallState) (me now : ℕ) (doer mid after : ParticipantView) (line : Line)
    (options : Options) (request : Request) (places : List SearchedHeap) (mine : now ≡ me) (count : (state two).count ≡ (state one).count) where
  -- what it does when it has the heap that it named
  named_places : (name : Part) (found : Option SearchedHeap) → places ≡ option_to_list found
      → (its : HasReadNames me doer mid name.text found (state one) (state two))
      → map place_named (heaps_for doer.party.socket (heaps_in (directory_in doer.context.pools (shared_of its.names))) (Some name.text) options.socket)
      ≡ places
  named_places name found are its =
      map-listed place_named (find (has_name name.text) (heaps_in (directory_in doer.context.pools (shared_of its.names))))
      ∙ (ap (λ (plain : PlainDirectory). option_to_list (option_map place_named (find (has_name name.text) (heaps_in plain)))) (sym its.read.leaves)
      ∙ (ap option_to_list (sym its.found_is) ∙ sym are))

  pub served : (name : Option Part) (heap : ℕ) (answer : Answer)
      → ChoosesBy me doer mid name options.socket places (two ≡ one) (state one) (state two)
      → ((heaps : List NamedHeap) → map place_named heaps ≡ places
      → Brings heap (state two).count (did_in now (state two) third) (serving mid.context.pools request (tag_of line) heaps) answer
      (moment now mid (state two)) (moment now after third))
      → BringsApart heap (state one).count (did_in me (state one) third)
      (alloc_by doer.party.socket doer.context.pools line options request name) answer (moment me doer (state one)) (moment me after third)
  served None heap answer chosen brings =
      let heaps = heaps_for doer.party.socket (socket_heaps doer.context.pools) None options.socket in
      brings_plain doer.party.socket doer.context.pools line options request refl refl
      (subst (λ (hall : H). Brings heap (state hall).count (did_in me (state hall) third) (serving doer.context.pools request (tag_of line) heaps) answer
      (moment me doer (state hall)) (moment me after third)) chosen.1
      (subst (λ (mid : ParticipantView). Brings heap (state two).count (did_in me (state two) third)
      (serving mid.context.pools request (tag_of line) heaps) answer (moment me mid (state two)) (moment me after third)) chosen.0
      (subst (λ (who : ℕ). Brings heap (state two).count (did_in who (state two) third) (serving mid.context.pools request (tag_of line) heaps) answer
      (moment who mid (state two)) (moment who after third)) mine (brings heaps (sym chosen.2)))))
  served (Some name) heap answer (found, are, its) brings =
      let heaps = heaps_for doer.party.socket (heaps_in (directory_in doer.context.pools (shared_of its.names))) (Some name.text) options.socket in
      brings_named doer.party.socket doer.context.pools line options request name (state one) (state two) third me heap doer mid after its.names answer
      (its.read.reads (naming doer.party.socket doer.context.pools line options request name))
      (told_alike (λ count did before behind. Brings heap count did (serving doer.context.pools request (tag_of line) heaps) answer before behind)
      (state two).count (state one).count (state two) third now me (λ moment. moment) (λ moment. moment) mid after mine count
      (subst (λ (context : Context). Brings heap (state two).count (did_in now (state two) third)
      (serving context.pools request (tag_of line) heaps) answer (moment now mid (state two)) (moment now after third)) its.read.context
      (brings heaps (named_places name found are its))))

  pub served_halts : (name : Option Part) → ChoosesBy me doer mid name options.socket places (two ≡ one) (state one) (state two)
      → ((heaps : List NamedHeap) → map place_named heaps ≡ places
      → HaltsHere (indexes places) now mid after (state two) third (serving mid.context.pools request (tag_of line) heaps))
      → HaltsHere (indexes places) me doer after (state one) third (alloc_by doer.party.socket doer.context.pools line options request name)
  served_halts None chosen halts =
      let heaps = heaps_for doer.party.socket (socket_heaps doer.context.pools) None options.socket in
      subst (λ (hall : H). HaltsHere (indexes places) me doer after (state hall) third (serving doer.context.pools request (tag_of line) heaps)) chosen.1
      (subst (λ (mid : ParticipantView). HaltsHere (indexes places) me mid after (state two) third
      (serving mid.context.pools request (tag_of line) heaps)) chosen.0
      (subst (λ (who : ℕ). HaltsHere (indexes places) who mid after (state two) third (serving mid.context.pools request (tag_of line) heaps)) mine
      (halts heaps (sym chosen.2))))
  served_halts (Some name) (found, are, its) halts =
      let goes = naming doer.party.socket doer.context.pools line options request name in
      let heaps = heaps_for doer.party.socket (heaps_in (directory_in doer.context.pools (shared_of its.names))) (Some name.text) options.socket in
      halts_more (indexes places) (state one) (state two) third now me (λ moment. moment) (λ moment. moment) mid after (moment me doer (state one))
      (reading_names goes) mine count (goes (shared_of its.names)) (its.read.reads goes).does
      (subst (λ (context : Context). HaltsHere (indexes places) now mid after (state two) third (serving context.pools request (tag_of line) heaps))
      its.read.context (halts heaps (named_places name found are its)))

-- it stopped while it chose
pub stopped_choosing : (me : ℕ) (doer mid : ParticipantView) (from to : HallState) (line : Line) (options : Options) (request : Request)
    (name : Option Part) → StopsChoosing me doer mid name from to
    → HaltsHere [] me doer mid from to (alloc_by doer.party.socket doer.context.pools line options request name)
stopped_choosing me doer mid from to line options request None stops = stops _
stopped_choosing me doer mid from to line options request (Some name) stops = stops _
