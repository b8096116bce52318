-- What was done with a heap in hand that was searched, got pages where that found nothing, and was searched again.
use Rattle.std.proofs.Common.{◌≡◌, ◌∙◌, [], ◌∷◌, ℕ, Bool, false, true, None, Some, List, Option, refl, ap, sym, subst}
use Rattle.hp_base.specs.declared.pool_line.PoolLine.{PoolLine}
use Rattle.hp_base.specs.declared.request.Request.{Request}
use Rattle.hp_base.specs.declared.tag.Tag.{Tag}
use Rattle.hp_hall.specs.HallState.{HallState}
use Rattle.hp_hall.proofs.HallStates.{did_same}
use Rattle.hp_heap.specs.History.{HeapView, IsCall}
use Rattle.hp_heap.specs.Step.{address_answer}
use Rattle.hp_heap.specs.declared.entry.HeapCall.TheVariants as call
use Rattle.hp_script.specs.declared.answer.Answer.TheVariants as gives
use Rattle.hp_proc.specs.Allocating.{after_asking, asking, first_flags, growing, trying, unless_found, with_flags}
use Rattle.hp_proc.specs.Doing.{Doing}
use Rattle.hp_proc.specs.Heaps.{NamedHeap, page_sizes_for}
use Rattle.hp_proc.specs.LineInHall.{DoesHeld, HaltsHeld, did_in, moment_with}
use Rattle.hp_proc.specs.ParticipantView.{ParticipantView, after_call}
use Rattle.hp_proc.specs.Progress.{DoesIn, Tries, caller_of, in_hand}
use Rattle.hp_proc.proofs.Halted.{halts_more}
use Rattle.hp_proc.proofs.HandFacts.HandCut.{found_whole}
use Rattle.hp_proc.proofs.HandFacts.HandTried.{called_then, tries_in, tries_on}
use Rattle.hp_proc.proofs.HandFacts.Holds.{does_next}
use Rattle.hp_proc.proofs.Joining.{does_same}

module _ (doer mid : ParticipantView) (first : HallState) (heap next : HeapView) (its : NamedHeap) (request asked : Request) (tag : Tag)
    (found : Option ℕ) (is : asked ≡ with_flags (first_flags its.serves request.flags) request)
    (step : IsCall (caller_of doer) (call.Alloc asked tag) (address_answer found) heap next) (counted : mid ≡ after_call doer)
    (same : its.index ≡ heap.plain.index) (heaps : List NamedHeap) where
  abbrev otherwise : Doing
  otherwise = trying doer.context.pools request tag heaps

  abbrev doing : Doing
  doing = trying doer.context.pools request tag (its ∷ heaps)

  abbrev left : Doing
  left = growing doer.context.pools its its.serves request tag otherwise

  -- the first search
  searched : DoesIn its.index first.count (did_in doer.party.me first first) doing (unless_found left (address_answer found))
      (moment_with heap doer.party.me doer first) (moment_with next doer.party.me mid first)
  searched =
      let me = doer.party.me in
      called_then doer mid (first.part me) (first.seen me) (first.heard me) (call.Alloc (with_flags (first_flags its.serves request.flags) request) tag)
      (address_answer found) heap next
      (subst (λ (asked : Request). IsCall (caller_of doer) (call.Alloc asked tag) (address_answer found) heap next) is step) counted its.index same
      first.count (did_in me first first) doing (unless_found left) (moment_with heap me doer first) (found_whole found)
      (does_same first.count (did_in me first first) doing (moment_with heap me doer first) (did_same me first))

  -- it gave an address
  pub found_first : (addr : ℕ) → found ≡ Some addr → Tries its.index [] first.count (did_in doer.party.me first first) doing otherwise
      (Some (gives.Address addr)) (moment_with heap doer.party.me doer first) (moment_with next doer.party.me mid first)
  found_first addr some =
      let me = doer.party.me in
      tries_in its.index first.count (did_in me first first) doing otherwise (gives.Address addr) (moment_with heap me doer first)
      (moment_with next me mid first)
      (subst (λ (found : Option ℕ). DoesIn its.index first.count (did_in me first first) doing (unless_found left (address_answer found))
      (moment_with heap me doer first) (moment_with next me mid first)) some searched)

  -- it found none in external memory, and the heap is passed
  pub passed_external : its.serves ≡ None → found ≡ None → Tries its.index [] first.count (did_in doer.party.me first first) doing otherwise None
      (moment_with heap doer.party.me doer first) (moment_with next doer.party.me mid first)
  passed_external external none =
      let me = doer.party.me in
      tries_on its.index first.count (did_in me first first) doing otherwise (moment_with heap me doer first) (moment_with next me mid first)
      (subst (λ (serves : Option ℕ). DoesHeld me doer mid heap next first first doing (growing doer.context.pools its serves request tag otherwise))
      external
      (subst (λ (found : Option ℕ). DoesHeld me doer mid heap next first first doing (unless_found left (address_answer found))) none
      searched.does))

  module _ (socket : ℕ) (serves : its.serves ≡ Some socket) where
    -- it found none, and pages are to be asked for
    searched_first : found ≡ None → DoesHeld doer.party.me doer mid heap next first first doing
        (asking its.index socket request tag otherwise (page_sizes_for doer.context.pools socket request.flags))
    searched_first none =
        let me = doer.party.me in
        subst
        (λ (serves : Option ℕ). DoesHeld me doer mid heap next first first doing (growing doer.context.pools its serves request tag otherwise))
        serves
        (subst (λ (found : Option ℕ). DoesHeld me doer mid heap next first first doing (unless_found left (address_answer found))) none
        searched.does)

    -- it found none, and stopped while it asked for pages
    pub halted : (grown : ParticipantView) (third : HallState) (more : HeapView) → found ≡ None
        → ((tag : Tag) (otherwise : Doing) → HaltsHeld mid.party.me mid grown next more first third
        (asking its.index socket request tag otherwise (page_sizes_for mid.context.pools socket request.flags)))
        → HaltsHeld doer.party.me doer grown heap more first third doing
    halted grown third more none asks =
        let me = doer.party.me in
        halts_more [] first first third mid.party.me me (in_hand next) (in_hand more) mid grown (moment_with heap me doer first) doing
        (ap (λ (doer : ParticipantView). doer.party.me) counted) refl
        (asking its.index socket request tag otherwise (page_sizes_for doer.context.pools socket request.flags)) (searched_first none)
        (subst (λ (pools : List PoolLine). HaltsHeld mid.party.me mid grown next more first third
        (asking its.index socket request tag otherwise (page_sizes_for pools socket request.flags)))
        (ap (λ (doer : ParticipantView). doer.context.pools) counted) (asks tag otherwise))

    module _ (grown : ParticipantView) (third : HallState) (more : HeapView) (granted : Bool) (none : found ≡ None)
        (asks : (tag : Tag) (otherwise : Doing) → DoesHeld mid.party.me mid grown next more first third
        (asking its.index socket request tag otherwise (page_sizes_for mid.context.pools socket request.flags))
        (after_asking its.index request tag otherwise granted)) where
      -- it found none, and pages were asked for
      asked_for : DoesHeld doer.party.me doer grown heap more first third doing (after_asking its.index request tag otherwise granted)
      asked_for =
          let me = doer.party.me in
          does_next me (moment_with heap me doer first) (λ who. moment_with next who mid first) (λ who. moment_with more who grown third)
          (ap (λ (doer : ParticipantView). doer.party.me) counted) refl
          (searched_first none)
          (subst (λ (pools : List PoolLine). DoesHeld mid.party.me mid grown next more first third
          (asking its.index socket request tag otherwise (page_sizes_for pools socket request.flags))
          (after_asking its.index request tag otherwise granted)) (ap (λ (doer : ParticipantView). doer.context.pools) counted) (asks tag otherwise))

      -- none were granted
      pub passed : granted ≡ false → Tries its.index [] first.count (did_in doer.party.me first third) doing otherwise None (moment_with heap doer.party.me doer first)
          (moment_with more doer.party.me grown third)
      passed is_not =
          let me = doer.party.me in
          tries_on its.index first.count (did_in me first third) doing otherwise (moment_with heap me doer first) (moment_with more me grown third)
          (subst (λ (granted : Bool). DoesHeld me doer grown heap more first third doing (after_asking its.index request tag otherwise granted))
          is_not asked_for)

      module _ (last : ParticipantView) (again : HeapView) (twice : Option ℕ)
          (second : IsCall (caller_of grown) (call.Alloc request tag) (address_answer twice) more again) (called : last ≡ after_call grown)
          (grown_its : its.index ≡ more.plain.index) (is_so : granted ≡ true) where
        -- some were, and it was searched again
        searched_again : DoesIn its.index first.count (did_in doer.party.me first third) doing (unless_found (Doing.Ended gives.None) (address_answer twice))
            (moment_with heap doer.party.me doer first) (moment_with again doer.party.me last third)
        searched_again =
            let me = doer.party.me in
            called_then grown last (third.part me) (third.seen me) (third.heard me) (call.Alloc request tag) (address_answer twice) more again second
            called its.index grown_its first.count (did_in me first third) doing (unless_found (Doing.Ended gives.None))
            (moment_with heap me doer first) (found_whole twice)
            (subst (λ (granted : Bool). DoesHeld me doer grown heap more first third doing (after_asking its.index request tag otherwise granted))
            is_so asked_for)

        pub found_again : (addr : ℕ) → twice ≡ Some addr → Tries its.index [] first.count (did_in doer.party.me first third) doing otherwise
            (Some (gives.Address addr)) (moment_with heap doer.party.me doer first) (moment_with again doer.party.me last third)
        found_again addr some =
            let me = doer.party.me in
            tries_in its.index first.count (did_in me first third) doing otherwise (gives.Address addr) (moment_with heap me doer first)
            (moment_with again me last third)
            (subst (λ (twice : Option ℕ). DoesIn its.index first.count (did_in me first third) doing
            (unless_found (Doing.Ended gives.None) (address_answer twice)) (moment_with heap me doer first) (moment_with again me last third)) some
            searched_again)

        pub found_none : twice ≡ None → Tries its.index [] first.count (did_in doer.party.me first third) doing otherwise (Some gives.None)
            (moment_with heap doer.party.me doer first) (moment_with again doer.party.me last third)
        found_none missing =
            let me = doer.party.me in
            tries_in its.index first.count (did_in me first third) doing otherwise gives.None (moment_with heap me doer first)
            (moment_with again me last third)
            (subst (λ (twice : Option ℕ). DoesIn its.index first.count (did_in me first third) doing
            (unless_found (Doing.Ended gives.None) (address_answer twice)) (moment_with heap me doer first) (moment_with again me last third)) missing
            searched_again)
