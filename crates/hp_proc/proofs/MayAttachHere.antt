-- Who has the names, a heap and the segment value in hand may attach a chunk of that heap that it has not attached.
use Rattle.std.proofs.Common.{◌++◌, ◌<◌, ◌^◌, ◌≡◌, ◌≢◌, ◌≤◌, Contains, List, Some, count_by, eqb, subst, sym, ℕ, ⊎_elim}
use Rattle.std.proofs.lemmas.Bool.{cases_eq}
use Rattle.hp_base.specs.Mapping.{AreApart}
use Rattle.hp_base.specs.declared.chunk.Chunk.{Chunk}
use Rattle.hp_base.specs.declared.limits.TheConstants.{MAX_HEAPS}
use Rattle.hp_external.proofs.ChunkLemmas.{among_chunks}
use Rattle.hp_external.specs.Attaching.{MayAttach}
use Rattle.hp_hall.specs.AgreedNames.{chunk_memory}
use Rattle.hp_hall.specs.HallState.{HallState}
use Rattle.hp_hall.specs.Holding.{AreStanding}
use Rattle.hp_heap.specs.History.{HeapView}
use Rattle.hp_log.specs.declared.log_record.LogRecord.{LogRecord}
use Rattle.hp_maps.specs.MapsView.{calls_of}
use Rattle.hp_proc.proofs.HandFacts.HandNamed.{known_claims}
use Rattle.hp_proc.proofs.HandFacts.HandTied.{with_else, with_here}
use Rattle.hp_proc.proofs.MarksApart.{marks_apart}
use Rattle.hp_proc.proofs.SharedMarks.{marked_from}
use Rattle.hp_proc.specs.HeldMarks.{marked_with}
use Rattle.hp_proc.specs.MarksInHand.{HoldsNamedMarked}
use Rattle.hp_proc.specs.ParticipantView.{ParticipantView}
use Rattle.hp_segs.specs.LogPlaces.{LogIsPlaced, RangesAreOutside, SlotsAreFew}
use Rattle.hp_segs.specs.SegsView.{SegsView}
use Rattle.hp_segs.specs.Sound.{IsSound}
use Rattle.hp_segs.specs.declared.external_range.ExternalRange.{ExternalRange}
use Rattle.hp_serve.proofs.AttachReady.{may_attach}
use Rattle.hp_serve.proofs.Tying.{tied_along}
use Rattle.hp_zone.specs.declared.names.Names.{Names as NamesView}

module _ (me : ℕ) (doer : ParticipantView) (names : NamesView) (heap : HeapView) (state : HallState) (segs : SegsView) (sound : IsSound segs)
    (placed : LogIsPlaced) (outside : RangesAreOutside) (few : SlotsAreFew) (rows_apart : AreApart doer.party.maps.rows)
    (standing : AreStanding me (state.part me) segs) (more : List LogRecord) (seen : segs.log ≡ state.seen me ++ more) (holds : HoldsNamedMarked me doer names heap state)
    (calls : calls_of doer.party.maps ≤ 2 ^ 63) where
  abbrev at : ℕ
  at = heap.plain.index

  abbrev claims : List ExternalRange
  claims = holds.agrees.claims

  known_claims_here : (state.part me at).claims ≡ Some claims
  known_claims_here = known_claims heap (state.part me) names holds.agrees holds.holds.in_hand.few at

  ranges_are : segs.ranges ≡ claims
  ranges_are = standing.claims at claims known_claims_here

  its_claimed : (chunk : Chunk) → Contains heap.plain.chunks chunk → Contains segs.ranges (chunk_memory chunk)
  its_claimed chunk among =
      subst (λ (l : List ExternalRange). Contains l (chunk_memory chunk)) (sym ranges_are)
      (holds.holds.in_hand.claimed claims chunk known_claims_here among)

  all_claimed : (index : ℕ) (other : Chunk) → index < MAX_HEAPS → Contains (marked_with me heap state index) other
      → Contains segs.ranges (chunk_memory other)
  all_claimed index other below has =
      ⊎_elim
      (λ (here : index ≡ at).
      (let found =
      marked_from me heap.plain other (subst (λ (l : List Chunk). Contains l other) (with_here me heap state index here) has) in
      subst (λ (c : Chunk). Contains segs.ranges (chunk_memory c)) found.is (its_claimed found.chunk found.among)))
      (λ (away : index ≢ at).
      standing.marked index other below (subst (λ (l : List Chunk). Contains l other) (with_else me heap state index away) has)) (cases_eq index at)

  pub may_attach_here : (addr len : ℕ) → MayAttach me addr len heap.plain doer.party.maps
  may_attach_here addr len chunk there out =
      let among = among_chunks heap.plain addr len chunk there in
      may_attach segs (state.own me) (marked_with me heap state) doer.party.joined doer.party.maps at chunk sound (placed segs sound) outside few
      rows_apart
      (tied_along (state.seen me) segs.log more (state.own me) (marked_with me heap state) doer.party.joined doer.party.maps seen holds.holds.tied.table)
      all_claimed (its_claimed chunk among) holds.holds.in_hand.few
      (marks_apart me state segs names heap chunk standing holds.agrees
      (λ list. subst (λ (l : List ExternalRange). count_by (λ range. eqb range.list list) l ≤ 1) ranges_are (sound.places.external.distinct list))
      holds.holds.in_hand.few holds.holds.in_hand.sound.tiled among out) calls
