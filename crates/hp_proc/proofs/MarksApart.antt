-- A chunk of the heap in hand that its holder has not attached: no chunk with the holder's mark, in whichever heap, is of that list.
use Rattle.std.proofs.Common.{◌<◌, ◌∙◌, ◌≡◌, ◌≢◌, ◌≤◌, Contains, List, Some, ap, count_by, eq-eqb, eqb, false, filter, subst, sym, true≢false, ℕ, ⊎_elim}
use Rattle.std.proofs.lemmas.Bool.{cases_eq, cond-false, cond-true, ne_eqb}
use Rattle.hp_base.specs.Flags.{has_bit}
use Rattle.hp_base.specs.declared.chunk.Chunk.{Chunk}
use Rattle.hp_base.specs.declared.limits.TheConstants.{MAX_HEAPS}
use Rattle.hp_external.proofs.ChunkLemmas.{one_of_list}
use Rattle.hp_hall.proofs.ClaimedChunks.{chunk_named}
use Rattle.hp_hall.specs.HallState.{HallState}
use Rattle.hp_hall.specs.Holding.{AgreeWith, AreStanding}
use Rattle.hp_hall.specs.Naming.{Naming, marked_by, unmarked}
use Rattle.hp_heap.proofs.AllocFacts.ChoiceLaw.{Contains-filter}
use Rattle.hp_heap.proofs.Members.{Contains-imaged}
use Rattle.hp_heap.specs.History.{HeapView}
use Rattle.hp_heap.specs.Tiling.{IsTiled}
use Rattle.hp_proc.proofs.HandFacts.HandNamed.{known_else, known_here}
use Rattle.hp_proc.proofs.ReleasedMemory.{one_heap}
use Rattle.hp_proc.specs.HeldMarks.{marked_with}
use Rattle.hp_proc.specs.NamesInHand.{with_naming}
use Rattle.hp_segs.specs.SegsView.{SegsView}
use Rattle.hp_serve.specs.InHall.{marked_in}
use Rattle.hp_zone.specs.declared.names.Names.{Names as NamesView}

same_naming : {a b : Naming} → Some a ≡ Some b → a ≡ b
same_naming same = cc

module _ (me : ℕ) (state : HallState) (segs : SegsView) (names : NamesView) (heap : HeapView) (chunk : Chunk)
    (standing : AreStanding me (state.part me) segs) (agree : AgreeWith (with_naming heap (state.part me)) names)
    (distinct : (list : ℕ) → count_by (λ range. eqb range.list list) agree.claims ≤ 1) (few : heap.plain.index < MAX_HEAPS)
    (tiled : IsTiled heap.plain) (here : Contains heap.plain.chunks chunk) (out : has_bit chunk.attached me ≡ false) where
  own_apart : (other : Chunk) → Contains (marked_by me heap.plain) other → other.list ≢ chunk.list
  unfolding marked_by
  own_apart other has same =
      let from = Contains-imaged unmarked (filter (λ (c : Chunk). has_bit c.attached me) heap.plain.chunks) other has in
      let found = Contains-filter (λ (c : Chunk). has_bit c.attached me) heap.plain.chunks from.0 from.1 in
      let is : from.0 ≡ chunk =
      one_of_list heap.plain tiled chunk here from.0 found.1 (ap (λ (c : Chunk). c.list) from.2 ∙ same) in
      true≢false (sym found.0 ∙ (ap (λ (c : Chunk). has_bit c.attached me) is ∙ out))

  pub marks_apart : (index : ℕ) (other : Chunk) → index < MAX_HEAPS → Contains (marked_with me heap state index) other → other.list ≢ chunk.list
  marks_apart index other below has same =
      ⊎_elim
      (λ (at : index ≡ heap.plain.index).
      own_apart other
      (subst (λ (l : List Chunk). Contains l other)
      (cond-true (eqb index heap.plain.index) (marked_by me heap.plain) (marked_in me state index) (eq-eqb index heap.plain.index at)) has) same)
      (λ (away : index ≢ heap.plain.index).
      (let among : Contains (marked_in me state index) other =
      subst (λ (l : List Chunk). Contains l other)
      (cond-false (eqb index heap.plain.index) (marked_by me heap.plain) (marked_in me state index) (ne_eqb index heap.plain.index away)) has in
      away
      (one_heap names agree.namings agree.claims agree.agreed distinct index heap.plain.index other (unmarked chunk) below few
      (standing.named index (agree.namings index) other below (known_else heap (state.part me) names agree few index below away) among)
      (subst (λ (n : Naming). Contains n.chunks (unmarked chunk)) (known_here heap (state.part me) names agree few) (chunk_named heap.plain chunk here)) same)))
      (cases_eq index heap.plain.index)
