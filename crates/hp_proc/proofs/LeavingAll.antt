-- The chunks of heap after heap are left: no heap is held twice, and what was noted of chunks goes with them.
use Rattle.std.proofs.Common.{◌+◌, ◌++◌, ◌<◌, ◌≤◌, ◌∙◌, ◌∷◌, ◌≡◌, ◌⊎◌, Bool, Contains, List, None, Some, [], ap, arith, cond, count_by, eqb, false, filter, inl, inr, length, not, refl, suc, subst, sym, true, zero, ℕ, ⊎_elim}
use Rattle.std.specs.List.{AllByRecursion}
use Rattle.std.proofs.lemmas.Bool.{cases_eq, eqb-true, ne_eqb}
use Rattle.std.proofs.lemmas.List.Sums.{count_by-le-length, length-filter}
use Rattle.hp_base.specs.declared.limits.TheConstants.{MAX_HEAPS}
use Rattle.hp_external.proofs.ListLemmas.{filter_opposite}
use Rattle.hp_hall.specs.HallState.{HallState}
use Rattle.hp_heap.proofs.AllocFacts.ChoiceLaw.{AllByRecursion-contains, Contains-here, Contains-none}
use Rattle.hp_heap.proofs.HistoryFacts.Counting.{count_by-append, count_by-cons}
use Rattle.hp_heap.proofs.Members.{AllByRecursion-each, counted_some, filter_swapped}
use Rattle.hp_proc.proofs.Halted.{halts_more}
use Rattle.hp_proc.proofs.HandFacts.Holds.{does_next}
use Rattle.hp_proc.proofs.HandFacts.OnceHeld.{once_none}
use Rattle.hp_proc.proofs.Joining.{does_same}
use Rattle.hp_proc.proofs.LeftHeld.{standing_then}
use Rattle.hp_proc.proofs.OwnNotes.{beside_here, first_ones, none_first, of_here, some_first}
use Rattle.hp_proc.specs.Courses.{Standing}
use Rattle.hp_proc.specs.Doing.{Doing}
use Rattle.hp_proc.specs.ExternalLines.{leaving_all}
use Rattle.hp_proc.specs.LineInHall.{DoesHere, DoesOnceHere, HaltsHere, IsReadyIn, did_in, moment}
use Rattle.hp_proc.specs.OwnChunks.{AreFirstOf, AreOwnChunks, chunks_beside, chunks_of, first_of}
use Rattle.hp_proc.specs.ParticipantView.{ParticipantView}
use Rattle.hp_proc.specs.Progress.{AreOnce}
use Rattle.hp_proc.specs.declared.own_chunk.OwnChunk.{OwnChunk}
use Rattle.hp_hall.proofs.HallStates.{did_same}
use Rattle.hp_script.specs.declared.answer.Answer.TheVariants as answer

-- what it did so far: some heaps were held, none twice, and it notes no chunk of these
pub record AreLeaving (me : ℕ) (old now : ParticipantView) (from to : HallState) : Type 0 where
  pub held : List ℕ
  pub once : AreOnce held
  pub gone : AllByRecursion (λ heap. chunks_of heap now.context.standing.chunks ≡ []) held
  pub does : DoesHere held me old now from to (leaving_all old.context.standing.chunks) (leaving_all now.context.standing.chunks)
  pub standing : now.context.standing ≡ record old.context.standing { chunks = now.context.standing.chunks }

pub leaving_nothing : (doer : ParticipantView) (state : HallState) → AreLeaving doer.party.me doer doer state state
leaving_nothing doer state = record {
  held = [];
  once = once_none;
  gone = tt;
  does = does_same state.count (did_in doer.party.me state state) (leaving_all doer.context.standing.chunks) (moment doer.party.me doer state)
      (did_same doer.party.me state);
  standing = refl;
}

all_on : {X : Type 0} (P : X → Type 0) (first second : List X) → AllByRecursion P first → AllByRecursion P second → AllByRecursion P (first ++ second)
all_on P [] second here there = there
all_on P (x ∷ first) second here there = (here.0, all_on P first second here.1 there)

-- one more heap is held once where it was not held
once_more : (held : List ℕ) (index : ℕ) → AreOnce held → (Contains held index → ⊥) → AreOnce (held ++ index ∷ [])
once_more held index once none heap =
    let all = count_by-append (λ (other : ℕ). eqb other heap) held (index ∷ []) in
    let one = count_by-cons (λ (other : ℕ). eqb other heap) index [] in
    let few = once heap in
    elim (cases_eq index heap) [
      | inl same ↦
          let weight : cond {A = ℕ} (eqb index heap) 1 0 ≤ 1 = at_most (eqb index heap) in
          let before : count_by (λ (other : ℕ). eqb other heap) held ≤ 0 = not_more heap same in
          omega (arith, all, one, weight, before)
      | inr apart ↦
          let weight : cond {A = ℕ} (eqb index heap) 1 0 ≡ 0 = ap (λ (b : Bool). cond {A = ℕ} b 1 0) (ne_eqb index heap apart) in
          omega (arith, all, one, weight, few)
    ]
  where
    at_most : (b : Bool) → cond {A = ℕ} b 1 0 ≤ 1
    at_most true = omega arith
    at_most false = omega arith

    by_count : (heap count : ℕ) → index ≡ heap → count_by (λ (other : ℕ). eqb other heap) held ≡ count → count ≤ 0
    by_count heap zero same is = omega arith
    by_count heap (suc count) same is =
        let some = counted_some (λ (other : ℕ). eqb other heap) held (omega (arith, is)) in
        absurd (none (subst (Contains held) (eqb-true some.0 heap some.1.0 ∙ sym same) some.1.1))

    not_more : (heap : ℕ) → index ≡ heap → count_by (λ (other : ℕ). eqb other heap) held ≤ 0
    not_more heap same = by_count heap (count_by (λ (other : ℕ). eqb other heap) held) same refl

-- no chunk is of a heap of which none was, with fewer chunks
none_beside : (index heap : ℕ) (chunks : List OwnChunk) → chunks_of heap chunks ≡ [] → chunks_of heap (chunks_beside index chunks) ≡ []
none_beside index heap chunks none =
    filter_swapped (λ (chunk : OwnChunk). eqb chunk.heap heap) (λ (chunk : OwnChunk). not (eqb chunk.heap index)) chunks
    ∙ ap (filter (λ (chunk : OwnChunk). not (eqb chunk.heap index))) none

module _ (me : ℕ) (old now : ParticipantView) (from to : HallState) (was : AreLeaving me old now from to) (chunk : OwnChunk)
    (is : Some chunk ≡ first_of now.context.standing.chunks) (own : AreOwnChunks now.context.standing.chunks) where
  abbrev chunks : List OwnChunk
  chunks = now.context.standing.chunks

  abbrev rest : List OwnChunk
  rest = (some_first chunk chunks (sym is)).rest

  chunks_are : chunks ≡ chunk ∷ rest
  chunks_are = (some_first chunk chunks (sym is)).are

  own_first : AreOwnChunks (chunk ∷ rest)
  own_first = subst AreOwnChunks chunks_are own

  pub few_next : chunk.heap < MAX_HEAPS
  few_next = own_first.few.0

  pub first_next : AreFirstOf chunk.heap chunks
  first_next = subst (AreFirstOf chunk.heap) (sym chunks_are) (first_ones chunk rest own_first.rising)

  -- it has not held that heap
  not_held : Contains was.held chunk.heap → ⊥
  not_held held =
      let none : chunks_of chunk.heap chunks ≡ [] =
      AllByRecursion-contains (λ (heap : ℕ). chunks_of heap chunks ≡ []) was.held chunk.heap was.gone held in
      let some : chunks_of chunk.heap chunks ≡ chunk ∷ chunks_of chunk.heap rest = ap (chunks_of chunk.heap) chunks_are ∙ of_here chunk.heap chunk rest refl in
      Contains-none chunk (subst (λ (l : List OwnChunk). Contains l chunk) (sym some ∙ none) (Contains-here chunk (chunks_of chunk.heap rest)))

  held_once : AreOnce (was.held ++ chunk.heap ∷ [])
  held_once = once_more was.held chunk.heap was.once not_held

  module _ (new : ParticipantView) (last : HallState) (same : now.party.me ≡ me) (count : to.count ≡ from.count) where
    -- the chunks of its heap were left
    module _ (does : DoesHere (chunk.heap ∷ []) now.party.me now new to last (leaving_all chunks) (leaving_all new.context.standing.chunks))
        (standing : new.context.standing ≡ record now.context.standing { chunks = chunks_beside chunk.heap chunks }) where
      left_are : new.context.standing.chunks ≡ chunks_beside chunk.heap chunks
      left_are = ap (λ (standing : Standing). standing.chunks) standing

      pub leaving_next : AreLeaving me old new from last
      leaving_next = record {
        held = was.held ++ chunk.heap ∷ [];
        once = held_once;
        gone = subst (λ (l : List OwnChunk). AllByRecursion (λ (heap : ℕ). chunks_of heap l ≡ []) (was.held ++ chunk.heap ∷ [])) (sym left_are)
            (all_on (λ (heap : ℕ). chunks_of heap (chunks_beside chunk.heap chunks) ≡ []) was.held (chunk.heap ∷ [])
            (AllByRecursion-each (λ (heap : ℕ). chunks_of heap (chunks_beside chunk.heap chunks) ≡ []) was.held
            (λ heap among.
            none_beside chunk.heap heap chunks
            (AllByRecursion-contains (λ (other : ℕ). chunks_of other chunks ≡ []) was.held heap was.gone among)))
            (filter_opposite (λ (one : OwnChunk). eqb one.heap chunk.heap) chunks, tt));
        does = does_next me (moment me old from) (λ who. moment who now to) (λ who. moment who new last) same count was.does does;
        standing = standing_then old.context.standing now.context.standing new.context.standing was.standing
            (standing
            ∙ ap (λ (l : List OwnChunk). record now.context.standing { chunks = l }) (sym left_are));
      }

      -- they are fewer then
      pub fewer_next : length new.context.standing.chunks < length chunks
      fewer_next =
          let all = ap (λ (l : List OwnChunk). length l) chunks_are in
          let others = ap (λ (l : List OwnChunk). length l) (left_are ∙ ap (chunks_beside chunk.heap) chunks_are) in
          let none = beside_here chunk.heap chunk rest refl in
          let kept = ap (λ (l : List OwnChunk). length l) none in
          let within = length-filter (λ (one : OwnChunk). not (eqb one.heap chunk.heap)) rest in
          let most = count_by-le-length (λ (one : OwnChunk). not (eqb one.heap chunk.heap)) rest in
          omega (arith, all, others, kept, within, most)

    -- it stopped over that heap
    pub leaving_stops : HaltsHere (chunk.heap ∷ []) now.party.me now new to last (leaving_all chunks)
        → (heaps : List ℕ) × AreOnce heaps × HaltsHere heaps me old new from last (leaving_all old.context.standing.chunks)
    leaving_stops stops = (
      was.held ++ chunk.heap ∷ [],
      held_once,
      halts_more (chunk.heap ∷ []) from to last now.party.me me (λ moment. moment) (λ moment. moment) now new (moment me old from)
          (leaving_all old.context.standing.chunks) same count (leaving_all chunks) was.does stops,
    )

-- none is left
pub leaving_ends : (me : ℕ) (old now : ParticipantView) (from to : HallState) → AreLeaving me old now from to
    → None ≡ first_of now.context.standing.chunks
    → DoesOnceHere me old now from to (leaving_all old.context.standing.chunks) (Doing.Ended answer.Done)
leaving_ends me old now from to was is = record {
  held = was.held;
  once = was.once;
  does = subst (λ (l : List OwnChunk). DoesHere was.held me old now from to (leaving_all old.context.standing.chunks) (leaving_all l))
      (none_first now.context.standing.chunks (sym is)) was.does;
}

pub standing_ends : (me : ℕ) (old now : ParticipantView) (from to : HallState) → AreLeaving me old now from to
    → None ≡ first_of now.context.standing.chunks → now.context.standing ≡ record old.context.standing { chunks = [] }
standing_ends me old now from to was is =
    was.standing
    ∙ ap (λ (l : List OwnChunk). record old.context.standing { chunks = l }) (none_first now.context.standing.chunks (sym is))

-- where a chunk is noted it was ready
pub none_noted : (doer now : ParticipantView) (chunk : OwnChunk) → Some chunk ≡ first_of now.context.standing.chunks
    → (doer.context.standing.chunks ≡ [] → now ≡ doer) → doer.context.standing.chunks ≡ [] → ⊥
none_noted doer now chunk is alone none =
    let wrong : Some chunk ≡ first_of [] =
    is
    ∙ (ap (λ (d : ParticipantView). first_of d.context.standing.chunks) (alone none) ∙ ap first_of none) in
    cc

pub must_ready : (doer now : ParticipantView) (chunk : OwnChunk) (state : HallState) → Some chunk ≡ first_of now.context.standing.chunks
    → (doer.context.standing.chunks ≡ [] → now ≡ doer) → (doer.context.standing.chunks ≡ []) ⊎ IsReadyIn doer.party.me doer state
    → IsReadyIn doer.party.me doer state
must_ready doer now chunk state is alone may =
    ⊎_elim (λ (none : doer.context.standing.chunks ≡ []). absurd (none_noted doer now chunk is alone none))
    (λ (ready : IsReadyIn doer.party.me doer state). ready) may
