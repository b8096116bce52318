-- A heap is held, chunks of it are left, and it is given back: what is known then.
use Rattle.std.proofs.Common.{◌++◌, ◌<◌, ◌∙◌, ◌≡◌, ◌≢◌, ◌≤◌, List, ap, arith, inl, map, subst, sym, ℕ, ⊎_elim}
use Rattle.std.proofs.lemmas.Bool.{cases_eq}
use Rattle.hp_base.specs.declared.limits.TheConstants.{MAX_HEAPS}
use Rattle.hp_hall.specs.HallState.{HallState, OthersStay, SlotsStayBut}
use Rattle.hp_hall.specs.declared.slot.TheConstants.{NAMES_SLOT}
use Rattle.hp_heap.specs.History.{HeapView}
use Rattle.hp_proc.proofs.HandFacts.BesideNames.{gives_beside, home_again}
use Rattle.hp_proc.proofs.HandFacts.Holds.{names_put}
use Rattle.hp_proc.proofs.LeftHeld.{HasLeft}
use Rattle.hp_proc.specs.Contexts.{Context}
use Rattle.hp_proc.specs.Courses.{Standing}
use Rattle.hp_proc.specs.ExternalLines.{leaving_all}
use Rattle.hp_proc.specs.HeldMarks.{HasMarksOf, HoldsMarked, IsTiedWith}
use Rattle.hp_proc.specs.LineInHall.{
  AreFreeBesideNames,
  DoesHeld,
  HoldsHeap,
  IsBesideTheNames,
  IsFreeAt,
  IsReadyAgain,
  IsReadyBut,
  IsReadyIn,
  MayGiveBeside,
  TableStays,
  moment,
}
use Rattle.hp_proc.specs.NamesInHand.{KeepsAgreed}
use Rattle.hp_proc.specs.OwnChunks.{AreFirstOf, chunks_beside, chunks_of, own_chunk}
use Rattle.hp_proc.specs.ParticipantView.{ParticipantView}
use Rattle.hp_proc.specs.Progress.{IsTakenWith, MayDo}
use Rattle.hp_proc.specs.declared.own_chunk.OwnChunk.{OwnChunk}
use Rattle.hp_serve.proofs.Carrying.{same_then}
use Rattle.hp_serve.specs.InHall.{IsTiedIn}
use Rattle.hp_serve.specs.Party.{IsSameParty}
use Rattle.hp_stats.specs.StatViews.{PenView}

-- it is given back with other marks of its holder, who is ready again but for the names
pub ready_marked : (doer : ParticipantView) (heap : HeapView) {old a b : HallState} → HoldsMarked doer.party.me doer heap a
    → AreFreeBesideNames heap.plain.index doer.party.me old a → HasMarksOf doer.party.me heap a b
    → (IsTiedWith doer.party.me doer.party heap a → IsTiedIn doer.party.me doer.party b) → MayDo (moment doer.party.me doer b)
    → TableStays doer.party.me a b → IsFreeAt heap.plain.index b → SlotsStayBut heap.plain.index a b → OthersStay doer.party.me a b
    → IsReadyBut NAMES_SLOT doer.party.me doer b
ready_marked doer heap {old} {a} {b} holds free marks tied ready table at slots others =
    let me = doer.party.me in
    let declared = holds.may.declared in
    let count = others.later.count in
    record {
      serves = others.later.serves me holds.may.serves;
      declared = omega (arith, count, declared);
      free = record {
        taken = λ number away.
            ⊎_elim (λ (is : number ≡ heap.plain.index). ap b.taken is ∙ at.taken)
            (λ (apart : number ≢ heap.plain.index). slots.taken number apart ∙ free.taken number apart away)
            (cases_eq number heap.plain.index);
        home = λ number few away.
            ⊎_elim (λ (is : number ≡ heap.plain.index). subst b.may_take (sym is) at.home)
            (λ (apart : number ≢ heap.plain.index). slots.home number apart (free.home number (below number few away) apart))
            (cases_eq number heap.plain.index);
      };
      tied = tied holds.tied;
      ready = ready;
      attached = table.joined ∙ holds.attached;
      named = (others.later.named me).sockets ∙ holds.named;
      chunks = λ index. ap (map (own_chunk index)) (marks index) ∙ holds.chunks index;
    }
  where
    below : (number : ℕ) → number ≤ NAMES_SLOT → number ≢ NAMES_SLOT → number < NAMES_SLOT
    below number few away = omega (arith, few, away)

module _ {first mid last : ParticipantView} {one two : HeapView} {pen : PenView} {slot : ℕ} {old a : HallState}
    (same : IsSameParty first.party mid.party) (knew : mid.context ≡ first.context) (few : slot < MAX_HEAPS)
    (free : AreFreeBesideNames slot first.party.me old a) (hand : HoldsHeap slot first.party.me mid one pen a) (chunks : List OwnChunk)
    (left : HasLeft chunks mid last one two a) (ready : IsReadyIn first.party.me first old) where
  pub mine : last.party.me ≡ first.party.me
  mine = left.same.me ∙ same.me

  pub index_is : two.plain.index ≡ slot
  index_is = left.index ∙ hand.index

  -- it may give it back with its pen
  pub with_left : IsTakenWith a.taken two.plain.index pen
  with_left = record { heap = hand.taken_with.heap; out = ap a.taken left.index ∙ hand.taken_with.out }

  pub beside_left : MayGiveBeside last.party.me a
  beside_left =
      subst (λ (who : ℕ). MayGiveBeside who a) (sym mine) (gives_beside free.names (inl (ready.idle.free NAMES_SLOT)))

  free_left : AreFreeBesideNames two.plain.index first.party.me old a
  free_left = subst (λ (at : ℕ). AreFreeBesideNames at first.party.me old a) (sym index_is) free

  pub back_left : {b : HallState} → HasMarksOf last.party.me two a b → (IsTiedWith last.party.me last.party two a → IsTiedIn last.party.me last.party b)
      → MayDo (moment last.party.me last b) → TableStays last.party.me a b → KeepsAgreed last.party.me two a b → IsFreeAt two.plain.index b
      → SlotsStayBut two.plain.index a b → OthersStay last.party.me a b → IsReadyAgain first.party.me first last b
  back_left {b} marks tied may table agreed at slots others =
      let but : IsReadyBut NAMES_SLOT last.party.me last b =
      ready_marked last two left.holds (subst (λ (who : ℕ). AreFreeBesideNames two.plain.index who old a) (sym mine) free_left) marks tied may
      table at slots others in
      let names : IsBesideTheNames first.party.me old b =
      names_put (subst (λ (at : ℕ). at < MAX_HEAPS) (sym index_is) few) free_left
      (subst (λ (who : ℕ). KeepsAgreed who two a b) mine agreed) slots in
      record {
        same = same_then first.party mid.party last.party same left.same;
        ready = home_again (subst (λ (who : ℕ). IsReadyBut NAMES_SLOT who last b) mine but)
            (record {
              taken = names.slot.taken ∙ ready.idle.free NAMES_SLOT;
              home = names.slot.home (ready.idle.home NAMES_SLOT (omega arith));
            });
      }

-- with the heap in its hand it notes what it noted before
pub stood : (first mid : ParticipantView) (one : HeapView) {slot : ℕ} → mid.context ≡ first.context → one.plain.index ≡ slot
    → AreFirstOf slot first.context.standing.chunks → AreFirstOf one.plain.index mid.context.standing.chunks
stood first mid one {slot} knew index stand =
    subst (λ (at : ℕ). AreFirstOf at mid.context.standing.chunks) (sym index)
    (subst (AreFirstOf slot) (sym (ap (λ (context : Context). context.standing.chunks) knew)) stand)

-- what was left, by what was noted before it took the heap
module _ (first mid last : ParticipantView) (one two : HeapView) {slot : ℕ} {a : HallState} (knew : mid.context ≡ first.context)
    (index : one.plain.index ≡ slot) (stand : AreFirstOf slot first.context.standing.chunks)
    (left : HasLeft (chunks_of one.plain.index mid.context.standing.chunks) mid last one two a)
    (others : last.context.standing.chunks ≡ chunks_beside one.plain.index mid.context.standing.chunks) where
  others_are : last.context.standing.chunks ≡ chunks_beside slot first.context.standing.chunks
  others_are =
      others
      ∙ (ap (λ (at : ℕ). chunks_beside at mid.context.standing.chunks) index ∙ ap (chunks_beside slot) (ap (λ (context : Context). context.standing.chunks) knew))

  pub standing_left : last.context.standing ≡ record first.context.standing { chunks = chunks_beside slot first.context.standing.chunks }
  standing_left =
      left.standing
      ∙ (ap (λ (chunks : List OwnChunk). record mid.context.standing { chunks = chunks }) others_are
      ∙ ap (λ (standing : Standing). record standing { chunks = chunks_beside slot first.context.standing.chunks })
      (ap (λ (context : Context). context.standing) knew))

  -- the line goes on with the chunks of other heaps
  pub does_left : DoesHeld mid.party.me mid last one two a a (leaving_all first.context.standing.chunks) (leaving_all last.context.standing.chunks)
  does_left =
      subst (λ (chunks : List OwnChunk). DoesHeld mid.party.me mid last one two a a (leaving_all chunks) (leaving_all last.context.standing.chunks))
      (ap (λ (context : Context). context.standing.chunks) knew)
      (subst (λ (chunks : List OwnChunk). DoesHeld mid.party.me mid last one two a a (leaving_all chunks)
      (leaving_all last.context.standing.chunks)) (sym (stood first mid one knew index stand))
      (subst (λ (rest : List OwnChunk). DoesHeld mid.party.me mid last one two a a
      (leaving_all (chunks_of one.plain.index mid.context.standing.chunks ++ chunks_beside one.plain.index mid.context.standing.chunks))
      (leaving_all rest)) (sym others) (left.does (chunks_beside one.plain.index mid.context.standing.chunks))))
