-- Chunks of a heap in hand are left, one after another: what that was of a line, and that the heap is in hand still.
use Rattle.std.proofs.Common.{◌++◌, ◌∙◌, ◌∷◌, ◌≡◌, List, [], ap, append_assoc, refl, subst, sym, ℕ}
use Rattle.hp_hall.proofs.HallStates.{did_same}
use Rattle.hp_hall.specs.HallState.{HallState}
use Rattle.hp_heap.specs.History.{HeapView}
use Rattle.hp_heap.specs.declared.entry.HeapAnswer.TheVariants as gives
use Rattle.hp_heap.specs.declared.entry.HeapCall.TheVariants as call
use Rattle.hp_proc.proofs.HandFacts.HandCalls.{call_index}
use Rattle.hp_proc.proofs.HandFacts.Holds.{does_next}
use Rattle.hp_proc.proofs.Joining.{does_same}
use Rattle.hp_proc.proofs.LeftHere.{left_first, left_holds, left_same, left_standing}
use Rattle.hp_proc.specs.Courses.{Standing}
use Rattle.hp_proc.specs.ExternalLines.{leaving_all}
use Rattle.hp_proc.specs.HeldMarks.{HoldsMarked}
use Rattle.hp_proc.specs.LeavesChunks.{LeavesInHand, LeavesNoted}
use Rattle.hp_proc.specs.LineInHall.{DoesHeld, did_in, moment_with}
use Rattle.hp_proc.specs.ParticipantView.{ParticipantView}
use Rattle.hp_proc.specs.Progress.{caller_of}
use Rattle.hp_proc.specs.declared.own_chunk.OwnChunk.{OwnChunk}
use Rattle.hp_serve.proofs.Carrying.{same_party, same_then}
use Rattle.hp_serve.specs.Party.{IsSameParty}

-- these chunks were left, and beside what it notes of chunks its lines left what they had
pub record HasLeft (chunks : List OwnChunk) (old new : ParticipantView) (heap next : HeapView) (state : HallState) : Type 0 where
  pub holds : HoldsMarked new.party.me new next state
  pub does : (rest : List OwnChunk) → DoesHeld old.party.me old new heap next state state (leaving_all (chunks ++ rest)) (leaving_all rest)
  pub same : IsSameParty old.party new.party
  pub index : next.plain.index ≡ heap.plain.index
  pub standing : new.context.standing ≡ record old.context.standing { chunks = new.context.standing.chunks }

none_left : (doer : ParticipantView) (heap : HeapView) (state : HallState) → HoldsMarked doer.party.me doer heap state
    → HasLeft [] doer doer heap heap state
none_left doer heap state holds = record {
  holds = holds;
  does = λ rest.
      does_same state.count (did_in doer.party.me state state) (leaving_all rest) (moment_with heap doer.party.me doer state)
      (did_same doer.party.me state);
  same = same_party doer.party;
  index = refl;
  standing = refl;
}

-- what lines left beside chunks, one after another
pub standing_then : (first mid last : Standing) → mid ≡ record first { chunks = mid.chunks } → last ≡ record mid { chunks = last.chunks }
    → last ≡ record first { chunks = last.chunks }
standing_then first mid last here there = there ∙ ap (λ (standing : Standing). record standing { chunks = last.chunks }) here

module _ (chunks : List OwnChunk) (chunk : OwnChunk) (old mid new : ParticipantView) (heap between after : HeapView) (state : HallState)
    (was : HasLeft chunks old mid heap between state) (step : LeavesNoted chunk mid new between after) where
  one_more : HasLeft (chunks ++ chunk ∷ []) old new heap after state
  one_more =
      let same = left_same mid new between after chunk step step.order step.mark in
      record {
        holds = subst (λ (who : ℕ). HoldsMarked who new after state) (sym same.me)
            (left_holds mid new between after chunk step step.order step.mark state was.holds);
        does = λ rest.
            subst (λ (all : List OwnChunk). DoesHeld old.party.me old new heap after state state (leaving_all all) (leaving_all rest))
            (sym (append_assoc chunks (chunk ∷ []) rest))
            (does_next old.party.me (moment_with heap old.party.me old state) (λ who. moment_with between who mid state)
            (λ who. moment_with after who new state) was.same.me refl (was.does (chunk ∷ rest))
            (left_first mid new between after chunk step step.order step.mark state rest));
        same = same_then old.party mid.party new.party was.same same;
        index = call_index (caller_of mid) (call.Unshare chunk.addr chunk.len) gives.Done between after step.leaves.unshared ∙ was.index;
        standing = standing_then old.context.standing mid.context.standing new.context.standing was.standing
            (left_standing mid new between after chunk step step.order step.mark);
      }

pub all_left : (chunks : List OwnChunk) (old new : ParticipantView) (heap next : HeapView) → LeavesInHand chunks old new heap next
    → (state : HallState) → HoldsMarked old.party.me old heap state → HasLeft chunks old new heap next state
all_left _ _ _ _ _ (LeavesInHand.none doer heap) state holds = none_left doer heap state holds
all_left _ _ _ _ _ (LeavesInHand.more chunks chunk old mid new heap between after before step) state holds =
    one_more chunks chunk old mid new heap between after state (all_left chunks old mid heap between before state holds) step
