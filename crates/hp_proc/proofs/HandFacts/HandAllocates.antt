-- An allocation in the heap in hand, also one for a memzone, for which the names are in hand too.
use Rattle.std.proofs.Common.{◌≡◌, ◌≢◌, ◌∙◌, ℕ, Bool, true, false, List, Contains, Option, None, Some, refl, ap, sym, subst}
use Rattle.hp_base.specs.declared.chunk.Chunk.{Chunk}
use Rattle.hp_base.specs.declared.request.Request.{Request}
use Rattle.hp_base.specs.declared.tag.Tag.{Tag}
use Rattle.hp_hall.specs.AgreedNames.{chunk_memory}
use Rattle.hp_hall.specs.HallState.{HallState}
use Rattle.hp_hall.specs.Naming.{naming_of}
use Rattle.hp_hall.specs.declared.kept.Kept.{Kept}
use Rattle.hp_hall.specs.declared.slot.TheConstants.{NAMES_SLOT}
use Rattle.hp_hall.proofs.NamesLeft.{call_leaves}
use Rattle.hp_heap.specs.History.{HeapView, IsCall}
use Rattle.hp_heap.specs.PlainHeap.{PlainHeap}
use Rattle.hp_heap.specs.Step.{address_answer}
use Rattle.hp_heap.specs.declared.entry.HeapCall.TheVariants as call
use Rattle.hp_segs.specs.declared.external_range.ExternalRange.{ExternalRange}
use Rattle.hp_proc.specs.LineInHall.{HasNamesOut, HoldsIn, IsBesideTheNames, KeepsHeld}
use Rattle.hp_proc.specs.ParticipantView.{ParticipantView, after_call}
use Rattle.hp_proc.specs.Progress.{caller_of}
use Rattle.hp_proc.proofs.ChunksLeft.{call_chunks, call_marks, same_marks}
use Rattle.hp_proc.proofs.HandFacts.BesideNames.{knows_same}
use Rattle.hp_proc.proofs.HandFacts.HandCalls.{call_index, call_serves, hand_goes, held_still}
use Rattle.hp_proc.proofs.HandFacts.HandCut.{found_whole}
use Rattle.hp_proc.proofs.HandFacts.HeldOn.{GoesOnHeld}
use Rattle.hp_proc.proofs.HandFacts.Holds.{remains_same}
use Rattle.hp_proc.proofs.PagesStay.{alloc_pages}

-- a heap whose chunks stay may be held on, where the names say the same of it, or are in hand too
pub chunks_held : (taken : ℕ → Option Kept) (me : ℕ) (claims : Option (List ExternalRange)) (old new : PlainHeap)
    → (taken NAMES_SLOT ≡ None → naming_of new ≡ naming_of old) → new.chunks ≡ old.chunks
    → ((these : List ExternalRange) (chunk : Chunk) → claims ≡ Some these → Contains old.chunks chunk → Contains these (chunk_memory chunk))
    → GoesOnHeld taken me claims old new
chunks_held taken me claims old new named same all = record {
  named = named;
  marks = λ other apart. same_marks other old new same;
  claimed = λ these chunk knows among. all these chunk knows (subst (λ (chunks : List Chunk). Contains chunks chunk) same among);
}

-- who had the names in hand has them still, where it did nothing with them
pub out_still : {me : ℕ} {a b : HallState} → IsBesideTheNames me a b → HasNamesOut me a → HasNamesOut me b
out_still {me} {a} {b} names has = record { told = names.told ∙ has.told; out = λ none. has.out (sym names.slot.taken ∙ none) }

module _ (doer after : ParticipantView) (heap next : HeapView) (asked : Request) (tag : Tag) (found : Option ℕ) (a : HallState)
    (step : IsCall (caller_of doer) (call.Alloc asked tag) (address_answer found) heap next) (counted : after ≡ after_call doer)
    (named : tag.zone ≡ true → HasNamesOut doer.party.me a) (holds : HoldsIn doer.party.me doer heap a) where
  abbrev me : ℕ
  me = doer.party.me

  -- what the names speak of is as it was, but where they are in hand for a memzone
  says_still : (zone : Bool) → tag.zone ≡ zone → a.taken NAMES_SLOT ≡ None → naming_of next.plain ≡ naming_of heap.plain
  says_still true is none = let has = named is in absurd (has.out none)
  says_still false is none =
      (call_leaves (caller_of doer) (call.Alloc asked tag) (address_answer found) heap next step holds.in_hand.sound.tiled is).naming

  pub keeps_alloc : KeepsHeld me doer after heap next a a
  keeps_alloc =
      let hand = holds.in_hand in
      let of = call.Alloc asked tag in
      let given = address_answer found in
      subst (λ (after : ParticipantView). KeepsHeld me doer after heap next a a) (sym counted)
      (record {
        in_hand = hand_goes doer (a.part me) (a.seen me) (a.heard me) of given heap next step a.taken hand (after_call doer) refl
            (held_still doer (a.part me) (a.seen me) (a.heard me) of given heap next step a.taken hand (a.part me heap.plain.index).holding
            (alloc_pages (caller_of doer) asked tag given heap next step) refl (found_whole found) hand.held)
            (chunks_held a.taken me (a.part me heap.plain.index).claims heap.plain next.plain (says_still tag.zone refl)
            (call_chunks (caller_of doer) of given heap next step tt) hand.claimed);
        index = call_index (caller_of doer) of given heap next step;
        its_socket = call_serves (caller_of doer) of given heap next step;
        marks = call_marks me (caller_of doer) of given heap next step tt;
        context = refl;
        settled = holds.settled;
        mapped = holds.mapped;
        knows = knows_same me a;
        remains = remains_same me doer.party a holds.can.tied;
      })
