-- A heap in hand that was searched, got pages and was searched again is in hand still.
use Rattle.std.proofs.Common.{◌≡◌, ℕ, true, Option, refl, sym, subst}
use Rattle.hp_base.specs.declared.request.Request.{Request}
use Rattle.hp_base.specs.declared.tag.Tag.{Tag}
use Rattle.hp_hall.specs.HallState.{HallState}
use Rattle.hp_heap.specs.History.{HeapView, IsCall}
use Rattle.hp_heap.specs.Step.{address_answer}
use Rattle.hp_heap.specs.declared.entry.HeapAnswer.TheVariants as gives
use Rattle.hp_heap.specs.declared.entry.HeapCall.TheVariants as call
use Rattle.hp_script.specs.declared.answer.Answer.TheVariants as answer
use Rattle.hp_proc.specs.LineInHall.{HasNamesOut, HoldsIn, IsKnownMapped, KeepsHeld}
use Rattle.hp_proc.specs.ParticipantView.{ParticipantView, after_call}
use Rattle.hp_proc.specs.Progress.{caller_of}
use Rattle.hp_proc.proofs.ChunkLies.{allocation_lies}
use Rattle.hp_proc.proofs.HandFacts.BesideNames.{names_kept}
use Rattle.hp_proc.proofs.HandFacts.HandAllocates.{keeps_alloc, out_still}
use Rattle.hp_proc.proofs.HandFacts.Holds.{holds_on, keeps_then}

module _ (doer mid grown : ParticipantView) (heap next more : HeapView) (asked request : Request) (tag : Tag) (found : Option ℕ)
    (a b : HallState) (step : IsCall (caller_of doer) (call.Alloc asked tag) (address_answer found) heap next) (counted : mid ≡ after_call doer)
    (named : tag.zone ≡ true → HasNamesOut doer.party.me a) (holds : HoldsIn doer.party.me doer heap a)
    (grew : KeepsHeld mid.party.me mid grown next more a b) where
  -- once it got pages, or none
  pub keeps_grown : KeepsHeld doer.party.me doer grown heap more a b
  keeps_grown = keeps_then (keeps_alloc doer mid heap next asked tag found a step counted named holds) grew

  pub holds_grown : HoldsIn grown.party.me grown more b
  holds_grown = holds_on keeps_grown holds

  pub named_grown : tag.zone ≡ true → HasNamesOut grown.party.me b
  named_grown is =
      subst (λ (who : ℕ). HasNamesOut who b) (sym keeps_grown.remains.same.me) (out_still (names_kept keeps_grown) (named is))

  module _ (last : ParticipantView) (again : HeapView) (twice : Option ℕ)
      (second : IsCall (caller_of grown) (call.Alloc request tag) (address_answer twice) more again) (called : last ≡ after_call grown) where
    -- and searched it again
    pub keeps_again : KeepsHeld doer.party.me doer last heap again a b
    keeps_again = keeps_then keeps_grown (keeps_alloc grown last more again request tag twice b second called named_grown holds_grown)

  -- an address that it gave then lies in what its caller may use
  pub lies_again : (again : HeapView) (addr : ℕ) → IsCall (caller_of grown) (call.Alloc request tag) (gives.Address addr) more again
      → IsKnownMapped doer.party.me b (answer.Address addr)
  lies_again again addr second =
      subst (λ (who : ℕ). IsKnownMapped who b (answer.Address addr)) keeps_grown.remains.same.me
      (allocation_lies grown.party.me grown request tag addr more again b second refl holds_grown)
