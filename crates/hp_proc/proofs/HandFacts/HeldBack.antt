-- A heap is held, something is done with it, and it is given back: what is known then.
use Rattle.std.proofs.Common.{◌≡◌, ◌∙◌, ℕ, ◌<◌, ap, sym, subst}
use Rattle.hp_base.specs.declared.limits.TheConstants.{MAX_HEAPS}
use Rattle.hp_hall.specs.HallState.{HallState, OthersStay, SlotsStayBut}
use Rattle.hp_hall.specs.declared.slot.TheConstants.{NAMES_SLOT}
use Rattle.hp_heap.specs.History.{HeapView}
use Rattle.hp_stats.specs.StatViews.{PenView}
use Rattle.hp_proc.specs.HeldMarks.{HasMarksOf, IsTiedWith}
use Rattle.hp_proc.specs.LineInHall.{AreFreeBesideNames, HasCalledBeside, HoldsHeap, HoldsIn, IsBesideTheNames, IsFreeAt, KeepsHeld, MayGiveBeside, TableStays, moment}
use Rattle.hp_proc.specs.NamesInHand.{KeepsAgreed}
use Rattle.hp_proc.specs.ParticipantView.{ParticipantView}
use Rattle.hp_proc.specs.Progress.{IsTakenWith, MayDo}
use Rattle.hp_serve.specs.InHall.{IsTiedIn}
use Rattle.hp_serve.specs.Party.{IsSameParty}
use Rattle.hp_proc.proofs.HandFacts.BesideNames.{but_kept, gives_beside}
use Rattle.hp_proc.proofs.HandFacts.Holds.{again_put, holds_on, names_put, ready_put, with_kept}

module _ {first mid last : ParticipantView} {one two : HeapView} {pen : PenView} {slot : ℕ} {old a b : HallState}
    (same : IsSameParty first.party mid.party) (knew : mid.context ≡ first.context) (few : slot < MAX_HEAPS)
    (free : AreFreeBesideNames slot first.party.me old a) (hand : HoldsHeap slot first.party.me mid one pen a)
    (keeps : KeepsHeld mid.party.me mid last one two a b) where
  mine : last.party.me ≡ first.party.me
  mine = keeps.remains.same.me ∙ same.me

  index_is : two.plain.index ≡ slot
  index_is = keeps.index ∙ hand.index

  -- it has the heap in hand still, with its pen
  pub held_then : HoldsIn last.party.me last two b
  held_then = holds_on keeps (subst (λ (who : ℕ). HoldsIn who mid one a) (sym same.me) hand.holds)

  pub with_then : IsTakenWith b.taken two.plain.index pen
  with_then = with_kept keeps hand.taken_with

  free_then : AreFreeBesideNames two.plain.index first.party.me old b
  free_then = but_kept index_is free (subst (λ (who : ℕ). KeepsHeld who mid last one two a b) same.me keeps)

  -- and may give it back as far as the names go
  pub beside_then : MayGiveBeside first.party.me old → MayGiveBeside last.party.me b
  beside_then beside = subst (λ (who : ℕ). MayGiveBeside who b) (sym mine) (gives_beside free_then.names beside)

  module _ {c : HallState} (marks : HasMarksOf last.party.me two b c)
      (tied : IsTiedWith last.party.me last.party two b → IsTiedIn last.party.me last.party c) (ready : MayDo (moment last.party.me last c))
      (table : TableStays last.party.me b c) (agreed : KeepsAgreed last.party.me two b c) (at : IsFreeAt two.plain.index c)
      (slots : SlotsStayBut two.plain.index b c) (others : OthersStay last.party.me b c) where
    names_back : IsBesideTheNames first.party.me old c
    names_back =
        names_put (subst (λ (slot : ℕ). slot < MAX_HEAPS) (sym index_is) few) free_then
        (subst (λ (who : ℕ). KeepsAgreed who two b c) mine agreed) slots

    -- it did nothing with the names, and is ready again but for these
    pub back_then : HasCalledBeside first.party.me first last old c
    back_then =
        again_put same knew keeps
        (ready_put last two held_then (subst (λ (who : ℕ). AreFreeBesideNames two.plain.index who old b) (sym mine) free_then) marks tied ready
        table at slots others) names_back
