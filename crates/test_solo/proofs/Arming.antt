-- One of the two takes heap 0, and may then be armed with an ask for it.
use Rattle.std.proofs.Common.{◌≡◌, ◌≢◌, ◌∙◌, ℕ, Option, Some, None, refl, subst, arith}
use Rattle.std.specs.Prelude.{IsSome}
use Rattle.hp_base.specs.declared.limits.TheConstants.{MAX_HEAPS}
use Rattle.hp_heap.specs.History.{HeapView}
use Rattle.hp_hall.specs.HallCalls.{HasTaken}
use Rattle.hp_hall.specs.HallState.{HallState, OthersStay, SlotsStayBut}
use Rattle.hp_hall.specs.Holding.{HeapPart, IsHeldWith, StandsFor}
use Rattle.hp_hall.specs.Values.{Fits}
use Rattle.hp_hall.specs.declared.kept.Kept.{Kept}
use Rattle.hp_hall.specs.declared.kept.Kept.TheVariants.{Heap, Names, Segments}
use Rattle.hp_hall.proofs.Gives.{armed_taken}
use Rattle.hp_hall.proofs.HallStates.{but_then, others_then, slots_but}
use Rattle.hp_segs.specs.Standing.{Holding}
use Rattle.hp_segs.specs.declared.ask.Ask.{Ask}
use Rattle.hp_serve.specs.Asking.{HasSettledAsks}
use Rattle.hp_serve.specs.SegmentSlot.{MarksStay, MayHold, StaysButParts}
use Rattle.hp_serve.proofs.InHalls.{marked_taken}

held_some : (heap : HeapView) (holding : Option Holding) → IsHeldWith heap holding → IsSome holding
held_some heap None held = absurd held
held_some heap (Some holding) held = refl

holds_first : (who : ℕ) (parts : ℕ → HeapPart) (kept : Kept) → Fits 0 kept → StandsFor who parts kept → IsSome (parts 0).holding
holds_first who parts (Heap heap pen) fits stands =
    subst (λ (n : ℕ). IsSome (parts n).holding) fits.0 (held_some heap (parts heap.plain.index).holding stands.held)
holds_first who parts (Segments segs) fits stands = absurd (omega (arith, fits))
holds_first who parts (Names names) fits stands = absurd (omega (arith, fits))

none_armed : (o : Option Ask) (ask : Ask) → o ≡ None → o ≡ Some ask → ⊥
none_armed o ask none some = cc

module _ (me : ℕ) (old mid : HallState) (kept : Kept) (took : HasTaken me 0 kept old mid) (kept_slots : SlotsStayBut 0 old mid)
    (kept_others : OthersStay me old mid) where
  apart : MAX_HEAPS ≢ 0
  apart = λ (same : MAX_HEAPS ≡ 0). cc

  pub may_arm : MayHold me old → MayHold me mid
  may_arm may = record {
    serves = kept_others.later.serves me may.serves;
    free = kept_slots.taken MAX_HEAPS apart ∙ may.free;
    home = kept_slots.home MAX_HEAPS apart may.home;
  }

  pub holds_it : IsSome (mid.part me 0).holding
  holds_it = holds_first me (mid.part me) kept took.fits took.stands

  -- who was armed with no ask has none that is not settled
  pub none_open : ((heap : ℕ) → (old.part me heap).armed ≡ None) → HasSettledAsks (mid.part me) (mid.heard me)
  none_open none heap ask is =
      absurd (none_armed (mid.part me heap).armed ask (armed_taken kept (old.part me) (mid.part me) took.part heap ∙ none heap) is)

  -- what is left once it was armed, or memory ran out
  pub record IsArmedThen (new : HallState) : Type 0 where
    pub slots : SlotsStayBut 0 old new
    pub marked : MarksStay me old new
    pub joined : new.joined me ≡ old.joined me
    pub own : new.own me ≡ old.own me
    pub others : OthersStay me old new

  pub armed_then : (new : HallState) → StaysButParts me mid new → IsArmedThen new
  armed_then new stays = record {
    slots = but_then kept_slots (slots_but stays.slots);
    marked = λ heap. stays.marked heap ∙ marked_taken kept (old.part me) (mid.part me) took.part heap;
    joined = stays.joined ∙ took.joined;
    own = stays.own ∙ took.own;
    others = others_then kept_others stays.others;
  }
