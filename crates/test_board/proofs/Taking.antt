-- A participant takes heap 0, and may then ask for pages for it.
use Rattle.std.proofs.Common.{◌≡◌, ◌≢◌, ◌∙◌, ℕ, ◌<◌, Option, Some, None, refl, sym, subst, arith}
use Rattle.std.specs.Prelude.{IsSome}
use Rattle.hp_base.specs.declared.limits.TheConstants.{MAX_HEAPS}
use Rattle.hp_heap.specs.History.{HeapView}
use Rattle.hp_hall.specs.HallCalls.{HasTaken}
use Rattle.hp_hall.specs.HallState.{HallState, OthersStay, SlotsStayBut}
use Rattle.hp_hall.specs.Holding.{HeapPart, IsHeldWith, StandsFor}
use Rattle.hp_hall.specs.Values.{Fits}
use Rattle.hp_hall.specs.declared.kept.Kept.{Kept}
use Rattle.hp_hall.specs.declared.kept.Kept.TheVariants.{Heap, Names, Segments}
use Rattle.hp_hall.proofs.Gives.{armed_taken}
use Rattle.hp_segs.specs.Standing.{Holding}
use Rattle.hp_segs.specs.declared.ask.Ask.{Ask}
use Rattle.hp_serve.specs.Asking.{HasSettledAsks}
use Rattle.hp_serve.specs.InHall.{CanServe}
use Rattle.hp_serve.specs.Party.{Party}
use Rattle.hp_serve.proofs.InHalls.{tied_taken}

pub held_some : (heap : HeapView) (holding : Option Holding) → IsHeldWith heap holding → IsSome holding
held_some heap None held = absurd held
held_some heap (Some holding) held = refl

holds_first : (who : ℕ) (parts : ℕ → HeapPart) (kept : Kept) → Fits 0 kept → StandsFor who parts kept → IsSome (parts 0).holding
holds_first who parts (Heap heap pen) fits stands =
    subst (λ (n : ℕ). IsSome (parts n).holding) fits.0 (held_some heap (parts heap.plain.index).holding stands.held)
holds_first who parts (Segments segs) fits stands = absurd (omega (arith, fits))
holds_first who parts (Names names) fits stands = absurd (omega (arith, fits))

none_armed : (o : Option Ask) (ask : Ask) → o ≡ None → o ≡ Some ask → ⊥
none_armed o ask none some = cc

-- it has taken that value out of the slot of heap 0
pub record TookFirst (me : ℕ) (kept : Kept) (old mid : HallState) : Type 0 where
  pub took : HasTaken me 0 kept old mid
  pub slots : SlotsStayBut 0 old mid
  pub others : OthersStay me old mid

module _ (me : ℕ) (old mid : HallState) (kept : Kept) (is : TookFirst me kept old mid) where
  apart : MAX_HEAPS ≢ 0
  apart = λ (same : MAX_HEAPS ≡ 0). cc

  pub can_ask : (party : Party) → CanServe me party old → CanServe me party mid
  can_ask party can = record {
    may = record {
      serves = is.others.later.serves me can.may.serves;
      declared = subst (λ (n : ℕ). me < n) (sym is.others.later.count) can.may.declared;
      free = is.slots.taken MAX_HEAPS apart ∙ can.may.free;
      home = is.slots.home MAX_HEAPS apart can.may.home;
    };
    tied = tied_taken me 0 kept party is.took is.others.later can.tied;
  }

  pub holds_it : IsSome (mid.part me 0).holding
  holds_it = holds_first me (mid.part me) kept is.took.fits is.took.stands

  -- who was armed with no ask has none that is not settled
  pub none_open : ((heap : ℕ) → (old.part me heap).armed ≡ None) → HasSettledAsks (mid.part me) (mid.heard me)
  none_open none heap ask armed =
      absurd (none_armed (mid.part me heap).armed ask (armed_taken kept (old.part me) (mid.part me) is.took.part heap ∙ none heap) armed)
