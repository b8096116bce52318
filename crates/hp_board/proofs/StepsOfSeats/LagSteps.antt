-- Lag is kept by each kind of step, by the one who makes it and by the others.
use Rattle.std.proofs.Common.{◌≡◌, ◌≢◌, ◌∙◌, ℕ, ◌<◌, ◌≤◌, Bool, true, false, not, ◌⊎◌, ⊎_elim, ◌∷◌, length, Some, refl, sym, ap, subst, arith}
use Rattle.std.specs.Option.{is_some}
use Rattle.hp_base.specs.declared.limits.TheConstants.{MAX_HEAPS}
use Rattle.hp_heap.specs.History.{HeapView}
use Rattle.hp_segs.specs.SegsView.{SegsView, is_member}
use Rattle.hp_stats.specs.StatViews.{PenView}
use Rattle.hp_hall.specs.SegsGives.{Giver}
use Rattle.hp_hall.specs.declared.kept.Kept.{Kept}
use Rattle.hp_hall.specs.declared.kept.Kept.TheVariants.{Heap, Names, Segments}
use Rattle.hp_hall.specs.declared.slot.TheConstants.{NAMES_SLOT}
use Rattle.hp_zone.specs.declared.names.Names.{Names as NamesView}
use Rattle.hp_board.specs.KeptValues.{IsKeptAt}
use Rattle.hp_board.specs.Lag.{IsLagging}
use Rattle.hp_board.specs.Left.{IsLeft}
use Rattle.hp_board.specs.Views.{Learned, BeginsWith, value_of, after_acking, after_give, after_load, after_take, after_unmapping, holds_segments}
use Rattle.hp_board.specs.declared.opening.Opening.{Opening}
use Rattle.hp_board.specs.declared.view.Mine.{Mine}
use Rattle.hp_board.proofs.Fronts.{front_itself, front_on, front_length}
use Rattle.hp_board.proofs.Pairs.{value_of-here, value_of-else, value_of-without_else}

-- whoever makes no step that shows in its view lags alike, where the others are in the roster as before
pub lag_other : (giver : Giver) (taken given : SegsView) (who : ℕ) (other : Mine) → IsLeft giver taken given → who ≢ giver.who
    → IsLagging taken who other → IsLagging given who other
lag_other giver taken given who other left apart lag = record {
  log = front_on taken.log given.log other.log left.log lag.log;
  heard = front_on taken.asks given.asks other.heard left.asks lag.heard;
  behind = lag.behind;
  within = lag.within;
  joined = left.others who apart ∙ lag.joined;
  joining = lag.joining;
}

module _ (segs : SegsView) (who : ℕ) (mine : Mine) (lag : IsLagging segs who mine) where
  -- what else changes in a view leaves it lagging
  pub lag_same : (new : Mine) → new.number ≡ mine.number → new.unmapped ≡ mine.unmapped → new.log ≡ mine.log → new.heard ≡ mine.heard
      → new.joined ≡ mine.joined → new.joining ≡ mine.joining → value_of MAX_HEAPS new.held ≡ value_of MAX_HEAPS mine.held → IsLagging segs who new
  lag_same new number unmapped log heard joined joining held = record {
    log = subst (BeginsWith segs.log) (sym log) lag.log;
    heard = subst (BeginsWith segs.asks) (sym heard) lag.heard;
    behind = let old = lag.behind in omega (arith, old, number, unmapped);
    within = let old = lag.within in let long = ap length log in omega (arith, old, unmapped, long);
    joined = lag.joined ∙ sym joined;
    joining = λ is. ap is_some held ∙ lag.joining (sym joining ∙ is);
  }

  taken_by : (opening : Opening) (slot : ℕ) (kept : Kept) (learned : Learned) → IsKeptAt opening slot kept → (slot ≡ MAX_HEAPS → kept ≡ Segments segs)
      → IsLagging segs who (after_take slot kept learned mine)
  taken_by opening slot (Heap heap pen) learned at its =
      let below = at.heap.below in
      lag_same (after_take slot (Heap heap pen) learned mine) refl refl refl refl refl refl
      (value_of-else slot MAX_HEAPS (Heap heap pen) mine.held (λ same. omega (arith, below, same)))
  taken_by opening slot (Segments other) learned at its =
      let same : Segments other ≡ Segments segs = its at.last in
      subst (λ (k : Kept). IsLagging segs who (after_take slot k learned mine)) (sym same) (record {
        log = front_itself segs.log;
        heard = front_itself segs.asks;
        behind = lag.behind;
        within = let long = front_length segs.log mine.log lag.log in omega (arith, lag.within, long);
        joined = lag.joined;
        joining = λ is.
            ap is_some (subst (λ (n : ℕ). value_of n ((slot, Segments segs) ∷ mine.held) ≡ Some (Segments segs)) at.last
            (value_of-here slot (Segments segs) mine.held));
      })
  taken_by opening slot (Names names) learned at its =
      let last = at.last in
      lag_same (after_take slot (Names names) learned mine) refl refl refl refl refl refl
      (value_of-else slot MAX_HEAPS (Names names) mine.held (λ same. omega (arith, last, same)))

  -- a slot is taken
  pub lag_take : (opening : Opening) (slot : ℕ) (kept : Kept) (learned : Learned) → IsKeptAt opening slot kept → (slot ≡ MAX_HEAPS → kept ≡ Segments segs)
      → IsLagging segs who (after_take slot kept learned mine)
  lag_take opening slot kept learned at its = taken_by opening slot kept learned at its

  -- a heap is given
  pub lag_give_heap : (slot : ℕ) (heap : HeapView) (pen : PenView) → slot < MAX_HEAPS → IsLagging segs who (after_give slot (Heap heap pen) mine)
  lag_give_heap slot heap pen below =
      lag_same (after_give slot (Heap heap pen) mine) refl refl refl refl refl refl
      (value_of-without_else slot MAX_HEAPS mine.held (λ same. omega (arith, below, same)))

  -- names are given
  pub lag_give_names : (slot : ℕ) (names : NamesView) → slot ≡ NAMES_SLOT → IsLagging segs who (after_give slot (Names names) mine)
  lag_give_names slot names last =
      lag_same (after_give slot (Names names) mine) refl refl refl refl refl refl
      (value_of-without_else slot MAX_HEAPS mine.held (λ same. omega (arith, last, same)))

  -- the segment value is given
  pub lag_give : (slot : ℕ) (giver : Giver) (given : SegsView) → mine.who ≡ who → IsLeft giver segs given → IsLagging given who (after_give slot (Segments given) mine)
  lag_give slot giver given same left = record {
    log = front_itself given.log;
    heard = front_itself given.asks;
    behind = lag.behind;
    within =
        let long = front_length segs.log mine.log lag.log in
        let longer = front_length given.log segs.log left.log in
        omega (arith, lag.within, long, longer);
    joined = ap (is_member given.roster) (sym same);
    joining = λ is. absurd (cc);
  }

  hand_by : (joined : Bool) → (joined ≡ true) ⊎ (holds_segments mine ≡ true) → not joined ≡ true → holds_segments mine ≡ true
  hand_by true hand is = absurd (cc)
  hand_by false hand is = ⊎_elim (λ wrong. absurd (cc)) (λ holds. holds) hand

  -- records are acknowledged
  pub lag_ack : (number : ℕ) → (mine.joined ≡ true) ⊎ (holds_segments mine ≡ true) → number ≤ length mine.log → IsLagging segs who (after_acking number mine)
  lag_ack number hand seen = record {
    log = lag.log;
    heard = lag.heard;
    behind = omega arith;
    within = seen;
    joined = lag.joined;
    joining = hand_by mine.joined hand;
  }

  -- rows are unmapped
  pub lag_partial : IsLagging segs who (after_unmapping mine)
  lag_partial = record {
    log = lag.log;
    heard = lag.heard;
    behind = omega (arith, lag.behind, lag.within);
    within = omega arith;
    joined = lag.joined;
    joining = lag.joining;
  }

  -- a number is loaded
  pub lag_load : (other number : ℕ) → IsLagging segs who (after_load other number mine)
  lag_load other number = record { log = lag.log; heard = lag.heard; behind = lag.behind; within = lag.within; joined = lag.joined; joining = lag.joining }
