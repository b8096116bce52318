-- What the steps tell, put together with the moves of the values.
use Rattle.std.proofs.Common.{◌≡◌, ℕ, List, ◌∷◌, get_or, Option, Some, None, unwrap_or, sym, ap, subst, ◌∙◌}
use Rattle.atomic_table.specs.Table.{Step, rest}
use Rattle.hp_hall.specs.declared.kept.Kept.{Kept}
use Rattle.hp_board.specs.declared.view.View.{View}
use Rattle.hp_board.specs.Agreement.{AgreesFrom}
use Rattle.hp_board.specs.Steps.{Sat, Takes, Gave}
use Rattle.hp_board.specs.Parts.{part_of, one_part}
use Rattle.hp_board.specs.Views.{after_give, made_in, value_of}
use Rattle.hp_board.specs.Handed.{HasTakenOut, IsHanded}
use Rattle.hp_board.specs.Knowing.{HasMappedHeld}
use Rattle.hp_heap.specs.History.{entries_of}
use Rattle.hp_hall.specs.Values.{history_of}
use Rattle.hp_board.specs.declared.view.Mine.{Mine}

abbrev Pairs : Type 0
Pairs = List (ℕ × Option Kept)

-- the value that was taken is in front
pub taken_front : (before : Sat) (slot : ℕ) (after : Sat) → Takes before slot after → (kept : Kept) × (after.1 ≡ (slot, Some kept) ∷ rest after.1)
taken_front before slot after takes =
    let front : after.1 ≡ (slot, Some takes.kept) ∷ before.1 = ap (λ (m : Sat). m.1) takes.out in
    (takes.kept, front ∙ ap (λ (l : Pairs). (slot, Some takes.kept) ∷ rest l) (sym front))

same_kept : (before : Sat) (slot : ℕ) (after : Sat) (result : Kept) (takes : Takes before slot after) → after.1 ≡ (slot, Some result) ∷ rest after.1 → takes.kept ≡ result
same_kept before slot after result takes is =
    let front : after.1 ≡ (slot, Some takes.kept) ∷ before.1 = ap (λ (m : Sat). m.1) takes.out in
    ap (λ (l : Pairs). unwrap_or (get_or l 0 (slot, None)).1 takes.kept) (sym front ∙ is)

-- it is the one that was moved out, which the taker's view has from then on, and of which it has learned
module _ (before : Sat) (slot : ℕ) (after : Sat) (result : Kept) (end : Sat) (takes : Takes before slot after) (front : after.1 ≡ (slot, Some result) ∷ rest after.1)
    (moved : end ≡ (after.0, (slot, None) ∷ rest after.1)) where
  view_is : part_of end.0 ≡ takes.view
  view_is = ap (λ (m : Sat). part_of m.0) moved ∙ ap (λ (m : Sat). part_of m.0) takes.out

  pub handed_is : IsHanded (part_of before.0) slot result (part_of end.0)
  handed_is =
      subst (IsHanded (part_of before.0) slot result) (sym view_is)
      (subst (λ (k : Kept). IsHanded (part_of before.0) slot k takes.view) (same_kept before slot after result takes front) takes.handed)

  pub taken_is : HasTakenOut slot result (part_of before.0) (part_of end.0)
  taken_is =
      subst (HasTakenOut slot result (part_of before.0)) (sym view_is)
      (subst (λ (k : Kept). HasTakenOut slot k (part_of before.0) takes.view) (same_kept before slot after result takes front) takes.taken)

  pub out_is : end ≡ (one_part (part_of end.0), (slot, None) ∷ before.1)
  out_is =
      moved ∙ ap (λ (m : Sat). (m.0, (slot, None) ∷ rest m.1)) takes.out
      ∙ ap (λ (m : Mine). (one_part m, (slot, None) ∷ before.1)) (sym view_is)

-- the value that was given has gone home
pub given_is : (step : Step (Option Kept)) (me : Sat) (found : ℕ) (end : Sat) (view : View) (given : Kept) (more : Pairs) → Gave step me found end
    → me ≡ (view, (step.word, Some given) ∷ more) → end ≡ (one_part (after_give step.word given (part_of view)), more)
given_is step me found end view given more gave is =
    let front : me.1 ≡ (step.word, Some given) ∷ more = ap (λ (m : Sat). m.1) is in
    (gave.home given (front ∙ ap (λ (l : Pairs). (step.word, Some given) ∷ rest l) (sym front))).given
    ∙ ap (λ (m : Sat). (one_part (after_give step.word given (part_of m.0)), rest m.1)) is

-- and rows became agreed in it by numbers that the giver has loaded
pub given_agrees : (step : Step (Option Kept)) (me : Sat) (found : ℕ) (end : Sat) (view : View) (given : Kept) (more : Pairs) → Gave step me found end
    → me ≡ (view, (step.word, Some given) ∷ more) → AgreesFrom (part_of view) (value_of step.word (part_of view).held) given
given_agrees step me found end view given more gave is =
    let front : me.1 ≡ (step.word, Some given) ∷ more = ap (λ (m : Sat). m.1) is in
    subst (λ (m : Sat). AgreesFrom (part_of m.0) (value_of step.word (part_of m.0).held) given) is
    (gave.home given (front ∙ ap (λ (l : Pairs). (step.word, Some given) ∷ rest l) (sym front))).agreed

-- its entries of the giver are those that this one made there
pub given_own : (step : Step (Option Kept)) (me : Sat) (found : ℕ) (end : Sat) (view : View) (given : Kept) (more : Pairs) → Gave step me found end
    → me ≡ (view, (step.word, Some given) ∷ more) → entries_of (part_of view).who (history_of given) ≡ made_in step.word (after_give step.word given (part_of view))
given_own step me found end view given more gave is =
    let front : me.1 ≡ (step.word, Some given) ∷ more = ap (λ (m : Sat). m.1) is in
    subst (λ (m : Sat). entries_of (part_of m.0).who (history_of given) ≡ made_in step.word (after_give step.word given (part_of m.0))) is
    (gave.home given (front ∙ ap (λ (l : Pairs). (step.word, Some given) ∷ rest l) (sym front))).own

-- and the giver's own table has the pages of the heaps that it still holds
pub given_mapped : (step : Step (Option Kept)) (me : Sat) (found : ℕ) (end : Sat) (view : View) (given : Kept) (more : Pairs) → Gave step me found end
    → me ≡ (view, (step.word, Some given) ∷ more) → HasMappedHeld (after_give step.word given (part_of view))
given_mapped step me found end view given more gave is =
    let front : me.1 ≡ (step.word, Some given) ∷ more = ap (λ (m : Sat). m.1) is in
    subst (λ (m : Sat). HasMappedHeld (after_give step.word given (part_of m.0))) is
    (gave.home given (front ∙ ap (λ (l : Pairs). (step.word, Some given) ∷ rest l) (sym front))).mapped
