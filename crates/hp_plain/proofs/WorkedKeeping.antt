-- What slots keep, worked: one participant, one slot.
use Rattle.std.proofs.Common.{◌≡◌, ℕ, Bool, true, false, List, [], ◌∷◌, ◌++◌, Some, refl, sym, subst, arith}
use Rattle.std.specs.List.{AllByRecursion}
use Rattle.std.proofs.lemmas.List.{append_cancel_left}
use Rattle.std.proofs.lemmas.Option.{same_Some}
use Rattle.hp_heap.specs.declared.entry.Entry.{Entry}
use Rattle.hp_heap.specs.History.{HeapView}
use Rattle.hp_hall.specs.declared.kept.Kept.{Kept}
use Rattle.hp_plain.specs.InTurn.{AreTakenInTurn}
use Rattle.hp_plain.specs.Keeping.{IsHeapGivenBy, IsKeptBy}
use Rattle.hp_hall.specs.Mail.{MailStep, Takes, Gives}

abbrev back_and_forth : Kept → Kept → Kept → List (ℕ × MailStep)
back_and_forth first second third = (0, Takes 0 first) ∷ (0, Gives 0 second) ∷ (0, Takes 0 third) ∷ []

-- what is taken first is what the slot had, and what is taken then is what was given in between, which the slot has from then on
takes_what_it_had : (was now first second third : Kept) → IsKeptBy 1 (back_and_forth first second third) (was ∷ []) (now ∷ []) → was ≡ first
takes_what_it_had was now first second third by = same_Some was first by.0.shows

takes_what_was_given : (was now first second third : Kept) → IsKeptBy 1 (back_and_forth first second third) (was ∷ []) (now ∷ [])
    → second ≡ third
takes_what_was_given was now first second third by = same_Some second third by.1.1.0.shows

keeps_what_was_given : (was now first second third : Kept) → IsKeptBy 1 (back_and_forth first second third) (was ∷ []) (now ∷ []) → now ∷ [] ≡ second ∷ []
keeps_what_was_given was now first second third by = by.1.1.1

-- in turn a slot is not taken while it is out, and not given back while its value is there; and after the last take it is out
not_taken_twice : (first second : Kept) (homes : List Bool) → AreTakenInTurn ((0, Takes 0 first) ∷ (1, Takes 0 second) ∷ []) (true ∷ []) homes → ⊥
not_taken_twice first second homes turns = let there : Some false ≡ Some true = turns.1.0 in cc

not_given_twice : (first second : Kept) (homes : List Bool) → AreTakenInTurn ((0, Gives 0 first) ∷ (1, Gives 0 second) ∷ []) (false ∷ []) homes → ⊥
not_given_twice first second homes turns = let out : Some true ≡ Some false = turns.1.0 in cc

is_out_last : (first second third : Kept) (homes : List Bool) → AreTakenInTurn (back_and_forth first second third) (true ∷ []) homes
    → homes ≡ false ∷ []
is_out_last first second third homes turns = turns.1.1.1

-- with one participant, participant 1 makes no step
nobody_else : (old new : List Kept) (step : MailStep) → IsKeptBy 1 ((1, step) ∷ []) old new → ⊥
nobody_else old new step by = let below = by.0.declared in absurd (omega (arith, below))

module _ (who : ℕ) (heap : HeapView) (entry : Entry) where
  abbrev longer : HeapView
  longer = record heap { history = heap.history ++ entry ∷ [] }

  -- a heap may be given with an entry of the giver, and with no other's
  given_with_own : entry.caller.participant ≡ who → IsHeapGivenBy who heap longer
  given_with_own is = record { index = refl; serves = refl; own = entry ∷ []; history = refl; only = (is, tt) }

  given_with_no_other : IsHeapGivenBy who heap longer → entry.caller.participant ≡ who
  given_with_no_other by =
      let same : by.own ≡ entry ∷ [] = append_cancel_left heap.history by.own (entry ∷ []) (sym by.history) in
      (subst (AllByRecursion (λ e. e.caller.participant ≡ who)) same by.only).0
