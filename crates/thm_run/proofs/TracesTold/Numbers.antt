-- What took the numbers of each participant, an ask or a notice, and that more of them only come after the others.
use Rattle.std.proofs.Common.{◌≡◌, ◌≢◌, ◌∙◌, ℕ, List, [], ◌∷◌, ◌++◌, Option, Some, None, refl, sym, ap, subst, append-nil, ⊎_elim}
use Rattle.std.specs.Prelude.{slice_get, slice_set}
use Rattle.std.proofs.lemmas.Bool.{cases_eq}
use Rattle.hp_segs.proofs.SlotFacts.ListFacts.{get_stays}
use Rattle.hp_proc.specs.Courses.{numbered_in}
use Rattle.hp_proc.specs.Doing.{Done}
use Rattle.hp_proc.specs.Doing.Done.{Asked, GaveUp}
use Rattle.thm_run.proofs.SeatFacts.Seating.{its_seat, other_seat}
use Rattle.thm_run.specs.Seats.{Seat}

-- what was done at a seat, where there is one
abbrev pub trace_in : Option Seat → List Done
trace_in None = []
trace_in (Some seat) = seat.trace

-- what took the numbers of a participant
abbrev pub numbers_of : List Seat → ℕ → List Done
numbers_of seats who = numbered_in (trace_in (slice_get seats who))

-- what of a trace takes numbers, of two traces
pub numbered_both : (trace more : List Done) → numbered_in (trace ++ more) ≡ numbered_in trace ++ numbered_in more
numbered_both [] more = refl
numbered_both (Asked asked run ∷ trace) more = ap (λ numbered. Asked asked run ∷ numbered) (numbered_both trace more)
numbered_both (GaveUp heap run ∷ trace) more = ap (λ numbered. GaveUp heap run ∷ numbered) (numbered_both trace more)
numbered_both (_ ∷ trace) more = numbered_both trace more

-- more came after the others
pub record HasMore (old new : List Done) : Type 0 where
  pub more : List Done
  pub is : new ≡ old ++ more

-- so it is with each participant
abbrev pub AreLater : (ℕ → List Done) → (ℕ → List Done) → Type 0
AreLater took later = (who : ℕ) → HasMore (took who) (later who)

-- what took a number stays at it
pub stays_at : (took later : ℕ → List Done) → AreLater took later → (who place : ℕ) (done : Done)
    → slice_get (took who) place ≡ Some done → slice_get (later who) place ≡ Some done
stays_at took later grown who place done is =
    subst (λ numbered. slice_get numbered place ≡ Some done) (sym (grown who).is)
    (get_stays (took who) (grown who).more place done is)

-- a seat has the numbers of its trace
pub its_numbers : (seats : List Seat) (who : ℕ) (seat : Seat) → slice_get seats who ≡ Some seat
    → numbers_of seats who ≡ numbered_in seat.trace
its_numbers seats who seat there = ap (λ found. numbered_in (trace_in found)) there

-- at one seat more was done
module _ (seats : List Seat) (who : ℕ) (old new : Seat) (there : slice_get seats who ≡ Some old) (more : List Done)
    (grows : new.trace ≡ old.trace ++ more) where
  -- the participant took numbers for what of it takes numbers
  pub more_numbers : numbers_of (slice_set seats who new) who ≡ numbers_of seats who ++ numbered_in more
  more_numbers =
      its_numbers (slice_set seats who new) who new (its_seat seats who old new there)
      ∙ ap numbered_in grows
      ∙ numbered_both old.trace more
      ∙ ap (λ numbered. numbered ++ numbered_in more) (sym (its_numbers seats who old there))

  -- and the others none
  same_numbers : (other : ℕ) → other ≢ who → numbers_of (slice_set seats who new) other ≡ numbers_of seats other ++ []
  same_numbers other beside =
      ap (λ found. numbered_in (trace_in found)) (other_seat seats who old new there other beside)
      ∙ sym (append-nil (numbers_of seats other))

  pub numbers_later : AreLater (numbers_of seats) (numbers_of (slice_set seats who new))
  numbers_later other =
      ⊎_elim
      (λ (same : other ≡ who). record {
        more = numbered_in more;
        is = subst (λ other. numbers_of (slice_set seats who new) other ≡ numbers_of seats other ++ numbered_in more)
            (sym same) more_numbers;
      })
      (λ (beside : other ≢ who). record { more = []; is = same_numbers other beside })
      (cases_eq other who)
