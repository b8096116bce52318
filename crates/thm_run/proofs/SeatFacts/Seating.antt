-- What is left of all seats where one of them has come to something else.
use Rattle.std.proofs.Common.{◌≡◌, ◌≢◌, ◌∙◌, ℕ, List, Some, sym, ap, ⊎_elim}
use Rattle.std.specs.Prelude.{slice_get, slice_set}
use Rattle.std.proofs.lemmas.Bool.{cases_eq}
use Rattle.std.proofs.lemmas.Option.{slice_get_within, same_Some}
use Rattle.hp_plain.proofs.Slotted.{slice_get-set_other, slice_get-set_same}
use Rattle.thm_run.specs.Seats.{Seat}

-- a seat is the one that has come to something else, or one of the others
pub data IsSeatAfter (seats : List Seat) (who : ℕ) (new : Seat) (other : ℕ) (seat : Seat) : Type 0 where
  its : other ≡ who → seat ≡ new → IsSeatAfter seats who new other seat
  apart : other ≢ who → slice_get seats other ≡ Some seat → IsSeatAfter seats who new other seat

module _ (seats : List Seat) (who : ℕ) (old new : Seat) (there : slice_get seats who ≡ Some old) where
  -- the seat that came to something else
  pub its_seat : slice_get (slice_set seats who new) who ≡ Some new
  its_seat = slice_get-set_same seats who new (slice_get_within seats who old there)

  -- each other seat is as it was
  pub other_seat : (other : ℕ) → other ≢ who → slice_get (slice_set seats who new) other ≡ slice_get seats other
  other_seat other beside = slice_get-set_other seats who other new beside

  pub seat_behind : (other : ℕ) (seat : Seat) → slice_get (slice_set seats who new) other ≡ Some seat
      → IsSeatAfter seats who new other seat
  seat_behind other seat is =
      ⊎_elim
      (λ (same : other ≡ who).
      IsSeatAfter.its same (same_Some seat new (sym is ∙ ap (slice_get (slice_set seats who new)) same ∙ its_seat)))
      (λ (beside : other ≢ who). IsSeatAfter.apart beside (sym (other_seat other beside) ∙ is))
      (cases_eq other who)
