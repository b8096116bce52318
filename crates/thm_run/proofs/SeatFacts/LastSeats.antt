-- Where each participant came to a seat of its own, all of them are the seats after.
use Rattle.std.proofs.Common.{◌≡◌, ℕ, zero, suc, List, [], ◌∷◌, length, Some, refl, ap, subst}
use Rattle.std.specs.Prelude.{slice_get}
use Rattle.std.proofs.lemmas.Option.{same_Some}
use Rattle.thm_run.specs.Seats.{Seat}

-- a participant came to this
pub record CameTo (IsBehind : ℕ → Seat → Seat → Type 0) (who : ℕ) (seat : Seat) : Type 0 where
  pub last : Seat
  pub is : IsBehind who seat last

-- all came to these
pub record AllCameTo (IsBehind : ℕ → Seat → Seat → Type 0) (seats : List Seat) : Type 0 where
  pub lasts : List Seat
  pub count : length lasts ≡ length seats
  pub each : (who : ℕ) (seat : Seat) → slice_get seats who ≡ Some seat
      → (last : Seat) × (slice_get lasts who ≡ Some last) × IsBehind who seat last
  pub were : (who : ℕ) (last : Seat) → slice_get lasts who ≡ Some last
      → (seat : Seat) × (slice_get seats who ≡ Some seat) × IsBehind who seat last

no_seat : (who : ℕ) (seat : Seat) → slice_get {X = Seat} [] who ≡ Some seat → ⊥
no_seat who seat at = cc

-- where each came to one
pub all_came : (IsBehind : ℕ → Seat → Seat → Type 0) (seats : List Seat)
    → ((who : ℕ) (seat : Seat) → slice_get seats who ≡ Some seat → CameTo IsBehind who seat) → AllCameTo IsBehind seats
all_came IsBehind [] comes = record {
  lasts = [];
  count = refl;
  each = λ who seat at. absurd (no_seat who seat at);
  were = λ who last at. absurd (no_seat who last at);
}
all_came IsBehind (first ∷ seats) comes =
    let here = comes 0 first refl in
    let rest = all_came (λ who. IsBehind (suc who)) seats (λ who seat at. record {
      last = (comes (suc who) seat at).last;
      is = (comes (suc who) seat at).is;
    }) in
    record {
      lasts = here.last ∷ rest.lasts;
      count = ap suc rest.count;
      each = each_of here rest;
      were = were_of here rest;
    }
  where
    each_of : (here : CameTo IsBehind 0 first) (rest : AllCameTo (λ who. IsBehind (suc who)) seats) (who : ℕ) (seat : Seat)
        → slice_get (first ∷ seats) who ≡ Some seat
        → (last : Seat) × (slice_get (here.last ∷ rest.lasts) who ≡ Some last) × IsBehind who seat last
    each_of here rest zero seat at =
        (here.last, refl, subst (λ (seat : Seat). IsBehind 0 seat here.last) (same_Some first seat at) here.is)
    each_of here rest (suc who) seat at = rest.each who seat at

    were_of : (here : CameTo IsBehind 0 first) (rest : AllCameTo (λ who. IsBehind (suc who)) seats) (who : ℕ) (last : Seat)
        → slice_get (here.last ∷ rest.lasts) who ≡ Some last
        → (seat : Seat) × (slice_get (first ∷ seats) who ≡ Some seat) × IsBehind who seat last
    were_of here rest zero last at =
        (first, refl, subst (λ (last : Seat). IsBehind 0 first last) (same_Some here.last last at) here.is)
    were_of here rest (suc who) last at = rest.were who last at
