-- Steps that keep the places of the participants sound.
use Rattle.std.proofs.Common.{◌≡◌, ◌≢◌, ◌∙◌, ℕ, zero, suc, ◌<◌, Bool, true, false, List, [], ◌∷◌, get_or, set, Option, Some, inl, inr, refl, ap, sym, arith, length-set, get_or-set_same, get_or-set_other}
use Rattle.std.specs.List.{slice_get}
use Rattle.std.proofs.lemmas.Bool.{cases_eq}
use Rattle.hp_base.specs.declared.pool_line.PoolLine.{PoolLine}
use Rattle.hp_segs.specs.SoundPlaces.{ArePlaces, AreRanges}
use Rattle.hp_segs.specs.declared.ask.Ask.{Ask}
use Rattle.hp_segs.specs.declared.external_range.ExternalRange.{ExternalRange}

-- another place is as before
pub get_set_other : {X : Type 0} (xs : List X) (i k : ℕ) (x : X) → k ≢ i → slice_get (set xs i x) k ≡ slice_get xs k
get_set_other [] i k x other = refl
get_set_other (y ∷ xs) zero zero x other = absurd (other refl)
get_set_other (y ∷ xs) zero (suc k) x other = refl
get_set_other (y ∷ xs) (suc i) zero x other = refl
get_set_other (y ∷ xs) (suc i) (suc k) x other = get_set_other xs i k x (λ same. other (ap suc same))

-- the place has what it was set to
pub get_set_same : {X : Type 0} (xs : List X) (i : ℕ) (x y : X) → slice_get (set xs i x) i ≡ Some y → x ≡ y
get_set_same [] i x y here = cc
get_set_same (z ∷ xs) zero x y here = cc
get_set_same (z ∷ xs) (suc i) x y here = get_set_same xs i x y here

module _ {pools : List PoolLine} {roster : List Bool} {armed : List (Option Ask)} {ranges : List ExternalRange} where
  -- a participant is armed with an ask of its own
  pub places_armed : (ask : Ask) → ArePlaces pools roster armed ranges → ArePlaces pools roster (set armed ask.from (Some ask)) ranges
  places_armed ask old = record {
    roster_places = old.roster_places;
    armed_places = length-set armed ask.from (Some ask) ∙ old.armed_places;
    primary = old.primary;
    own = λ place other here.
        elim (cases_eq place ask.from) [
          | inl same ↦
              let one : Some ask ≡ Some other =
              get_set_same armed ask.from (Some ask) (Some other) (ap (slice_get (set armed ask.from (Some ask))) (sym same) ∙ here) in
              let its : ask ≡ other = cc in
              ap (λ (a : Ask). a.from) (sym its) ∙ sym same
          | inr apart ↦ old.own place other (sym (get_set_other armed ask.from place (Some ask) apart) ∙ here)
        ];
    external = old.external;
  }

  -- a participant joins
  pub places_joined : (participant : ℕ) → ArePlaces pools roster armed ranges → ArePlaces pools (set roster participant true) armed ranges
  places_joined participant old = record {
    roster_places = length-set roster participant true ∙ old.roster_places;
    armed_places = old.armed_places;
    primary =
        elim (cases_eq 0 participant) [
          | inl same ↦
              ap (λ p. get_or (set roster p true) 0 false) (sym same) ∙ get_or-set_same roster 0 true false (omega (arith, old.roster_places))
          | inr apart ↦ get_or-set_other roster participant 0 true false apart ∙ old.primary
        ];
    own = old.own;
    external = old.external;
  }

  -- a secondary leaves
  pub places_left : (participant : ℕ) → 0 < participant → ArePlaces pools roster armed ranges
      → ArePlaces pools (set roster participant false) armed ranges
  places_left participant secondary old = record {
    roster_places = length-set roster participant false ∙ old.roster_places;
    armed_places = old.armed_places;
    primary = get_or-set_other roster participant 0 false false (λ same. omega (arith, same, secondary)) ∙ old.primary;
    own = old.own;
    external = old.external;
  }

  -- external memory changes
  pub places_beside : (others : List ExternalRange) → AreRanges pools others → ArePlaces pools roster armed ranges
      → ArePlaces pools roster armed others
  places_beside others are old = record {
    roster_places = old.roster_places;
    armed_places = old.armed_places;
    primary = old.primary;
    own = old.own;
    external = are;
  }
