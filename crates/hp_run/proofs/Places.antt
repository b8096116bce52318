-- The places of participants in their hall: each is there, with its validators, and has not run out of memory.
use Rattle.std.proofs.Common.{◌≡◌, ◌∙◌, ℕ, zero, suc, ◌<◌, ◌≤◌, Bool, true, false, List, [], ◌∷◌, length, Option, Some, None, is_some, refl, sym, ap, inl, inr, arith}
use Rattle.std.specs.Global.{Box}
use Rattle.std.specs.List.{slice_get}
use Rattle.std.specs.Option.{option_map}
use Rattle.std.proofs.lemmas.Bool.{cases_lt}
use Rattle.std.proofs.lemmas.Option.{none-some, same_Some, slice_get_past}
use Rattle.hp_events.specs.declared.validator.Validator.{Validator}
use Rattle.hp_serve.specs.Party.{Party}
use Rattle.hp_serve.specs.declared.judged_server.JudgedServer.{JudgedServer}
use Rattle.hp_solo.specs.Sequence.{going_place}
use Rattle.hp_solo.specs.Solo.{AloneView, party_at, party_of, server_at}
use Rattle.thm_run.proofs.RunFacts.SoFarFacts.{at_place}
use Rattle.thm_causes.specs.Threads.{ArePlaces}
use Rattle.thm_causes.proofs.Placed.{placed}

-- each place is that of its participant
pub place_at : (validators : ℕ → List (Validator Bool)) (servers : List AloneView) (parties : List Party) → ArePlaces validators servers parties
    → (who : ℕ) → server_at servers who ≡ option_map (going_place (validators who)) (slice_get parties who)
place_at validators servers parties are who =
    elim (cases_lt who (length parties)) [
      | inl below ↦
          let its = at_place parties who below in
          are.each who its.it its.there ∙ ap (option_map (going_place (validators who))) (sym its.there)
      | inr beyond ↦
          slice_get_past servers who (omega (arith, beyond, are.count))
          ∙ ap (option_map (going_place (validators who))) (sym (slice_get_past parties who beyond))
    ]

-- and its participant is there
pub party_there : {validators : ℕ → List (Validator Bool)} (servers : List AloneView) (parties : List Party)
    → ArePlaces validators servers parties → (who : ℕ) → party_at servers who ≡ slice_get parties who
party_there servers parties are who = placed _ servers parties are who

-- something stands at a place below the length
pub there_below : {X : Type 0} (xs : List X) (place : ℕ) → place < length xs → (x : X) × (slice_get xs place ≡ Some x)
there_below [] place within = absurd (omega arith)
there_below (x ∷ xs) zero within = (x, refl)
there_below (x ∷ xs) (suc place) within = there_below xs place (omega arith)

-- where a participant is there, so is its box
pub there_in_box : {M F : Type 0} (boxed : Option (Box (JudgedServer M F))) (party : Party) → party_of boxed ≡ Some party
    → (found : Box (JudgedServer M F)) × (boxed ≡ Some found)
there_in_box None party is = absurd (none-some party is)
there_in_box (Some found) party is = (found, refl)

-- a place is that of a participant with these validators that has not run out of memory
pub record IsFilled (validators : List (Validator Bool)) (server : AloneView) : Type 0 where
  pub party : Party
  pub is : server ≡ going_place validators party

module _ (validators : ℕ → List (Validator Bool)) (server : AloneView) (servers : List AloneView) (first : IsFilled (validators 0) server)
    (parties : List Party) (rest : ArePlaces (λ who. validators (suc who)) servers parties) where
  first_or_rest : (who : ℕ) (party : Party) → slice_get (first.party ∷ parties) who ≡ Some party
      → server_at (server ∷ servers) who ≡ Some (going_place (validators who) party)
  first_or_rest zero party there =
      ap (λ (place : AloneView). Some place) first.is
      ∙ ap (λ (party : Party). Some (going_place (validators 0) party)) (same_Some first.party party there)
  first_or_rest (suc who) party there = rest.each who party there

-- where all places are so, these are the participants
pub filled_places : (validators : ℕ → List (Validator Bool)) (servers : List AloneView)
    → ((who : ℕ) (server : AloneView) → server_at servers who ≡ Some server → IsFilled (validators who) server)
    → (parties : List Party) × ArePlaces validators servers parties
filled_places validators [] each = ([], record { count = refl; each = λ who party there. cc })
filled_places validators (server ∷ servers) each =
    let first : IsFilled (validators 0) server = each 0 server refl in
    let rest = filled_places (λ who. validators (suc who)) servers (λ who other is. each (suc who) other is) in (
      first.party ∷ rest.0,
      record {
        count = omega (arith, rest.1.count);
        each = first_or_rest validators server servers first rest.0 rest.1;
      },
    )

-- a place with a participant and its validators that has met none
pub filled_by : (validators : List (Validator Bool)) (server : AloneView) (party : Party) → server.party ≡ Some party
    → server.validators ≡ validators → server.stopped ≡ false → IsFilled validators server
filled_by validators server party there given going = record {
  party = party;
  is = ap (λ (one : Option Party). record { party = one; validators = server.validators; stopped = server.stopped }) there
      ∙ ap (λ (its : List (Validator Bool)). record { party = Some party; validators = its; stopped = server.stopped }) given
      ∙ ap (λ (stopped : Bool). record { party = Some party; validators = validators; stopped = stopped }) going;
}

-- lists in which something stands at the same places are as long
pub alike_long : {X Y : Type 0} (xs : List X) (ys : List Y) → ((place : ℕ) → is_some (slice_get xs place) ≡ is_some (slice_get ys place))
    → length xs ≡ length ys
alike_long [] [] each = refl
alike_long [] (y ∷ ys) each = let none : false ≡ true = each 0 in cc
alike_long (x ∷ xs) [] each = let none : true ≡ false = each 0 in cc
alike_long (x ∷ xs) (y ∷ ys) each =
    let rest : length xs ≡ length ys = alike_long xs ys (λ place. each (suc place)) in
    omega (arith, rest)
