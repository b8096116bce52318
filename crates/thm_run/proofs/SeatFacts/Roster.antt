-- Who has a table is in the roster, from one moment of a run to a later one: where each participant tried to attach at most once, and was
-- out when it did.
use Rattle.std.proofs.Common.{◌≡◌, ◌≢◌, ◌∙◌, ℕ, ◌+◌, ◌<◌, ◌≤◌, ◌||◌, Bool, true, false, List, length, Some, refl, ap, sym, subst, arith}
use Rattle.std.specs.Prelude.{slice_get, slice_set}
use Rattle.std.proofs.lemmas.Option.{same_Some, slice_get_within}
use Rattle.hp_base.specs.declared.pool_line.PoolLine.{PoolLine}
use Rattle.hp_segs.specs.SegsView.{is_member}
use Rattle.hp_segs.specs.Sound.{IsSound}
use Rattle.thm_run.specs.Seats.{Seat}
use Rattle.thm_run.specs.Together.{IsFirst, GlobalState, Runs, Steps}
use Rattle.thm_run.proofs.Members.{set_member, set_other, set_out}
use Rattle.thm_run.proofs.SeatFacts.RosterMoves.{MovesSeat, fails, handles_moves, joins, leaves, mails_moves, quietly_moves, serves, stays, tries_in}
use Rattle.thm_run.proofs.SeatFacts.Seating.{IsSeatAfter, seat_behind}
use Rattle.thm_run.proofs.SeatFacts.SeatsAlong.{count_along}
use Rattle.thm_run.proofs.SeatFacts.SegsAlong.{sound_along}
use Rattle.thm_run.proofs.Settings.{seat_at}
use Rattle.thm_run.proofs.PathSteps.ByMail.{runs_then}

-- each has a table where it is in the roster
abbrev pub AreEnrolled : GlobalState → Type 0
AreEnrolled at = (who : ℕ) (seat : Seat) → slice_get at.seats who ≡ Some seat → is_member at.segs.roster who ≡ seat.party.joined

-- a participant tried to attach once at most, and was out when it did
pub record TriesOnce (old new : Seat) : Type 0 where
  pub once : tries_in new.trace ≤ tries_in old.trace + 1
  pub out : tries_in old.trace < tries_in new.trace → old.party.joined ≡ false

-- so far it has tried no less often; as long as it tried once at most it has a table where it is in the roster; and where it was out and
-- did not try it still is
record IsOnWay (old : Seat) (roster : List Bool) (who : ℕ) (seat : Seat) : Type 0 where
  pub grown : tries_in old.trace ≤ tries_in seat.trace
  pub enrolled : TriesOnce old seat → is_member roster who ≡ seat.party.joined
  pub still_out : tries_in seat.trace ≡ tries_in old.trace → old.party.joined ≡ false → seat.party.joined ≡ false

no_try : (old new : Seat) → tries_in new.trace ≡ tries_in old.trace → TriesOnce old new
no_try old new same = record { once = omega (arith, same); out = λ more. absurd (omega (arith, same, more)) }

as_often : (old mid new : Seat) → tries_in new.trace ≡ tries_in mid.trace → TriesOnce old new → TriesOnce old mid
as_often old mid new same tries =
    record { once = omega (arith, same, tries.once); out = λ more. tries.out (omega (arith, same, more)) }

module _ (old seat new : Seat) (taken given : List Bool) (who : ℕ) (places : length taken ≡ 16) (within : who < 16)
    (was : IsOnWay old taken who seat) where
  -- before it tried, it was out
  out_before : tries_in new.trace ≡ tries_in seat.trace + 1 → TriesOnce old new → is_member taken who ≡ false
  out_before more tries =
      let fresh : tries_in seat.trace ≡ tries_in old.trace = omega (arith, more, tries.once, was.grown) in
      was.enrolled (no_try old seat fresh) ∙ was.still_out fresh (tries.out (omega (arith, more, fresh)))

  joined_after : (before ended : Bool) → before ≡ true → (before || ended) ≡ true
  joined_after true ended is = refl
  joined_after false ended is = cc

  on_way : MovesSeat who seat new taken given → IsOnWay old given who new
  on_way (stays roster joined tries) = record {
    grown = omega (arith, tries, was.grown);
    enrolled = λ once.
        ap (λ roster. is_member roster who) roster ∙ (was.enrolled (as_often old seat new tries once) ∙ sym joined);
    still_out = λ same out. joined ∙ was.still_out (sym tries ∙ same) out;
  }
  on_way (serves ended roster member joined tries) = record {
    grown = omega (arith, tries, was.grown);
    enrolled = λ once.
        let before : seat.party.joined ≡ true = sym (was.enrolled (as_often old seat new tries once)) ∙ member in
        ap (λ roster. is_member roster who) roster
        ∙ (member ∙ sym (joined ∙ joined_after seat.party.joined ended before));
    still_out = λ same out.
        let fresh : tries_in seat.trace ≡ tries_in old.trace = sym tries ∙ same in
        let wrong : true ≡ false = sym member ∙ (was.enrolled (no_try old seat fresh) ∙ was.still_out fresh out) in
        cc;
  }
  on_way (joins roster joined tries) = record {
    grown = omega (arith, tries, was.grown);
    enrolled = λ once.
        ap (λ roster. is_member roster who) roster
        ∙ (set_member taken who true (omega (arith, places, within)) ∙ sym joined);
    still_out = λ same out. absurd (omega (arith, same, tries, was.grown));
  }
  on_way (fails roster joined tries) = record {
    grown = omega (arith, tries, was.grown);
    enrolled = λ once. ap (λ roster. is_member roster who) roster ∙ (out_before tries once ∙ sym joined);
    still_out = λ same out. joined;
  }
  on_way (leaves roster joined tries) = record {
    grown = omega (arith, tries, was.grown);
    enrolled = λ once. ap (λ roster. is_member roster who) roster ∙ (set_out taken who ∙ sym joined);
    still_out = λ same out. joined;
  }

-- what one participant does leaves the place of each other one
module _ (who : ℕ) (seat new : Seat) (taken given : List Bool) where
  others_stay : MovesSeat who seat new taken given → (other : ℕ) → other ≢ who → is_member given other ≡ is_member taken other
  others_stay (stays roster joined tries) other beside = ap (λ roster. is_member roster other) roster
  others_stay (serves ended roster member joined tries) other beside = ap (λ roster. is_member roster other) roster
  others_stay (joins roster joined tries) other beside =
      ap (λ roster. is_member roster other) roster ∙ set_other taken who other true beside
  others_stay (fails roster joined tries) other beside = ap (λ roster. is_member roster other) roster
  others_stay (leaves roster joined tries) other beside =
      ap (λ roster. is_member roster other) roster ∙ set_other taken who other false beside

module _ (count absent : ℕ) (pools : List PoolLine) (first from : GlobalState) (is : IsFirst count absent pools first)
    (before : Runs count first from) (few : count ≤ 16) (enrolled : AreEnrolled from) where
  -- each is on its way
  abbrev AreOnWay : List Seat → List Bool → Type 0
  AreOnWay seats roster = (who : ℕ) (old seat : Seat) → slice_get from.seats who ≡ Some old → slice_get seats who ≡ Some seat
      → IsOnWay old roster who seat

  -- one of them did something
  ways_on : (seats : List Seat) (taken given : List Bool) (who : ℕ) (seat new : Seat) → slice_get seats who ≡ Some seat
      → length seats ≡ count
      → length taken ≡ 16 → MovesSeat who seat new taken given → AreOnWay seats taken → AreOnWay (slice_set seats who new) given
  ways_on seats taken given who seat new there all places moves ways other old one early late =
      by_seat (seat_behind seats who seat new there other one late)
    where
      by_seat : IsSeatAfter seats who new other one → IsOnWay old given other one
      by_seat (IsSeatAfter.its same is) =
          let early_too = subst (λ other. slice_get from.seats other ≡ Some old) same early in
          subst (λ other. IsOnWay old given other one) (sym same)
          (subst (IsOnWay old given who) (sym is)
          (on_way old seat new taken given who places (omega (arith, slice_get_within seats who seat there, all, few))
          (ways who old seat early_too there) moves))
      by_seat (IsSeatAfter.apart beside here) =
          let was = ways other old one early here in
          let stays = others_stay who seat new taken given moves other beside in
          record { grown = was.grown; enrolled = λ once. stays ∙ was.enrolled once; still_out = was.still_out }

  step_ways : (old new : GlobalState) → Steps count old new → length old.seats ≡ count → IsSound old.segs → AreOnWay old.seats old.segs.roster
      → AreOnWay new.seats new.segs.roster
  step_ways _ _ (Steps.quietly at who seat new there did) all sound ways =
      ways_on at.seats at.segs.roster at.segs.roster who seat new there all sound.places.roster_places
      (quietly_moves who at.segs.roster did) ways
  step_ways _ _ (Steps.mails at who seat new step there did) all sound ways =
      ways_on at.seats at.segs.roster at.segs.roster who seat new there all sound.places.roster_places
      (mails_moves at.segs.roster did) ways
  step_ways _ _ (Steps.handles at who seat new given there did kept armed) all sound ways =
      ways_on at.seats at.segs.roster given.roster who seat new there all sound.places.roster_places (handles_moves did sound) ways

  runs_ways : (now : GlobalState) → Runs count from now → AreOnWay now.seats now.segs.roster
  runs_ways _ (Runs.stands at) = λ who old seat early late.
      let own : old ≡ seat = same_Some old seat (sym early ∙ late) in
      record {
        grown = omega (arith, ap (λ (seat : Seat). tries_in seat.trace) own);
        enrolled = λ once. enrolled who seat late;
        still_out = λ none out. ap (λ (seat : Seat). seat.party.joined) (sym own) ∙ out;
      }
  runs_ways now (Runs.goes_on start mid last runs step) =
      let there = runs_then count first from mid before runs in
      step_ways mid now step (count_along there ∙ is.seats) (sound_along count absent pools first is mid there) (runs_ways mid runs)

  -- so each still has a table where it is in the roster
  pub roster_on : (now : GlobalState) → Runs count from now
      → ((who : ℕ) (old seat : Seat) → slice_get from.seats who ≡ Some old → slice_get now.seats who ≡ Some seat → TriesOnce old seat)
      → AreEnrolled now
  roster_on now runs once who seat late =
      let one = seat_at from.seats who (omega (arith, slice_get_within now.seats who seat late, count_along runs)) in
      (runs_ways now runs who one.seat seat one.there late).enrolled (once who one.seat seat one.there late)

  -- and whoever was out and did not try to attach still is
  pub out_stays : (now : GlobalState) → Runs count from now → (who : ℕ) (old seat : Seat) → slice_get from.seats who ≡ Some old
      → slice_get now.seats who ≡ Some seat → tries_in seat.trace ≡ tries_in old.trace → old.party.joined ≡ false
      → seat.party.joined ≡ false
  out_stays now runs who old seat early late none out = (runs_ways now runs who old seat early late).still_out none out

  -- nobody has tried less often
  pub tries_grow : (now : GlobalState) → Runs count from now → (who : ℕ) (old seat : Seat) → slice_get from.seats who ≡ Some old
      → slice_get now.seats who ≡ Some seat → tries_in old.trace ≤ tries_in seat.trace
  tries_grow now runs who old seat early late = (runs_ways now runs who old seat early late).grown

-- so it is at first
pub first_enrolled : (count absent : ℕ) (pools : List PoolLine) (first : GlobalState) → IsFirst count absent pools first → AreEnrolled first
first_enrolled count absent pools first is who seat there = sym (is.each who seat there).joined
