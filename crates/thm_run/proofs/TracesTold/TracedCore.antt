-- A step of the coordinator leaves outcomes that have numbers that were taken, and it holds what took numbers.
use Rattle.std.proofs.Common.{◌≡◌, ◌∙◌, ℕ, List, [], Some, sym, subst, append-nil, Option}
use Rattle.std.specs.Prelude.{◌++◌, slice_get, slice_set}
use Rattle.std.specs.List.{All}
use Rattle.std.proofs.lemmas.List.Elements.{All-contains}
use Rattle.hp_core.specs.Core.{Core}
use Rattle.hp_core.specs.declared.event.CoreEvent.{CoreEvent}
use Rattle.hp_segs.specs.GrowthLaws.{HasArmedGrowth}
use Rattle.hp_serve.specs.Coordinating.{stepping, with_core, with_room}
use Rattle.hp_proc.specs.Doing.{Done}
use Rattle.hp_serve.specs.Party.{Party}
use Rattle.thm_run.proofs.SeatFacts.CoreLogs.{IsLoggedBy}
use Rattle.thm_run.proofs.SeatFacts.CoreSteps.{Brings, step_keeps, step_logs}
use Rattle.thm_run.proofs.SeatFacts.CoreWalk.{AreHeld}
use Rattle.thm_run.proofs.Made.{IsPost, IsTaken}
use Rattle.thm_run.proofs.TracesTold.Numbers.{AreLater, numbers_later, numbers_of}
use Rattle.thm_run.proofs.TracesTold.Posts.{taken_said}
use Rattle.thm_run.proofs.TracesTold.Traced.{AreMade, AreNumbered, AreTraced, IsTracedSeat, armed_later, asks_later, held_later, logged_numbers}
use Rattle.thm_run.proofs.TracesTold.TracedSeats.{asking_on, traced_with}
use Rattle.thm_run.specs.Seats.{Knows, Seat, polls, seated, takes}
use Rattle.thm_run.specs.Together.{GlobalState, with_seat, with_segs}

-- an event that participant 0 knows of brings what was asked, or told
pub known_brings : (took : ℕ → List Done) (count : ℕ) (seat : Seat) (event : CoreEvent) → All (IsPost took) seat.fetched
    → Knows count seat event → Brings (IsTaken took) event
known_brings took count seat event are (polls now acks) = tt
known_brings took count seat event are (takes frame body its among says is_ask) =
    taken_said took count frame body event (All-contains (IsPost took) seat.fetched frame are among) says is_ask

module _ (at : GlobalState) (was : AreTraced at) (who : ℕ) (old : Seat) (there : slice_get at.seats who ≡ Some old)
    (denied : Option (List ℕ × ℕ)) (event : CoreEvent)
    (core : Core) (its : old.party.core ≡ Some core) (brings : Brings (IsTaken (numbers_of at.seats)) event)
    (growth : HasArmedGrowth at.segs) where
  abbrev took : ℕ → List Done
  took = numbers_of at.seats

  -- what its step logs
  pub logs : IsLoggedBy (IsTaken took) (with_room at.segs) (stepping denied event core at.segs).segs
  logs = step_logs (IsTaken took) (λ socket total. denied) event core (with_room at.segs) brings ((was.seats who old there).held core its) growth

  armed_after : AreMade took (stepping denied event core at.segs).segs.armed
  armed_after = subst (AreMade took) (sym logs.armed) was.armed

  asks_behind : AreNumbered took (stepping denied event core at.segs).segs.asks
  asks_behind = logged_numbers took (with_room at.segs) (stepping denied event core at.segs).segs was.armed was.asks logs.asks

  held_behind : (other : Core) → Some (stepping denied event core at.segs).core ≡ Some other → AreHeld (IsTaken took) other.held
  held_behind other is =
      let same : (stepping denied event core at.segs).core ≡ other = cc in
      subst (λ (core : Core). AreHeld (IsTaken took) core.held) same
      (step_keeps (IsTaken took) (λ socket total. denied) event core (with_room at.segs) brings ((was.seats who old there).held core its))

  -- its coordinator made the step; the number of its last ask is as it was
  module _ (party : Party) (me : party.me ≡ old.party.me) (asked : party.asked ≡ old.party.asked) where
    abbrev new : Seat
    new = seated (with_core (stepping denied event core at.segs).core party) old

    grows : new.trace ≡ old.trace ++ []
    grows = sym (append-nil old.trace)

    later : AreLater took (numbers_of (slice_set at.seats who new))
    later = numbers_later at.seats who old new there [] grows

    its_seat : IsTracedSeat (numbers_of (slice_set at.seats who new)) who new
    its_seat = record {
      me = me ∙ (was.seats who old there).me;
      count = asked ∙ (was.seats who old there).count;
      held = λ other is. held_later took (numbers_of (slice_set at.seats who new)) later other.held (held_behind other is);
      asking = asking_on at was who old new there [] grows;
    }

    pub traced_event : AreTraced (with_segs (stepping denied event core at.segs).segs (with_seat who new at))
    traced_event =
        traced_with at was who old new there [] grows (stepping denied event core at.segs).segs at.boxes its_seat
        (armed_later took (numbers_of (slice_set at.seats who new)) later (stepping denied event core at.segs).segs.armed armed_after)
        (asks_later took (numbers_of (slice_set at.seats who new)) later (stepping denied event core at.segs).segs.asks asks_behind)
