-- Where one participant does more, what all have of their numbers stays, and what it has itself is what it had with what it took.
use Rattle.std.proofs.Common.{◌≡◌, ◌∙◌, ℕ, ◌+◌, List, [], ◌++◌, length, Some, ap, sym, subst, arith, length-append}
use Rattle.std.specs.Prelude.{slice_get, slice_set}
use Rattle.hp_core.specs.Core.{Core}
use Rattle.hp_frame.specs.declared.frame.Frame.{Frame}
use Rattle.hp_segs.specs.SegsView.{SegsView}
use Rattle.hp_segs.specs.declared.ask.Ask.{Ask}
use Rattle.hp_proc.specs.Courses.{numbered_in}
use Rattle.hp_proc.specs.Doing.{Done}
use Rattle.thm_run.proofs.SeatFacts.CoreWalk.{AreHeld}
use Rattle.thm_run.proofs.Made.{IsTaken}
use Rattle.thm_run.proofs.TracesTold.Numbers.{AreLater, numbered_both, numbers_later, numbers_of}
use Rattle.thm_run.proofs.SeatFacts.Seating.{IsSeatAfter, apart, its, seat_behind}
use Rattle.thm_run.proofs.TracesTold.Traced.{AreMade, AreNumbered, AreTraced, IsMadeBy, IsTracedSeat, armed_later, asks_later, held_later, made_by_later, seat_later}
use Rattle.thm_run.specs.Seats.{Seat}
use Rattle.thm_run.specs.Together.{GlobalState}

-- the seat's own number, its coordinator, the number of its last ask and its last ask are as they were
pub record IsSameSeat (old new : Seat) : Type 0 where
  pub me : new.party.me ≡ old.party.me
  pub core : new.party.core ≡ old.party.core
  pub asked : new.party.asked ≡ old.party.asked
  pub asking : new.asking ≡ old.asking

module _ (at : GlobalState) (was : AreTraced at) (who : ℕ) (old new : Seat) (there : slice_get at.seats who ≡ Some old) (more : List Done)
    (grows : new.trace ≡ old.trace ++ more) where
  -- what took numbers before, and after
  abbrev took : ℕ → List Done
  took = numbers_of at.seats

  abbrev behind : ℕ → List Done
  behind = numbers_of (slice_set at.seats who new)

  later : AreLater took behind
  later = numbers_later at.seats who old new there more grows

  was_seat : IsTracedSeat took who old
  was_seat = was.seats who old there

  -- what it had stays
  pub held_on : (core : Core) → old.party.core ≡ Some core → AreHeld (IsTaken behind) core.held
  held_on core is = held_later took behind later core.held (was_seat.held core is)

  pub asking_on : (ask : Ask) → old.asking ≡ Some ask → IsMadeBy behind who ask
  asking_on ask is = made_by_later took behind later who ask (was_seat.asking ask is)

  pub armed_on : AreMade behind at.segs.armed
  armed_on = armed_later took behind later at.segs.armed was.armed

  pub asks_on : AreNumbered behind at.segs.asks
  asks_on = asks_later took behind later at.segs.asks was.asks

  -- it took the numbers of what was done
  pub long : length (numbered_in new.trace) ≡ old.party.asked + length (numbered_in more)
  long =
      ap (λ trace. length (numbered_in trace)) grows
      ∙ ap length (numbered_both old.trace more)
      ∙ length-append (numbered_in old.trace) (numbered_in more)
      ∙ ap (λ n. n + length (numbered_in more)) (sym was_seat.count)

  -- where it took none it has what it had
  pub seat_on : numbered_in more ≡ [] → IsSameSeat old new → IsTracedSeat behind who new
  seat_on none same = record {
    me = same.me ∙ was_seat.me;
    count = same.asked ∙ sym (long ∙ ap (λ numbered. old.party.asked + length numbered) none ∙ omega arith);
    held = λ core is. held_on core (sym same.core ∙ is);
    asking = λ ask is. asking_on ask (sym same.asking ∙ is);
  }

  -- the other seats too
  each_seat : IsTracedSeat behind who new → (other : ℕ) (seat : Seat) → IsSeatAfter at.seats who new other seat
      → IsTracedSeat behind other seat
  each_seat now other seat (its same is) =
      subst (λ other. IsTracedSeat behind other seat) (sym same) (subst (IsTracedSeat behind who) (sym is) now)
  each_seat now other seat (apart beside stood) = seat_later took behind later other seat (was.seats other seat stood)

  pub traced_with : (segs : SegsView) (boxes : List (List Frame)) → IsTracedSeat behind who new → AreMade behind segs.armed
      → AreNumbered behind segs.asks
      → AreTraced (record { seats = slice_set at.seats who new; segs = segs; boxes = boxes })
  traced_with segs boxes now armed asks = record {
    seats = λ other seat is. each_seat now other seat (seat_behind at.seats who old new there other seat is);
    armed = armed;
    asks = asks;
  }

  -- nothing took a number, and the armed asks and the outcomes are as they were
  pub traced_on : (segs : SegsView) (boxes : List (List Frame)) → numbered_in more ≡ [] → IsSameSeat old new → segs.armed ≡ at.segs.armed
      → segs.asks ≡ at.segs.asks
      → AreTraced (record { seats = slice_set at.seats who new; segs = segs; boxes = boxes })
  traced_on segs boxes none same armed asks =
      traced_with segs boxes (seat_on none same) (subst (AreMade behind) (sym armed) armed_on)
      (subst (AreNumbered behind) (sym asks) asks_on)
