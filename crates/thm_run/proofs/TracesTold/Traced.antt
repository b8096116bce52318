-- What all participants have of the numbers that they took, in two parts: how many each took, and what of them the coordinator, the armed
-- asks and the outcomes hold, as the calls of the segment value give it; and what of them frames tell, fetched ones and those in mailboxes.
use Rattle.std.proofs.Common.{◌≡◌, ℕ, ◌<◌, false, true, List, [], ◌∷◌, ◌++◌, length, Option, Some, None, IfSome, ◌∙◌, sym, subst}
use Rattle.std.specs.Prelude.{slice_get, slice_index_or}
use Rattle.std.specs.List.{All}
use Rattle.std.proofs.lemmas.List.Elements.{All-push, All-weaker}
use Rattle.hp_core.specs.Asks.{asker, number_of}
use Rattle.hp_core.specs.Core.{Core}
use Rattle.hp_core.specs.declared.asked.Asked as wanted
use Rattle.hp_core.specs.declared.asked.Asked.TheVariants as want
use Rattle.hp_frame.specs.declared.frame.Frame.{Frame}
use Rattle.hp_plain.specs.Boxes.{box_of}
use Rattle.hp_segs.specs.SegsView.{SegsView, closed_number, is_stale}
use Rattle.hp_segs.specs.declared.ask.Ask.{Ask}
use Rattle.hp_segs.specs.declared.outcome.AskLog.{AskLog}
use Rattle.hp_proc.specs.Courses.{numbered_in}
use Rattle.hp_proc.specs.Doing.{Done}
use Rattle.thm_run.proofs.SeatFacts.CoreLogs.{HasLogged, IsLogged, adds, answered as logs_answer, freed as logs_freed, stale as logs_stale, stays, with_drops}
use Rattle.thm_run.proofs.SeatFacts.CoreWalk.{AreHeld}
use Rattle.thm_run.proofs.Made.{IsMade, IsNumbered, IsPost, IsTaken, WasAsked, WasGivenUp, answered, freed, made_later, numbered_later, post_later, stale_ask, stale_notice, taken_later}
use Rattle.thm_run.proofs.TracesTold.Numbers.{AreLater, numbers_of}
use Rattle.thm_run.proofs.Turns.{AreRising, rising_pushed}
use Rattle.thm_run.specs.Seats.{Seat}
use Rattle.thm_run.specs.Together.{GlobalState}

-- the ask was made by that participant
pub record IsMadeBy (took : ℕ → List Done) (who : ℕ) (ask : Ask) : Type 0 where
  pub own : ask.from ≡ who
  pub made : IsMade took ask

-- each armed ask was made by whoever is armed with it
abbrev pub AreMade : (ℕ → List Done) → List (Option Ask) → Type 0
AreMade took armed = (who : ℕ) (ask : Ask) → slice_index_or armed who None ≡ Some ask → IsMadeBy took who ask

-- each outcome has a number that was taken, and they come in turn
pub record AreNumbered (took : ℕ → List Done) (asks : List AskLog) : Type 0 where
  pub each : All (IsNumbered took) asks
  pub turn : AreRising asks

-- a participant: the number of its last ask is how many it took; what its coordinator holds and its last ask are of what took numbers
pub record IsTracedSeat (took : ℕ → List Done) (who : ℕ) (seat : Seat) : Type 0 where
  pub me : seat.party.me ≡ who
  pub count : seat.party.asked ≡ length (numbered_in seat.trace)
  pub held : (core : Core) → seat.party.core ≡ Some core → AreHeld (IsTaken took) core.held
  pub asking : (ask : Ask) → seat.asking ≡ Some ask → IsMadeBy took who ask

-- each mailbox holds what took numbers, and what asks for nothing
abbrev pub ArePosts : (ℕ → List Done) → List (List Frame) → Type 0
ArePosts took boxes = (who : ℕ) → All (IsPost took) (box_of boxes who)

-- so it is with all seats, the armed asks and the outcomes; no mailbox is in sight
pub record AreTraced (at : GlobalState) : Type 0 where
  pub seats : (who : ℕ) (seat : Seat) → slice_get at.seats who ≡ Some seat → IsTracedSeat (numbers_of at.seats) who seat
  pub armed : AreMade (numbers_of at.seats) at.segs.armed
  pub asks : AreNumbered (numbers_of at.seats) at.segs.asks

-- what frames tell: what each has fetched, and what lies in a mailbox, is of what took numbers, or asks for nothing
pub record AreTold (at : GlobalState) : Type 0 where
  pub fetched : (who : ℕ) (seat : Seat) → slice_get at.seats who ≡ Some seat → All (IsPost (numbers_of at.seats)) seat.fetched
  pub boxes : ArePosts (numbers_of at.seats) at.boxes

-- one outcome more
pub numbered_pushed : (took : ℕ → List Done) (asks : List AskLog) (entry : AskLog) → AreNumbered took asks → IsNumbered took entry
    → (is_stale entry.outcome ≡ false → closed_number asks entry.from < entry.number) → AreNumbered took (asks ++ entry ∷ [])
numbered_pushed took asks entry are its fresh = record {
  each = All-push (IsNumbered took) asks entry are.each its;
  turn = rising_pushed asks entry are.turn fresh;
}

-- an outcome of what the coordinator took has the number of that
stale_of : (took : ℕ → List Done) (entry : AskLog) (one : wanted.Asked) → IsTaken took one → entry.from ≡ asker one
    → entry.number ≡ number_of one → is_stale entry.outcome ≡ true → IsNumbered took entry
stale_of took entry (want.Grow ask) was from number is =
    stale_ask is (subst (λ n. WasAsked took n entry.number) (sym from) (subst (WasAsked took ask.from) (sym number) was))
stale_of took entry (want.Shrink who which) was from number is =
    stale_notice is (subst (λ n. WasGivenUp took n entry.number) (sym from) (subst (WasGivenUp took who) (sym number) was))

module _ (took : ℕ → List Done) (old new : SegsView) (made : AreMade took old.armed) where
  logged_number : (entry : AskLog) → IsLogged (IsTaken took) old new entry → IsNumbered took entry
  logged_number entry (logs_stale one its from number is) = stale_of took entry one its from number is
  logged_number entry (logs_answer ask armed fresh from number kept is) = answered ask is (made ask.from ask armed).made from number kept
  logged_number entry (logs_freed from number more its fresh who which is log) =
      freed (length (with_drops old)) is
      (subst (λ n. WasGivenUp took n entry.number) (sym who) (subst (WasGivenUp took from) (sym which) its))

  logged_above : (entry : AskLog) → IsLogged (IsTaken took) old new entry → is_stale entry.outcome ≡ false
      → closed_number old.asks entry.from < entry.number
  logged_above entry (logs_stale one its from number is) unstale =
      let wrong : true ≡ false = sym is ∙ unstale in
      cc
  logged_above entry (logs_answer ask armed fresh from number kept is) unstale =
      subst (λ n. closed_number old.asks n < entry.number) (sym from) (subst (λ n. closed_number old.asks ask.from < n) (sym number) fresh)
  logged_above entry (logs_freed from number more its fresh who which is log) unstale =
      subst (λ n. closed_number old.asks n < entry.number) (sym who) (subst (λ n. closed_number old.asks from < n) (sym which) fresh)

  -- what the coordinator logs has numbers that were taken
  pub logged_numbers : AreNumbered took old.asks → HasLogged (IsTaken took) old new → AreNumbered took new.asks
  logged_numbers are (stays is) = subst (AreNumbered took) (sym is) are
  logged_numbers are (adds entry is its) =
      subst (AreNumbered took) (sym is)
      (numbered_pushed took old.asks entry are (logged_number entry its) (logged_above entry its))

-- more is done
module _ (took later : ℕ → List Done) (grown : AreLater took later) where
  held_more : (held : Option wanted.Asked) → IfSome held (IsTaken took) → IfSome held (IsTaken later)
  held_more None was = tt
  held_more (Some one) was = taken_later took later grown one was

  pub held_later : (held : List (Option wanted.Asked)) → AreHeld (IsTaken took) held → AreHeld (IsTaken later) held
  held_later held are = All-weaker (λ one. IfSome one (IsTaken took)) (λ one. IfSome one (IsTaken later)) held_more held are

  pub posts_later : (box : List Frame) → All (IsPost took) box → All (IsPost later) box
  posts_later box are = All-weaker (IsPost took) (IsPost later) (post_later took later grown) box are

  pub made_by_later : (who : ℕ) (ask : Ask) → IsMadeBy took who ask → IsMadeBy later who ask
  made_by_later who ask its = record { own = its.own; made = made_later took later grown ask its.made }

  pub armed_later : (armed : List (Option Ask)) → AreMade took armed → AreMade later armed
  armed_later armed are who ask is = made_by_later who ask (are who ask is)

  pub asks_later : (asks : List AskLog) → AreNumbered took asks → AreNumbered later asks
  asks_later asks are = record {
    each = All-weaker (IsNumbered took) (IsNumbered later) (numbered_later took later grown) asks are.each;
    turn = are.turn;
  }

  -- a seat at which nothing more is done
  pub seat_later : (who : ℕ) (seat : Seat) → IsTracedSeat took who seat → IsTracedSeat later who seat
  seat_later who seat was = record {
    me = was.me;
    count = was.count;
    held = λ core is. held_later core.held (was.held core is);
    asking = λ ask is. made_by_later who ask (was.asking ask is);
  }
