-- A participant that arms itself with an ask, or tells that a run was given up, takes the next number by that.
use Rattle.std.proofs.Common.{◌≡◌, ◌∙◌, ℕ, ◌+◌, ◌-◌, ◌≤◌, List, [], ◌∷◌, ◌++◌, length, Option, Some, None, inl, inr, refl, ap, sym, subst, arith}
use Rattle.std.specs.Prelude.{slice_get, slice_set}
use Rattle.std.proofs.lemmas.List.Elements.{All-weaker}
use Rattle.hp_base.specs.declared.row.Run.{Run}
use Rattle.hp_frame.specs.declared.frame.Frame.{Frame}
use Rattle.hp_segs.specs.LaterSteps.{after_arm}
use Rattle.hp_segs.specs.SegsView.{closed_number}
use Rattle.hp_segs.specs.declared.ask.Ask.{Ask}
use Rattle.hp_segs.specs.declared.outcome.AskLog.{AskLog}
use Rattle.hp_segs.proofs.SlotFacts.ListFacts.{get_pushed}
use Rattle.hp_serve.specs.Asking.{next_number}
use Rattle.hp_proc.specs.Doing.{Done}
use Rattle.hp_proc.specs.Doing.Done.{Asked, GaveUp}
use Rattle.hp_serve.specs.Asking.{ask_of}
use Rattle.hp_serve.specs.declared.pages_asked.PagesAsked.{PagesAsked}
use Rattle.thm_run.proofs.Boxes.{read_set}
use Rattle.thm_run.proofs.Made.{IsNumbered, WasGivenUp, took_number}
use Rattle.thm_run.proofs.TracesTold.Numbers.{its_numbers, more_numbers, numbers_of}
use Rattle.thm_run.proofs.TracesTold.Traced.{AreMade, AreNumbered, AreTraced, IsMadeBy, IsTracedSeat}
use Rattle.thm_run.proofs.TracesTold.TracedSeats.{armed_on, asking_on, asks_on, held_on, long, traced_with}
use Rattle.thm_run.proofs.Turns.{IsBelow, closed_below}
use Rattle.thm_run.specs.Seats.{Seat, armed_with, having_done, numbered_on}
use Rattle.thm_run.specs.Together.{GlobalState, with_seat, with_segs}

-- no outcome of a participant has a number above its last one
own_below : (took : ℕ → List Done) (who : ℕ) (entry : AskLog) → IsNumbered took entry → IsBelow who (length (took who)) entry
own_below took who entry its own fresh = subst (λ n. entry.number ≤ length (took n)) own (took_number took entry its).within

pub no_above : (took : ℕ → List Done) (who : ℕ) (asks : List AskLog) → AreNumbered took asks → closed_number asks who ≤ length (took who)
no_above took who asks are =
    closed_below who (length (took who)) asks
    (All-weaker (IsNumbered took) (IsBelow who (length (took who))) (own_below took who) asks are.each)

at_last : {X : Type 0} (xs : List X) (x : X) (number : ℕ) → number ≡ length xs + 1 → slice_get (xs ++ x ∷ []) (number - 1) ≡ Some x
at_last xs x number is =
    let place : length xs ≡ number - 1 = omega arith in
    subst (λ k. slice_get (xs ++ x ∷ []) k ≡ Some x) place (get_pushed xs x)

module _ (at : GlobalState) (was : AreTraced at) (who : ℕ) (old : Seat) (there : slice_get at.seats who ≡ Some old) where
  abbrev took : ℕ → List Done
  took = numbers_of at.seats

  its_count : old.party.asked ≡ length (took who)
  its_count = (was.seats who old there).count ∙ sym (ap length (its_numbers at.seats who old there))

  module _ (asked : PagesAsked) (run : Option Run) (number : ℕ) (is : number ≡ next_number old.party.asked at.segs.asks who) where
    -- it is armed with the ask
    abbrev armed_seat : Seat
    armed_seat = armed_with who asked run number old

    abbrev behind : ℕ → List Done
    behind = numbers_of (slice_set at.seats who armed_seat)

    next_is : number ≡ length (took who) + 1
    next_is = omega (arith, is, its_count, no_above took who at.segs.asks was.asks)

    its_number : slice_get (behind who) (number - 1) ≡ Some (Asked asked run)
    its_number =
        subst (λ numbered. slice_get numbered (number - 1) ≡ Some (Asked asked run))
        (sym (more_numbers at.seats who old armed_seat there (Asked asked run ∷ []) refl))
        (at_last (took who) (Asked asked run) number next_is)

    made_now : IsMadeBy behind who (ask_of who number asked)
    made_now = record {
      own = refl;
      made = record { some = omega (arith, next_is); asked = asked; run = run; its = its_number; is = refl };
    }

    same_made : (one : Ask) → ask_of who number asked ≡ one → IsMadeBy behind who one
    same_made one same = subst (IsMadeBy behind who) same made_now

    armed_now : AreMade behind (slice_set at.segs.armed who (Some (ask_of who number asked)))
    armed_now other one which =
        elim (read_set at.segs.armed who other (Some (ask_of who number asked)) None) [
          | inl both ↦
              let same : ask_of who number asked ≡ one = cc in
              subst (λ n. IsMadeBy behind n one) (sym both.0) (same_made one same)
          | inr old_one ↦ armed_on at was who old armed_seat there (Asked asked run ∷ []) refl other one (sym old_one ∙ which)
        ]

    armed_seat_now : IsTracedSeat behind who armed_seat
    armed_seat_now = record {
      me = (was.seats who old there).me;
      count = omega (arith, next_is, its_count, long at was who old armed_seat there (Asked asked run ∷ []) refl);
      held = held_on at was who old armed_seat there (Asked asked run ∷ []) refl;
      asking = λ one same. same_made one (cc);
    }

    pub traced_arming : AreTraced (with_segs (after_arm (ask_of who number asked) at.segs) (with_seat who armed_seat at))
    traced_arming =
        traced_with at was who old armed_seat there (Asked asked run ∷ []) refl (after_arm (ask_of who number asked) at.segs) at.boxes
        armed_seat_now armed_now
        (asks_on at was who old armed_seat there (Asked asked run ∷ []) refl)

  module _ (heap : ℕ) (run : Run) where
    -- it has told that the run was given up
    abbrev pub told_seat : Seat
    told_seat = having_done (numbered_on (old.party.asked + 1) old.party) (GaveUp heap run ∷ []) old

    abbrev pub told : ℕ → List Done
    told = numbers_of (slice_set at.seats who told_seat)

    next_told : old.party.asked + 1 ≡ length (took who) + 1
    next_told = omega (arith, its_count)

    pub was_told : WasGivenUp told who (old.party.asked + 1)
    was_told = record {
      some = omega arith;
      heap = heap;
      run = run;
      its =
          subst (λ numbered. slice_get numbered (old.party.asked + 1 - 1) ≡ Some (GaveUp heap run))
          (sym (more_numbers at.seats who old told_seat there (GaveUp heap run ∷ []) refl))
          (at_last (took who) (GaveUp heap run) (old.party.asked + 1) next_told);
    }

    told_seat_now : IsTracedSeat told who told_seat
    told_seat_now = record {
      me = (was.seats who old there).me;
      count = sym (long at was who old told_seat there (GaveUp heap run ∷ []) refl);
      held = held_on at was who old told_seat there (GaveUp heap run ∷ []) refl;
      asking = asking_on at was who old told_seat there (GaveUp heap run ∷ []) refl;
    }

    pub traced_telling : (boxes : List (List Frame))
        → AreTraced (record { seats = slice_set at.seats who told_seat; segs = at.segs; boxes = boxes })
    traced_telling boxes =
        traced_with at was who old told_seat there (GaveUp heap run ∷ []) refl at.segs boxes told_seat_now
        (armed_on at was who old told_seat there (GaveUp heap run ∷ []) refl)
        (asks_on at was who old told_seat there (GaveUp heap run ∷ []) refl)
