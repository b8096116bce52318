-- What participants tell of later is above the numbers that they took before, and what is left of the turns leads to later values.
use Rattle.std.proofs.Common.{◌≡◌, ◌⊎◌, ◌∙◌, ℕ, ◌<◌, ◌≤◌, List, [], ◌∷◌, Some, inl, inr, refl, ap, sym, subst, arith}
use Rattle.std.specs.Prelude.{slice_get, slice_set}
use Rattle.std.specs.List.{All}
use Rattle.std.proofs.lemmas.List.Elements.{All-head, All-tail}
use Rattle.std.proofs.lemmas.Option.{same_Some}
use Rattle.hp_segs.specs.SegsView.{SegsView}
use Rattle.hp_weave.specs.Deeds.{Can, Deed, Gathering, Runs, Turn, after_deed, deeds_of}
use Rattle.thm_run.proofs.AfterLemmas.{behind_then, handles_behind, none_behind}
use Rattle.thm_run.proofs.SeatFacts.Seating.{IsSeatAfter, seat_behind, its_seat, other_seat}
use Rattle.thm_run.proofs.TracesTold.ToldNumbers.{HoldMore, IsTold, IsToldFirst, MailMore, hold_more, mail_more, quiet_more, told_first}
use Rattle.thm_run.specs.Apart.{IsDeed}
use Rattle.thm_run.specs.OwnHolds.{HasLater}
use Rattle.thm_run.specs.Seats.{Seat}

-- by itself a participant takes none, or the next number
pub alone_more : (count who : ℕ) (old new : Seat) → IsDeed count who (Deed.Alone old new) → MailMore old new
alone_more count who old new (inl did) = MailMore.none (quiet_more did)
alone_more count who old new (inr (step, did)) = mail_more did

mail_rises : (old new : Seat) → MailMore old new → old.party.asked ≤ new.party.asked
mail_rises old new (MailMore.none more) = omega (arith, more.asked)
mail_rises old new (MailMore.one more) = omega (arith, more.asked)

hold_rises : (who : ℕ) (old new : Seat) (taken : SegsView) → HoldMore who old new taken → old.party.asked ≤ new.party.asked
hold_rises who old new taken (HoldMore.none more) = omega (arith, more.asked)
hold_rises who old new taken (HoldMore.arms asked numbered) = omega (arith, asked)

abbrev pub seat_before : Deed Seat SegsView → Seat
seat_before (Deed.Alone old new) = old
seat_before (Deed.Holding old new taken given) = old

abbrev pub seat_after : Deed Seat SegsView → Seat
seat_after (Deed.Alone old new) = new
seat_after (Deed.Holding old new taken given) = new

pub deed_rises : (count who : ℕ) (deed : Deed Seat SegsView) → IsDeed count who deed
    → (seat_before deed).party.asked ≤ (seat_after deed).party.asked
deed_rises count who (Deed.Alone old new) did = mail_rises old new (alone_more count who old new did)
deed_rises count who (Deed.Holding old new taken given) did = hold_rises who old new taken (hold_more did)

-- who makes a deed stood where it begins, and stands where it leads; nobody else moves
pub record Moves (at : Gathering Seat SegsView) (turn : Turn Seat SegsView) : Type 0 where
  pub there : slice_get at.seats turn.who ≡ Some (seat_before turn.deed)
  pub seats : (after_deed turn.who turn.deed at).seats ≡ slice_set at.seats turn.who (seat_after turn.deed)

moves : (at : Gathering Seat SegsView) (who : ℕ) (deed : Deed Seat SegsView) (turns : List (Turn Seat SegsView)) (last : Gathering Seat SegsView)
    → Runs at (record { who = who; deed = deed } ∷ turns) last → Moves at (record { who = who; deed = deed })
moves at who (Deed.Alone old new) turns last runs = record { there = runs.0; seats = refl }
moves at who (Deed.Holding old new taken given) turns last runs = record { there = runs.0.0; seats = refl }

-- a seat after a turn is the one that moved, or as it was
pub seat_now : (at : Gathering Seat SegsView) (turn : Turn Seat SegsView) → Moves at turn → (who : ℕ) (seat : Seat)
    → slice_get (after_deed turn.who turn.deed at).seats who ≡ Some seat → IsSeatAfter at.seats turn.who (seat_after turn.deed) who seat
seat_now at turn moved who seat is =
    seat_behind at.seats turn.who (seat_before turn.deed) (seat_after turn.deed) moved.there who seat
    (ap (λ seats. slice_get seats who) (sym moved.seats) ∙ is)

-- each turn is a deed of its participant
abbrev pub AreDeeds : ℕ → List (Turn Seat SegsView) → Type 0
AreDeeds count turns = All (λ (turn : Turn Seat SegsView). IsDeed count turn.who turn.deed) turns

module _ (count : ℕ) (last : Gathering Seat SegsView) where
  pub told_above : (turns : List (Turn Seat SegsView)) (at : Gathering Seat SegsView) (who number : ℕ) (seat : Seat) → Runs at turns last
      → AreDeeds count turns → slice_get at.seats who ≡ Some seat → IsTold number (deeds_of who turns) → seat.party.asked < number
  told_above [] at who number seat runs did there told = elim told [ ]
  told_above (turn ∷ turns) at who number seat runs did there told =
      by_first (told_first who number turn turns told) (All-head (λ (turn : Turn Seat SegsView). IsDeed count turn.who turn.deed) turn turns did)
      (moves at turn.who turn.deed turns last runs)
      (λ seat there told. told_above turns (after_deed turn.who turn.deed at) who number seat runs.1
      (All-tail (λ (turn : Turn Seat SegsView). IsDeed count turn.who turn.deed) turn turns did) there told)
    where
      in_own : (deed : Deed Seat SegsView) → IsTold number (deed ∷ deeds_of who turns)
          → ((seat_before deed).party.asked < number) ⊎ IsTold number (deeds_of who turns)
      in_own _ (IsTold.here old new deeds before after) = inl (omega (arith, before))
      in_own _ (IsTold.later deed deeds rest) = inr rest

      by_first : IsToldFirst who number turn turns → IsDeed count turn.who turn.deed → Moves at turn
          → ((seat : Seat) → slice_get (after_deed turn.who turn.deed at).seats who ≡ Some seat → IsTold number (deeds_of who turns)
          → seat.party.asked < number) → seat.party.asked < number
      by_first (IsToldFirst.own mine first) deed moved further =
          let same : seat_before turn.deed ≡ seat =
          same_Some (seat_before turn.deed) seat (sym moved.there ∙ (ap (slice_get at.seats) mine ∙ there)) in
          let was = ap (λ (seat : Seat). seat.party.asked) same in
          elim (in_own turn.deed first) [
            | inl above ↦ omega (arith, above, was)
            | inr rest ↦
                omega (
                  arith,
                  was,
                  deed_rises count turn.who turn.deed deed,
                  further (seat_after turn.deed)
                      (subst (λ who. slice_get (after_deed turn.who turn.deed at).seats who ≡ Some (seat_after turn.deed)) mine
                      (ap (λ seats. slice_get seats turn.who) moved.seats
                      ∙ its_seat at.seats turn.who (seat_before turn.deed) (seat_after turn.deed) moved.there)) rest,
                )
          ]
      by_first (IsToldFirst.other beside rest) deed moved further =
          further seat
          (ap (λ seats. slice_get seats who) moved.seats
          ∙ (other_seat at.seats turn.who (seat_before turn.deed) (seat_after turn.deed) moved.there who (λ same. beside (sym same)) ∙ there))
          rest

  -- what is left of the turns leads to later values
  pub to_last : (turns : List (Turn Seat SegsView)) (at : Gathering Seat SegsView) → Runs at turns last → AreDeeds count turns
      → HasLater at.value last.value
  to_last [] at runs did = subst (λ (now : Gathering Seat SegsView). HasLater at.value now.value) (sym runs) (none_behind at.value)
  to_last (turn ∷ turns) at runs did =
      behind_then at.value (after_deed turn.who turn.deed at).value last.value
      (by_deed turn.who turn.deed (All-head (λ (turn : Turn Seat SegsView). IsDeed count turn.who turn.deed) turn turns did) runs.0)
      (to_last turns (after_deed turn.who turn.deed at) runs.1
      (All-tail (λ (turn : Turn Seat SegsView). IsDeed count turn.who turn.deed) turn turns did))
    where
      by_deed : (who : ℕ) (deed : Deed Seat SegsView) → IsDeed count who deed → Can who deed at
          → HasLater at.value (after_deed who deed at).value
      by_deed who (Deed.Alone old new) did can = none_behind at.value
      by_deed who (Deed.Holding old new taken given) did can =
          subst (λ value. HasLater value given) can.1 (handles_behind did)
