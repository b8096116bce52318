-- An ask finds no outcome of its participant with a greater number than that took: what it kept is of earlier asks, and what was logged of
-- notices was told before, or else would be told above the number that the ask takes.
use Rattle.std.proofs.Common.{◌≡◌, ◌⊎◌, ◌∙◌, ℕ, ◌+◌, ◌≤◌, true, false, true≢false, get_or, List, [], ◌∷◌, max, Some, Contains, inl, inr, refl, ap, sym, subst, arith}
use Rattle.std.specs.Prelude.{slice_get}
use Rattle.std.proofs.lemmas.List.Elements.{All-tail, Contains-append_left, Contains-get_or}
use Rattle.hp_segs.specs.Causes.{HasCause}
use Rattle.hp_segs.specs.LaterSteps.{armed_ask}
use Rattle.hp_segs.specs.SegsView.{SegsView, closed_number, is_stale}
use Rattle.hp_segs.specs.Sound.{IsSound}
use Rattle.hp_segs.specs.declared.ask.Ask.{Ask}
use Rattle.hp_segs.specs.declared.outcome.AskLog.{AskLog}
use Rattle.hp_segs.specs.declared.outcome.Outcome.{Outcome}
use Rattle.hp_segs.specs.declared.outcome.Outcome.TheVariants.{Freed, Granted, Refused, Stale}
use Rattle.hp_weave.specs.Deeds.{Deed, Gathering, Runs, Turn, after_deed, deeds_of}
use Rattle.hp_hall.proofs.StandingFacts.StandingAsks.{closed_above}
use Rattle.thm_run.proofs.GrownHeaps.GrantTurns.{among_read}
use Rattle.thm_run.proofs.SeatFacts.Seating.{its_seat}
use Rattle.thm_run.proofs.TracesTold.ToldAbove.{AreDeeds, Moves, to_last, told_above}
use Rattle.thm_run.proofs.TracesTold.ToldNumbers.{IsTold, IsToldFirst, told_first}
use Rattle.thm_run.proofs.Turns.{closed_below}
use Rattle.thm_run.proofs.GrownHeaps.UngrantedAdds.{caused_at}
use Rattle.thm_run.specs.Apart.{IsDeed}
use Rattle.thm_run.specs.Seats.{Seat}
use Rattle.thm_run.specs.Told.{IsCounted}

module _ (count : ℕ) (last : Gathering Seat SegsView) where
  -- no armed ask and no ask that is kept has a greater number than its participant took; what is logged of a notice has none, or is told by a
  -- deed that is left; and each participant's number is that of its trace
  pub record AreCounted (turns : List (Turn Seat SegsView)) (at : Gathering Seat SegsView) : Type 0 where
    pub armed : (who : ℕ) (seat : Seat) (ask : Ask) → slice_get at.seats who ≡ Some seat → armed_ask at.value who ≡ Some ask
        → ask.number ≤ seat.party.asked
    pub kept : (entry : AskLog) (ask : Ask) (seat : Seat) → Contains at.value.asks entry → entry.ask ≡ Some ask
        → slice_get at.seats entry.from ≡ Some seat → ask.number ≤ seat.party.asked
    pub freed : (entry : AskLog) (generation : ℕ) (seat : Seat) → Contains last.value.asks entry → entry.outcome ≡ Freed generation
        → slice_get at.seats entry.from ≡ Some seat
        → (entry.number ≤ seat.party.asked) ⊎ IsTold entry.number (deeds_of entry.from turns)
    pub counted : (who : ℕ) (seat : Seat) → slice_get at.seats who ≡ Some seat → IsCounted seat

  -- what an ask finds
  module _ (who : ℕ) (old new : Seat) (taken given : SegsView) (turns : List (Turn Seat SegsView)) (at : Gathering Seat SegsView)
      (runs : Runs at (record { who = who; deed = Deed.Holding old new taken given } ∷ turns) last)
      (did : AreDeeds count (record { who = who; deed = Deed.Holding old new taken given } ∷ turns)) (sound : IsSound last.value)
      (was : AreCounted (record { who = who; deed = Deed.Holding old new taken given } ∷ turns) at)
      (asked : new.party.asked ≡ max old.party.asked (closed_number taken.asks who) + 1) where
    abbrev turn : Turn Seat SegsView
    turn = record { who = who; deed = Deed.Holding old new taken given }

    moved : Moves at turn
    moved = record { there = runs.0.0; seats = refl }

    further : AreDeeds count turns
    further = All-tail (λ (turn : Turn Seat SegsView). IsDeed count turn.who turn.deed) turn turns did

    in_last : (entry : AskLog) → Contains taken.asks entry → Contains last.value.asks entry
    in_last entry among =
        let on = to_last count last (turn ∷ turns) at runs did in
        subst (λ asks. Contains asks entry) (sym on.asks)
        (Contains-append_left at.value.asks on.others entry (subst (λ (value : SegsView). Contains value.asks entry) runs.0.1 among))

    -- a number that is told by a later deed is above those that are closed by now
    no_later : (entry : AskLog) → Contains taken.asks entry → is_stale entry.outcome ≡ false → entry.from ≡ who
        → IsTold entry.number (deeds_of who turns) → ⊥
    no_later entry among unstale own told =
        let closed : entry.number ≤ closed_number taken.asks who =
        subst (λ from. entry.number ≤ closed_number taken.asks from) own (closed_above taken.asks entry among unstale) in
        let above = told_above count last turns (after_deed who (Deed.Holding old new taken given) at) who entry.number new runs.1 further
        (its_seat at.seats who old new runs.0.0) told in
        omega (arith, closed, above, asked)

    not_here : (number : ℕ) (deeds : List (Deed Seat SegsView)) → IsTold number (Deed.Holding old new taken given ∷ deeds)
        → IsTold number deeds
    not_here number deeds (IsTold.later deed rest told) = told

    entry_low : (entry : AskLog) (outcome : Outcome) (before : List AskLog) → Contains taken.asks entry → entry.outcome ≡ outcome
        → HasCause last.value.pools last.value.log before entry outcome → entry.from ≡ who → is_stale entry.outcome ≡ false
        → entry.number ≤ old.party.asked
    entry_low entry (Granted generation) before among is (ask, run, kept, same, add) own unstale =
        let low = was.kept entry ask old (subst (λ (value : SegsView). Contains value.asks entry) runs.0.1 among) kept.kept
        (ap (slice_get at.seats) own ∙ runs.0.0) in
        omega (arith, low, kept.which)
    entry_low entry (Refused cause) before among is (ask, kept, why) own unstale =
        let low = was.kept entry ask old (subst (λ (value : SegsView). Contains value.asks entry) runs.0.1 among) kept.kept
        (ap (slice_get at.seats) own ∙ runs.0.0) in
        omega (arith, low, kept.which)
    entry_low entry (Stale done) before among is cause own unstale =
        let wrong : true ≡ false = sym (ap is_stale is) ∙ unstale in
        absurd (true≢false wrong)
    entry_low entry (Freed generation) before among is cause own unstale =
        elim (was.freed entry generation old (in_last entry among) is (ap (slice_get at.seats) own ∙ runs.0.0)) [
          | inl low ↦ low
          | inr told ↦ absurd (by_first entry among unstale own (told_first entry.from entry.number turn turns told))
        ]
      where
        by_first : (entry : AskLog) → Contains taken.asks entry → is_stale entry.outcome ≡ false → entry.from ≡ who
            → IsToldFirst entry.from entry.number turn turns → ⊥
        by_first entry among unstale own (IsToldFirst.own mine first) =
            no_later entry among unstale own
            (subst (λ from. IsTold entry.number (deeds_of from turns)) own (not_here entry.number (deeds_of entry.from turns) first))
        by_first entry among unstale own (IsToldFirst.other beside rest) = beside (sym own)

    pub closed_low : closed_number taken.asks who ≤ old.party.asked
    closed_low =
        closed_below who old.party.asked taken.asks (λ k d within own unstale.
        let entry = get_or taken.asks k d in
        let among = Contains-get_or taken.asks k d within in
        let read = among_read last.value.asks entry (in_last entry among) in
        let caused = caused_at last.value.pools last.value.log [] last.value.asks read.0 entry sound.asks.caused read.1 in
        entry_low entry entry.outcome caused.before among refl caused.is.cause own unstale)
