-- What notes show of the clock and of the numbers, worked.
use Rattle.std.proofs.Common.{◌≡◌, ℕ, ◌<◌, ◌≤◌, Bool, true, false, List, [], ◌∷◌, length, Option, Some, sym, ap, ◌∙◌, ⊎_elim, arith}
use Rattle.std.specs.List.{slice_get, slice_index_or}
use Rattle.std.proofs.lemmas.List.{get_or-set_same}
use Rattle.std.proofs.lemmas.Option.{same_Some}
use Rattle.hp_hall.specs.declared.note.Note.TheVariants.{Acked, Loaded, Paused, Read}
use Rattle.hp_hall.specs.Mail.{MailStep, Notes}
use Rattle.hp_plain.specs.Meters.{AreMetered, GoesOnTo, Meters}
use Rattle.hp_plain.proofs.Slotted.{slice_get-set_same}

abbrev around_a_pause : ℕ → Bool → Option ℕ → ℕ → List (ℕ × MailStep)
around_a_pause first moved until second = (0, Notes (Read first)) ∷ (0, Notes (Paused moved until)) ∷ (0, Notes (Read second)) ∷ []

moved_stands : (until : Option ℕ) (old new : ℕ) → GoesOnTo true until old new → new ≡ old
moved_stands until old new goes = ⊎_elim (λ (still : new ≡ old). still) (λ gone. let never : true ≡ false = gone.0 in cc) goes

due_goes_on : (deadline old new : ℕ) → old ≤ deadline → GoesOnTo false (Some deadline) old new → (old ≤ new) × (new ≤ deadline)
due_goes_on deadline old new below goes =
    ⊎_elim (λ (still : new ≡ old). (omega (arith, still), omega (arith, still, below))) (λ gone. (gone.1, gone.2)) goes

module _ (old new : Meters) (first second : ℕ) where
  -- two readings that follow one another are the same, whoever makes them
  reads_alike : (who other : ℕ) → AreMetered ((who, Notes (Read first)) ∷ (other, Notes (Read second)) ∷ []) old new → second ≡ first
  reads_alike who other by = by.2.1.shows ∙ by.1.clock ∙ sym by.1.shows

  -- so are those around the end of a turn in which something moved
  reads_alike_where_it_moved : (until : Option ℕ) → AreMetered (around_a_pause first true until second) old new → second ≡ first
  reads_alike_where_it_moved until by =
      by.2.2.1.shows ∙ moved_stands until by.0.clock by.2.0.clock by.2.1.clock ∙ by.1.clock ∙ sym by.1.shows

  -- and where nothing moved the later one is at most the deadline that is waited for
  reads_up_to_the_deadline : (deadline : ℕ) → first ≤ deadline → AreMetered (around_a_pause first false (Some deadline) second) old new
      → (first ≤ second) × (second ≤ deadline)
  reads_up_to_the_deadline deadline below by =
      let goes = due_goes_on deadline by.0.clock by.2.0.clock (omega (arith, below, by.1.clock, by.1.shows)) by.2.1.clock in
      (omega (arith, goes.0, by.1.clock, by.1.shows, by.2.2.1.shows), omega (arith, goes.1, by.2.2.1.shows))

  -- what another looks up is what was acknowledged last
  loads_what_was_acknowledged : (who other : ℕ) → who < length old.numbers
      → AreMetered ((who, Notes (Acked first)) ∷ (other, Notes (Loaded who second)) ∷ []) old new → first ≡ second
  loads_what_was_acknowledged who other below by =
      same_Some first second
      (sym (slice_get-set_same old.numbers who first below) ∙ sym (ap (λ (l : List ℕ). slice_get l who) by.1.numbers) ∙ by.2.1.shows)

  -- and nobody acknowledges fewer records than before
  acknowledges_more : (who : ℕ) → who < length old.numbers
      → AreMetered ((who, Notes (Acked first)) ∷ (who, Notes (Acked second)) ∷ []) old new → first ≤ second
  acknowledges_more who below by =
      let number : slice_index_or by.0.numbers who 0 ≡ first =
      ap (λ (l : List ℕ). slice_index_or l who 0) by.1.numbers ∙ get_or-set_same old.numbers who first 0 below in
      omega (arith, number, by.2.1.shows)
