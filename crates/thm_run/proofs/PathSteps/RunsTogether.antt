-- Where participants came together there is a run of all, whatever lay in the mailboxes.
use Rattle.std.proofs.Common.{◌≡◌, ℕ, inl, inr, List, [], ◌∷◌, Some, sym, subst}
use Rattle.std.specs.List.{All}
use Rattle.std.specs.Prelude.{slice_get}
use Rattle.std.proofs.lemmas.List.Elements.{All-head, All-tail}
use Rattle.hp_frame.specs.declared.frame.Frame.{Frame}
use Rattle.hp_plain.specs.Boxes.{after_step}
use Rattle.hp_segs.specs.SegsView.{SegsView}
use Rattle.hp_weave.specs.Deeds as weave
use Rattle.hp_weave.specs.Deeds.{Deed, Gathering, Turn, after_deed, holds_among}
use Rattle.hp_weave.specs.Holds.{Hold}
use Rattle.thm_run.proofs.PathSteps.ByMail.{runs_then}
use Rattle.thm_run.specs.Apart.{IsDeed}
use Rattle.thm_run.specs.ByRuns.{GivesGood, RunTogether, with_boxes}
use Rattle.thm_run.specs.Seats.{Handles, Seat}
use Rattle.thm_run.specs.Together.{Runs, Steps}

-- there is a run from one gathering to another
abbrev Leads : ℕ → List (List Frame) → Gathering Seat SegsView → Gathering Seat SegsView → Type 0
Leads count boxes first last = (left : List (List Frame)) × Runs count (with_boxes boxes first) (with_boxes left last)

module _ (count : ℕ) (last : Gathering Seat SegsView) where
  -- one step, and then a run
  step_first : (boxes between : List (List Frame)) (first mid : Gathering Seat SegsView)
      → Steps count (with_boxes boxes first) (with_boxes between mid) → Leads count between mid last → Leads count boxes first last
  step_first boxes between first mid step rest = (
    rest.0,
    runs_then count (with_boxes boxes first) (with_boxes between mid) (with_boxes rest.0 last)
        (Runs.goes_on (with_boxes boxes first) (with_boxes boxes first) (with_boxes between mid) (Runs.stands (with_boxes boxes first)) step)
        rest.1,
  )

  alone_first : (who : ℕ) (old new : Seat) (boxes : List (List Frame)) (at : Gathering Seat SegsView) → slice_get at.seats who ≡ Some old
      → IsDeed count who (Deed.Alone old new)
      → ((between : List (List Frame)) → Leads count between (after_deed who (Deed.Alone old new) at) last) → Leads count boxes at last
  alone_first who old new boxes at there (inl quietly) further =
      step_first boxes boxes at (after_deed who (Deed.Alone old new) at) (Steps.quietly (with_boxes boxes at) who old new there quietly)
      (further boxes)
  alone_first who old new boxes at there (inr mails) further =
      step_first boxes (after_step who mails.0 boxes) at (after_deed who (Deed.Alone old new) at)
      (Steps.mails (with_boxes boxes at) who old new mails.0 there mails.1) (further (after_step who mails.0 boxes))

  leads_on : (turns : List (Turn Seat SegsView)) (boxes : List (List Frame)) (at : Gathering Seat SegsView) → weave.Runs at turns last
      → All (λ turn. IsDeed count turn.who turn.deed) turns → All GivesGood (holds_among turns) → Leads count boxes at last
  leads_on [] boxes at runs did good = subst (Leads count boxes at) (sym runs) (boxes, Runs.stands (with_boxes boxes at))
  leads_on (turn ∷ turns) boxes at runs did good =
      by_deed turn.who turn.deed runs
      (All-head (λ (turn : Turn Seat SegsView). IsDeed count turn.who turn.deed) turn turns did) good
      (λ good between. leads_on turns between (after_deed turn.who turn.deed at) runs.1
      (All-tail (λ (turn : Turn Seat SegsView). IsDeed count turn.who turn.deed) turn turns did) good)
    where
      by_deed : (who : ℕ) (deed : Deed Seat SegsView) → weave.Runs at (record { who = who; deed = deed } ∷ turns) last
          → IsDeed count who deed → All GivesGood (holds_among (record { who = who; deed = deed } ∷ turns))
          → (All GivesGood (holds_among turns) → (between : List (List Frame)) → Leads count between (after_deed who deed at) last)
          → Leads count boxes at last
      by_deed who (Deed.Alone old new) runs did good further = alone_first who old new boxes at runs.0 did (further good)
      by_deed who (Deed.Holding old new taken given) runs did good further =
          let hold : Hold SegsView = record { who = who; taken = taken; given = given } in
          let its = All-head GivesGood hold (holds_among turns) good in
          step_first boxes boxes at (after_deed who (Deed.Holding old new taken given) at)
          (Steps.handles (with_boxes boxes at) who old new given runs.0.0
          (subst (λ (taken : SegsView). Handles count who old new taken given) runs.0.1 did) its.sound its.armed)
          (further (All-tail GivesGood hold (holds_among turns) good) boxes)

pub run_together : RunTogether
run_together count first last steps holds came good boxes =
    leads_on count last came.turns boxes first came.runs came.deeds (subst (All GivesGood) (sym came.held) good)
