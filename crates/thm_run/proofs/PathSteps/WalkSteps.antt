-- One step of a hall, made by a participant whose further way is known: where it leaves all participants.
use Rattle.std.proofs.Common.{◌≡◌, ◌≢◌, ◌∙◌, ℕ, List, [], ◌∷◌, ◌++◌, length, map, Some, refl, sym, ap, subst}
use Rattle.std.specs.Prelude.{slice_get}
use Rattle.hp_frame.specs.declared.frame.Frame.{Frame}
use Rattle.hp_hall.specs.Mail.{MailStep, Notes}
use Rattle.hp_plain.specs.Boxes.{IsMailStep, after_step}
use Rattle.hp_hall.specs.declared.note.Note.{Note}
use Rattle.hp_serve.specs.Serving.{gives_segments, takes_segments}
use Rattle.hp_segs.specs.SegsView.{SegsView}
use Rattle.std.proofs.lemmas.List.{length-set}
use Rattle.thm_run.specs.Seats.{Handles, IsOfHeapOrNames, Mails, SeatTrace, Quietly, Seat}
use Rattle.thm_run.specs.Together.{GlobalState, RunsByMail, Steps, mailed_by, with_seat}
use Rattle.thm_run.proofs.SeatFacts.Seating.{its_seat, other_seat}

-- from one joint state to another the seat of one participant, and the mailboxes, have come to these
pub record Reaches (count who : ℕ) (at new : GlobalState) (seat : Seat) (boxes : List (List Frame)) : Type 0 where
  pub runs : RunsByMail count at new
  pub its : slice_get new.seats who ≡ Some seat
  pub others : (other : ℕ) → other ≢ who → slice_get new.seats other ≡ slice_get at.seats other
  pub size : length new.seats ≡ length at.seats
  pub segs : new.segs ≡ at.segs
  pub boxes_are : new.boxes ≡ boxes

pub reaches_same : (count who : ℕ) (at : GlobalState) (seat : Seat) → slice_get at.seats who ≡ Some seat → Reaches count who at at seat at.boxes
reaches_same count who at seat its = record {
  runs = RunsByMail.stands at;
  its = its;
  others = λ other beside. refl;
  size = refl;
  segs = refl;
  boxes_are = refl;
}

module _ (count who : ℕ) (at mid : GlobalState) (old : Seat) (boxes : List (List Frame)) (here : Reaches count who at mid old boxes) where
  -- it did something by itself
  pub reaches_quietly : (new : Seat) → Quietly old new → Reaches count who at (with_seat who new mid) new boxes
  reaches_quietly new quietly = record {
    runs = RunsByMail.goes_on at mid (with_seat who new mid) here.runs (Steps.quietly mid who old new here.its quietly) tt;
    its = its_seat mid.seats who old new here.its;
    others = λ other beside. other_seat mid.seats who old new here.its other beside ∙ here.others other beside;
    size = length-set mid.seats who new ∙ here.size;
    segs = here.segs;
    boxes_are = here.boxes_are;
  }

  -- it did something with mailboxes
  pub reaches_mail : (new : Seat) (step : MailStep) → IsMailStep who step boxes → Mails who old new step
      → Reaches count who at (mailed_by who step (with_seat who new mid)) new (after_step who step boxes)
  reaches_mail new step is mails = record {
    runs = RunsByMail.goes_on at mid (mailed_by who step (with_seat who new mid)) here.runs
        (Steps.mails mid who old new step here.its mails) (subst (IsMailStep who step) (sym here.boxes_are) is);
    its = its_seat mid.seats who old new here.its;
    others = λ other beside. other_seat mid.seats who old new here.its other beside ∙ here.others other beside;
    size = length-set mid.seats who new ∙ here.size;
    segs = here.segs;
    boxes_are = ap (after_step who step) here.boxes_are;
  }

-- what a step of a participant is, whose further way begins with it
pub data IsNext (count who : ℕ) (at : GlobalState) (last : Seat) (step : MailStep) (rest : List MailStep) : Type 0 where
  -- one of a heap
  holds : (new : GlobalState) (seat : Seat) → Reaches count who at new seat at.boxes → IsOfHeapOrNames step → SeatTrace count who seat last rest
      → IsNext count who at last step rest
  -- one with mailboxes
  mails : (new : GlobalState) (seat before : Seat) → Reaches count who at new seat (after_step who step at.boxes) → Mails who before seat step
      → SeatTrace count who seat last rest
      → IsNext count who at last step rest
  -- it takes the segment value, which it gives back with the next step that is no note
  takes : (new : GlobalState) (seat mid : Seat) (taken given : SegsView) (held : List Note) (more : List MailStep)
      → Reaches count who at new seat at.boxes
      → step ≡ takes_segments taken → rest ≡ map Notes held ++ (gives_segments given ∷ more) → Handles count who seat mid taken given
      → SeatTrace count who mid last more → IsNext count who at last step rest

module _ (count who : ℕ) (at : GlobalState) (step : MailStep) (rest : List MailStep) (is : IsMailStep who step at.boxes) where
  next_from : (mid : GlobalState) (seat last : Seat) (steps : List MailStep) → steps ≡ step ∷ rest → Reaches count who at mid seat at.boxes
      → SeatTrace count who seat last steps → IsNext count who at last step rest
  next_from mid _ _ _ are here (SeatTrace.ends seat) =
      let wrong : [] ≡ step ∷ rest = are in
      cc
  next_from mid _ _ _ are here (SeatTrace.quietly old new last steps does path) =
      next_from (with_seat who new mid) new last steps are (reaches_quietly count who at mid old at.boxes here new does) path
  next_from mid _ _ _ are here (SeatTrace.holds seat last first steps of_heap path) =
      let first_is : first ≡ step = cc in
      let rest_is : steps ≡ rest = cc in
      IsNext.holds mid seat here (subst IsOfHeapOrNames first_is of_heap) (subst (SeatTrace count who seat last) rest_is path)
  next_from mid _ _ _ are here (SeatTrace.mails old new last first steps does path) =
      let first_is : first ≡ step = cc in
      let rest_is : steps ≡ rest = cc in
      let its = subst (Mails who old new) first_is does in
      IsNext.mails (mailed_by who step (with_seat who new mid)) new old
      (reaches_mail count who at mid old at.boxes here new step is its) its (subst (SeatTrace count who new last) rest_is path)
  next_from mid _ _ _ are here (SeatTrace.handles old new last taken given held steps does path) =
      let first_is : step ≡ takes_segments taken = cc in
      let rest_is : rest ≡ map Notes held ++ (gives_segments given ∷ steps) = cc in
      IsNext.takes mid old new taken given held steps here first_is rest_is does path

  -- what the first step of its further way is
  pub next_step : (seat last : Seat) → slice_get at.seats who ≡ Some seat → SeatTrace count who seat last (step ∷ rest)
      → IsNext count who at last step rest
  next_step seat last there path = next_from at seat last (step ∷ rest) refl (reaches_same count who at seat there) path

-- where nothing is left to do in the hall, it comes to its last seat by itself
module _ (count who : ℕ) (at : GlobalState) where
  rests_from : (mid : GlobalState) (seat last : Seat) (steps : List MailStep) → steps ≡ [] → Reaches count who at mid seat at.boxes
      → SeatTrace count who seat last steps → (new : GlobalState) × Reaches count who at new last at.boxes
  rests_from mid _ _ _ are here (SeatTrace.ends seat) = (mid, here)
  rests_from mid _ _ _ are here (SeatTrace.quietly old new last steps does path) =
      rests_from (with_seat who new mid) new last steps are (reaches_quietly count who at mid old at.boxes here new does) path
  rests_from mid _ _ _ are here (SeatTrace.holds seat last first steps of_heap path) = cc
  rests_from mid _ _ _ are here (SeatTrace.mails old new last first steps does path) = cc
  rests_from mid _ _ _ are here (SeatTrace.handles old new last taken given held steps does path) = cc

  pub at_rest : (seat last : Seat) → slice_get at.seats who ≡ Some seat → SeatTrace count who seat last []
      → (new : GlobalState) × Reaches count who at new last at.boxes
  at_rest seat last there path = rests_from at seat last [] refl (reaches_same count who at seat there) path
