-- What participants do where no mailbox is in sight: deeds by themselves, and with the segment value. So what each did between its own
-- holds comes together to turns of all, where all holds make a chain (hp_weave). The rule "Together" of docs/RUNS.md.
use Rattle.std.specs.Prelude.{◌≡◌, ◌≤◌, ◌⊎◌, ℕ, List, [], ◌∷◌, ◌++◌, length, map, Option, Some, None, slice_get}
use Rattle.std.specs.List.{All}
use Rattle.hp_hall.specs.Mail.{Gives, MailStep, Notes, Takes}
use Rattle.hp_hall.specs.declared.kept.Kept.TheVariants.{Segments}
use Rattle.hp_hall.specs.declared.note.Note.{Note}
use Rattle.hp_segs.specs.SegsView.{SegsView}
use Rattle.hp_serve.specs.Serving.{gives_segments, takes_segments}
use Rattle.hp_weave.specs.Deeds.{Deed, Gathering, Runs, Turn, deeds_of, holds_among}
use Rattle.hp_weave.specs.Holds.{Chain, Hold, holds_of}
use Rattle.thm_run.specs.Seats.{Handles, IsOfHeapOrNames, Mails, SeatTrace, Quietly, Seat}

-- one deed of a participant: nobody sees it, or it is of mailboxes, whatever lies in them; or it makes something of the segment value
abbrev pub IsDeed : ℕ → ℕ → Deed Seat SegsView → Type 0
IsDeed count who (Deed.Alone old new) = Quietly old new ⊎ ((step : MailStep) × Mails who old new step)
IsDeed count who (Deed.Holding old new taken given) = Handles count who old new taken given

-- the holds of the segment value among a participant's steps, before which it had taken the value and not given it back, or not
abbrev pub holds_from : ℕ → Option SegsView → List MailStep → List (Hold SegsView)
holds_from who taken [] = []
holds_from who taken (Takes slot (Segments segs) ∷ steps) = holds_from who (Some segs) steps
holds_from who (Some taken) (Gives slot (Segments given) ∷ steps) =
    record { who = who; taken = taken; given = given } ∷ holds_from who None steps
holds_from who taken (step ∷ steps) = holds_from who taken steps

-- each participant went its way, by these steps, from its first seat to its last one; nobody else did anything, and all holds of the
-- segment value make a chain, of which those of each participant are its own
pub record WentApart (count : ℕ) (first last : Gathering Seat SegsView) (steps : ℕ → List MailStep) (holds : List (Hold SegsView))
    : Type 0 where
  pub size : length last.seats ≡ length first.seats
  pub ways : (who : ℕ) (old new : Seat) → slice_get first.seats who ≡ Some old → slice_get last.seats who ≡ Some new
      → SeatTrace count who old new (steps who)
  pub nobody_else : (who : ℕ) → length first.seats ≤ who → steps who ≡ []
  pub chain : Chain first.value holds last.value
  pub own : (who : ℕ) → holds_of who holds ≡ holds_from who None (steps who)

-- a participant's deeds are its steps, one after another: what it does by itself makes none; a step with mailboxes, and a note, is one deed;
-- a take and a give of a heap is none; and a hold of the segment value is one deed, whatever it notes meanwhile
pub data IsWayOf (count who : ℕ) : List (Deed Seat SegsView) → List MailStep → Type 0 where
  ends : IsWayOf count who [] []
  quietly : (old new : Seat) (deeds : List (Deed Seat SegsView)) (steps : List MailStep) → Quietly old new
      → IsWayOf count who deeds steps → IsWayOf count who (Deed.Alone old new ∷ deeds) steps
  holds : (step : MailStep) (deeds : List (Deed Seat SegsView)) (steps : List MailStep) → IsOfHeapOrNames step → IsWayOf count who deeds steps
      → IsWayOf count who deeds (step ∷ steps)
  mails : (old new : Seat) (step : MailStep) (deeds : List (Deed Seat SegsView)) (steps : List MailStep) → Mails who old new step
      → IsWayOf count who deeds steps → IsWayOf count who (Deed.Alone old new ∷ deeds) (step ∷ steps)
  handles : (old new : Seat) (taken given : SegsView) (held : List Note) (deeds : List (Deed Seat SegsView)) (steps : List MailStep)
      → Handles count who old new taken given → IsWayOf count who deeds steps
      → IsWayOf count who (Deed.Holding old new taken given ∷ deeds)
      (takes_segments taken ∷ (map Notes held ++ (gives_segments given ∷ steps)))

-- there is a run of all, in turns, in which each one's deeds are its steps, in its order, and the value goes from hold to hold
pub record CameTogether (count : ℕ) (first last : Gathering Seat SegsView) (steps : ℕ → List MailStep) (holds : List (Hold SegsView))
    : Type 0 where
  pub turns : List (Turn Seat SegsView)
  pub runs : Runs first turns last
  pub own : (who : ℕ) → IsWayOf count who (deeds_of who turns) (steps who)
  pub deeds : All (λ turn. IsDeed count turn.who turn.deed) turns
  pub held : holds_among turns ≡ holds

-- wherever they went apart so, they came together
abbrev pub ComeTogether : Type 0
ComeTogether = (count : ℕ) (first last : Gathering Seat SegsView) (steps : ℕ → List MailStep) (holds : List (Hold SegsView))
    → WentApart count first last steps holds → CameTogether count first last steps holds
