-- A run of all participants of a hall, step by step: what each makes of itself, of the segment value and of the mailboxes. The rule
-- "Together" of docs/RUNS.md.
use Rattle.std.specs.Prelude.{◌≡◌, ℕ, ⊤, List, [], length, replicate, Option, Some, None, slice_get, slice_set}
use Rattle.hp_base.specs.declared.pool_line.PoolLine.{PoolLine}
use Rattle.hp_frame.specs.declared.frame.Frame.{Frame}
use Rattle.hp_segs.specs.Standing.{IsArmed}
use Rattle.hp_hall.specs.Mail.{MailStep}
use Rattle.hp_plain.specs.Boxes.{IsMailStep, after_step}
use Rattle.hp_segs.specs.Opening.{opening}
use Rattle.hp_segs.specs.SegsView.{SegsView, is_member}
use Rattle.hp_segs.specs.Sound.{IsSound}
use Rattle.hp_serve.specs.Party.{first_core}
use Rattle.thm_run.specs.Seats.{Handles, Mails, Quietly, Seat}

-- all participants by number, the segment value at a moment at which nobody holds it, and the mailboxes
pub record GlobalState : Type 0 where
  pub seats : List Seat
  pub segs : SegsView
  pub boxes : List (List Frame)

-- the seat of a participant has come to this
abbrev pub with_seat : ℕ → Seat → GlobalState → GlobalState
with_seat who seat at = record { seats = slice_set at.seats who seat; segs = at.segs; boxes = at.boxes }

-- the segment value has become this
abbrev pub with_segs : SegsView → GlobalState → GlobalState
with_segs segs at = record { seats = at.seats; segs = segs; boxes = at.boxes }

-- the mailboxes are those after a step that a participant made
abbrev pub mailed_by : ℕ → MailStep → GlobalState → GlobalState
mailed_by who step at = record { seats = at.seats; segs = at.segs; boxes = after_step who step at.boxes }

-- one step of one participant, whatever lies in the mailboxes; the segment value that it gives back is sound
pub data Steps (count : ℕ) : GlobalState → GlobalState → Type 0 where
  quietly : (at : GlobalState) (who : ℕ) (old new : Seat) → slice_get at.seats who ≡ Some old → Quietly old new
      → Steps count at (with_seat who new at)
  mails : (at : GlobalState) (who : ℕ) (old new : Seat) (step : MailStep) → slice_get at.seats who ≡ Some old → Mails who old new step
      → Steps count at (mailed_by who step (with_seat who new at))
  handles : (at : GlobalState) (who : ℕ) (old new : Seat) (given : SegsView) → slice_get at.seats who ≡ Some old
      → Handles count who old new at.segs given → IsSound given → IsArmed given → Steps count at (with_segs given (with_seat who new at))

-- steps one after another, whatever lies in the mailboxes
pub data Runs (count : ℕ) : GlobalState → GlobalState → Type 0 where
  stands : (at : GlobalState) → Runs count at at
  goes_on : (first mid last : GlobalState) → Runs count first mid → Steps count mid last → Runs count first last

-- what lies in the mailboxes allows a step: it fetches what comes first in its own, and what it posts comes to lie in another one as far as
-- there is room
abbrev pub IsByMail : {count : ℕ} {old new : GlobalState} → Steps count old new → Type 0
IsByMail (Steps.quietly at who old new there does) = ⊤
IsByMail (Steps.mails at who old new step there does) = IsMailStep who step at.boxes
IsByMail (Steps.handles at who old new given there does sound armed) = ⊤

-- steps one after another, each as what lies in the mailboxes allows
pub data RunsByMail (count : ℕ) : GlobalState → GlobalState → Type 0 where
  stands : (at : GlobalState) → RunsByMail count at at
  goes_on : (first mid last : GlobalState) → RunsByMail count first mid → (step : Steps count mid last) → IsByMail step
      → RunsByMail count first last

-- a participant before its first step: it has a table where it is in the roster, nothing was done, and nobody watches or denies
pub record IsFirstSeat (who : ℕ) (segs : SegsView) (seat : Seat) : Type 0 where
  pub me : seat.party.me ≡ who
  pub joined : seat.party.joined ≡ is_member segs.roster who
  pub core : seat.party.core ≡ first_core who seat.party.deadline
  pub asked : seat.party.asked ≡ 0
  pub answers : seat.party.maps.answers ≡ []
  pub rows : seat.party.maps.rows ≡ []
  pub number : seat.party.maps.number ≡ 0
  pub lines : seat.lines ≡ []
  pub trace : seat.trace ≡ []
  pub fetched : seat.fetched ≡ []
  pub asking : seat.asking ≡ None
  pub listeners : seat.party.listeners ≡ []
  pub watchers : seat.standing.watchers ≡ []
  pub validators : seat.standing.validators ≡ []

-- so many participants before their first step, of which some are absent: the mailboxes are empty, and the segment value is that of the
-- pools
pub record IsFirst (count absent : ℕ) (pools : List PoolLine) (at : GlobalState) : Type 0 where
  pub seats : length at.seats ≡ count
  pub each : (who : ℕ) (seat : Seat) → slice_get at.seats who ≡ Some seat → IsFirstSeat who at.segs seat
  pub segs : at.segs ≡ opening pools count absent
  pub sound : IsSound at.segs
  pub armed : IsArmed at.segs
  pub boxes : at.boxes ≡ replicate count []
