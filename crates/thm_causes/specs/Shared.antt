-- What all participants of a hall share, at a moment at which the segment value is at home, and what steps of one of them make of it. The
-- rule "Reasons" of docs/RUNS.md.
use Rattle.std.specs.Prelude.{◌≡◌, ℕ, ◌≤◌, List, [], ◌∷◌, Some, drop, length, map, slice_get, slice_index_or, slice_set}
use Rattle.hp_base.specs.declared.limits.TheConstants.{MAX_HEAPS}
use Rattle.hp_base.specs.declared.plan.Action.{Action}
use Rattle.hp_frame.specs.declared.frame.Frame.{Frame}
use Rattle.hp_plain.specs.HallView.{HallView, segs_in, slot_at}
use Rattle.hp_segs.specs.Standing.{IsArmed}
use Rattle.hp_hall.specs.Mail.{Fetches, Gives, MailStep, Notes, Posts, Takes}
use Rattle.hp_plain.specs.Boxes.{box_of, posted_as, box_after}
use Rattle.hp_hall.specs.declared.kept.Kept.TheVariants.{Heap, Names, Segments}
use Rattle.hp_hall.specs.declared.note.Note.TheVariants.{Acked, Loaded, Read}
use Rattle.hp_segs.specs.SegsView.{SegsView}
use Rattle.hp_segs.specs.Sound.{IsSound}

-- the segment value, the mailboxes, the clock, and how many records each participant has acknowledged
pub record Shared : Type 0 where
  pub segs : SegsView
  pub boxes : List (List Frame)
  pub clock : ℕ
  pub numbers : List ℕ

-- a hall has these
pub record IsSharedIn (hall : HallView) (at : Shared) : Type 0 where
  pub segs : segs_in (slot_at hall MAX_HEAPS) ≡ Some at.segs
  pub boxes : at.boxes ≡ hall.boxes
  pub clock : at.clock ≡ hall.clock
  pub numbers : at.numbers ≡ map (λ own. own.number) hall.owns

-- the segment value has come to this, or the mailboxes, or the numbers
abbrev pub with_segs : SegsView → Shared → Shared
with_segs segs at = record { segs = segs; boxes = at.boxes; clock = at.clock; numbers = at.numbers }

abbrev pub with_boxes : List (List Frame) → Shared → Shared
with_boxes boxes at = record { segs = at.segs; boxes = boxes; clock = at.clock; numbers = at.numbers }

abbrev pub with_number : ℕ → ℕ → Shared → Shared
with_number who number at = record { segs = at.segs; boxes = at.boxes; clock = at.clock; numbers = slice_set at.numbers who number }

-- the first frame of a mailbox is out
abbrev pub fetched_by : ℕ → Shared → Shared
fetched_by who at = with_boxes (slice_set at.boxes who (drop 1 (box_of at.boxes who))) at

-- a frame was posted
abbrev pub posted_to : ℕ → Frame → Action → Shared → Shared
posted_to to frame action at =
    with_boxes (slice_set at.boxes to (box_after frame (posted_as action (length (box_of at.boxes to))) (box_of at.boxes to))) at

-- what one step of a participant shows of what is shared, and makes of it, while the clock stands
abbrev pub Makes : ℕ → MailStep → Shared → Shared → Type 0
Makes who (Posts to frame action posted) old new = (posted ≡ posted_as action (length (box_of old.boxes to))) × (new ≡ posted_to to frame action old)
Makes who (Fetches frame) old new = (frame ≡ slice_get (box_of old.boxes who) 0) × (new ≡ fetched_by who old)
Makes who (Takes number (Heap heap pen)) old new = new ≡ old
Makes who (Takes number (Segments segs)) old new = (segs ≡ old.segs) × (new ≡ old)
Makes who (Takes number (Names names)) old new = new ≡ old
Makes who (Gives number (Heap heap pen)) old new = new ≡ old
Makes who (Gives number (Segments segs)) old new = IsSound segs × (IsArmed old.segs → IsArmed segs) × (new ≡ with_segs segs old)
Makes who (Gives number (Names names)) old new = new ≡ old
Makes who (Notes (Read now)) old new = (now ≡ old.clock) × (new ≡ old)
Makes who (Notes (Loaded participant number)) old new = (slice_get old.numbers participant ≡ Some number) × (new ≡ old)
Makes who (Notes (Acked number)) old new = (slice_index_or old.numbers who 0 ≤ number) × (new ≡ with_number who number old)
Makes who (Notes _) old new = new ≡ old

-- steps of one participant, one after another
abbrev pub MakesAll : ℕ → List MailStep → Shared → Shared → Type 0
MakesAll who [] old new = new ≡ old
MakesAll who (step ∷ steps) old new = (mid : Shared) × Makes who step old mid × MakesAll who steps mid new
