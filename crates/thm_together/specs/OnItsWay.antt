-- A participant on its way by its lines, one thing after another, as its thread goes on: the rule "Together" of docs/RUNS.md.
use Rattle.std.specs.Prelude.{◌≡◌, ℕ, ◌+◌, ◌≤◌, Bool, List, [], ◌∷◌, ◌++◌, length, map, Some, None}
use Rattle.hp_base.specs.declared.limits.TheConstants.{MAX_DEADLINE}
use Rattle.hp_hall.specs.Mail.{MailStep, Notes}
use Rattle.hp_hall.specs.declared.note.Note.{Note}
use Rattle.hp_serve.specs.Coordinating.{IsServed}
use Rattle.hp_serve.specs.Party.{Party}
use Rattle.hp_proc.specs.Acting.{Acts}
use Rattle.hp_proc.specs.Awaiting.{HasAwaited}
use Rattle.hp_proc.specs.Courses.{after_line, calls_in}
use Rattle.hp_proc.specs.Denying.{denials_of}
use Rattle.hp_proc.specs.Histories.{entries_for}
use Rattle.hp_proc.specs.LinesDone.{Course, trace_of}
use Rattle.hp_proc.specs.NamesOfLines.{NamesOfLine}
use Rattle.hp_proc.specs.ParticipantView.{ParticipantView, after_registering, with_party}
use Rattle.hp_proc.specs.Progress.{AreOnce}
use Rattle.thm_run.specs.OwnLines.{AddsByLines, AreAddedIn, WentByLines}
use Rattle.thm_run.specs.Seats.{Seat}

-- by these lines and all of these steps a participant has come from its first seat to one in which it is as its thread knows it
pub record IsOnItsWay (count : ℕ) (first : Seat) (doer : ParticipantView) (courses : List Course) (steps : List MailStep) : Type 0 where
  pub seat : Seat
  pub party : seat.party ≡ doer.party
  pub standing : seat.standing ≡ doer.context.standing
  pub way : WentByLines count first.party.me first seat courses steps
  pub adds : AddsByLines way

-- it is on its way where it begins
abbrev pub BeginsItsWay : Type 0
BeginsItsWay = (count : ℕ) (first : Seat) (doer : ParticipantView) → first.party ≡ doer.party → first.standing ≡ doer.context.standing
    → IsOnItsWay count first doer [] []

-- and goes on where it serves
abbrev pub ServesOnItsWay : Type 0
ServesOnItsWay = (count : ℕ) (first : Seat) (doer : ParticipantView) (after : Party) (courses : List Course) (steps more : List MailStep)
    (moved : Bool) → IsOnItsWay count first doer courses steps
    → IsServed (denials_of doer.context.standing) count doer.party after more (Some moved)
    → IsOnItsWay count first (with_party after doer) courses (steps ++ more)

-- each heap has of these steps what the trace says, numbered on after so many calls
abbrev pub AddsItsCalls : ℕ → ℕ → Course → List MailStep → Type 0
AddsItsCalls who calls course steps = (heap : ℕ) → AreAddedIn who heap steps (entries_for who heap (1 + calls) (calls_in course.trace))

-- and where it does a line, after which that has ended, with what it leaves, and it makes some notes
abbrev pub DoesALineOnItsWay : Type 0
DoesALineOnItsWay = (count : ℕ) (first : Seat) (doer mid : ParticipantView) (courses : List Course) (course : Course)
    (steps more : List MailStep) (held : List ℕ) (notes : List Note) → first.party.deadline ≤ MAX_DEADLINE
    → IsOnItsWay count first doer courses steps → Acts count None None held doer mid course.trace more → AreOnce held
    → NamesOfLine course.trace more → HasAwaited course.line.act more
    → (after_registering course.line.act course.answer mid).context.standing
    ≡ after_line course.line course.answer course.trace doer.context.standing
    → AddsItsCalls first.party.me (length (calls_in (trace_of courses))) course more
    → IsOnItsWay count first (after_registering course.line.act course.answer mid) (courses ++ course ∷ []) (steps ++ (more ++ map Notes notes))
