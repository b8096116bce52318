-- What a participant does in a hall, from one moment to a later one: it serves, and does lines. The rule "Threads" of docs/RUNS.md.
use Rattle.std.specs.Prelude.{◌≡◌, ℕ, ◌+◌, Bool, List, [], ◌∷◌, ◌++◌, length, Some, None}
use Rattle.hp_hall.specs.Mail.{MailStep, Notes}
use Rattle.hp_hall.specs.declared.note.Note.TheVariants.{Stored}
use Rattle.hp_proc.specs.Acting.{Acts}
use Rattle.hp_proc.specs.Awaiting.{HasAwaited}
use Rattle.hp_proc.specs.Courses.{after_line, calls_in}
use Rattle.hp_proc.specs.Denying.{denials_of}
use Rattle.hp_proc.specs.Histories.{entries_for}
use Rattle.hp_proc.specs.LinesDone.{Course}
use Rattle.hp_proc.specs.NamesOfLines.{NamesOfLine}
use Rattle.hp_proc.specs.ParticipantView.{ParticipantView, after_registering, with_party}
use Rattle.hp_proc.specs.Progress.{AreOnce}
use Rattle.hp_serve.specs.Coordinating.{IsServed}
use Rattle.hp_serve.specs.Party.{Party}
use Rattle.hp_threads.specs.Adding.{added_by}

-- by these steps it did what a line's trace says, with heaps in its hand one after another, none of them twice, and then the line ended, of
-- which it knows what that left; what they added to each heap are the line's calls of that, numbered on after those before; what it read and
-- changed of the names is what it took and gave back of them; and where it awaited another one it found that one's lines done last
pub record DoesCourse (count : ℕ) (doer after : ParticipantView) (course : Course) (steps : List MailStep) : Type 0 where
  pub held : List ℕ
  pub once : AreOnce held
  pub mid : ParticipantView
  pub acts : Acts count None None held doer mid course.trace steps
  pub ended : after ≡ after_registering course.line.act course.answer mid
  pub left : after.context.standing ≡ after_line course.line course.answer course.trace doer.context.standing
  pub added : (heap : ℕ) → added_by heap steps ≡ entries_for doer.party.me heap (doer.context.calls + 1) (calls_in course.trace)
  pub names : NamesOfLine course.trace steps
  pub awaited : HasAwaited course.line.act steps

-- after its line it tells how many of its lines are done
abbrev pub tells : ℕ → List MailStep
tells lines = Notes (Stored lines) ∷ []

-- what it did, one thing after another, with the lines that it did among that, and all its steps: after each line it told how many it had done
pub data Works (count : ℕ) : ParticipantView → ParticipantView → List Course → List MailStep → Type 0 where
  rests : (doer : ParticipantView) → Works count doer doer [] []
  serves : (doer mid : ParticipantView) (after : Party) (courses : List Course) (steps more : List MailStep) (moved : Bool)
      → Works count doer mid courses steps → IsServed (denials_of mid.context.standing) count mid.party after more (Some moved)
      → Works count doer (with_party after mid) courses (steps ++ more)
  does : (doer mid after : ParticipantView) (courses : List Course) (course : Course) (steps more : List MailStep)
      → Works count doer mid courses steps → DoesCourse count mid after course more
      → Works count doer after (courses ++ course ∷ []) (steps ++ (more ++ tells (length courses + 1)))
