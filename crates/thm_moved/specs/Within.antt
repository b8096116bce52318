-- No participant calls a heap that a board does not have. The rule "Together" of docs/RUNS.md.
use Rattle.std.specs.Prelude.{◌≡◌, ℕ, ◌≤◌, List, []}
use Rattle.hp_base.specs.declared.limits.TheConstants.{MAX_HEAPS}
use Rattle.hp_board.specs.MovesKept.{Replays, Slotted}
use Rattle.hp_board.specs.Views.{values_of}
use Rattle.hp_board.specs.declared.view.Move.{Move}
use Rattle.hp_chair.specs.Steps.{moves_in}
use Rattle.hp_hall.specs.Mail.{MailStep}
use Rattle.hp_proc.specs.Courses.{calls_in}
use Rattle.hp_proc.specs.Histories.{entries_for}
use Rattle.hp_proc.specs.LinesDone.{Course, trace_of}
use Rattle.thm_run.specs.OwnLines.{AddsByLines, WentByLines}
use Rattle.thm_run.specs.Seats.{Seat}

-- wherever a participant's way by its lines has the moves of a board for its steps, it called no heap past the last one
abbrev pub CallsWithinByMoves : Type 0
CallsWithinByMoves = (moves : List (ℕ × Move)) (first last : Slotted) (count who : ℕ) (begin end : Seat) (courses : List Course)
    (steps : List MailStep) → Replays first moves last → values_of who moves ≡ moves_in steps
    → (way : WentByLines count who begin end courses steps) → AddsByLines way → (index : ℕ) → MAX_HEAPS ≤ index
    → entries_for who index 1 (calls_in (trace_of courses)) ≡ []
