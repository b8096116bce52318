-- What a participant's moves at a board say of its heaps: what its seat counts as added by steps are what the holds among them added. The rules
-- "Moves" of docs/BOARD.md and "Together" of docs/RUNS.md.
use Rattle.std.specs.Prelude.{◌≡◌, ℕ, ◌++◌, List, None}
use Rattle.hp_board.specs.MovesKept.{Replays, Slotted}
use Rattle.hp_board.specs.Views.{values_of}
use Rattle.hp_board.specs.declared.view.Move.{Move}
use Rattle.hp_chair.specs.DoneBy.{entries_by}
use Rattle.hp_chair.specs.Steps.{moves_in}
use Rattle.hp_hall.specs.Mail.{MailStep}
use Rattle.thm_run.specs.OwnLines.{AreAddedIn}

-- Wherever the steps of a participant are its moves at a board, the entries that the seat counts for some of them, before which nothing was in
-- hand, are those that came to each heap in the holds among these; and each hold gave the heap back sound, with a longer history.
abbrev pub AddsByMoves : Type 0
AddsByMoves = (moves : List (ℕ × Move)) (first last : Slotted) (who label : ℕ) (before steps more : List MailStep) → Replays first moves last
    → values_of who moves ≡ moves_in (before ++ (steps ++ more)) → (heap : ℕ)
    → AreAddedIn label heap steps (values_of heap (entries_by (λ slot. None) steps))
