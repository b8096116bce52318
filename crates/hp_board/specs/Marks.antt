-- Who has marks on the chunks of heaps: the part "Marks" of the rule in docs/BOARD.md.
use Rattle.std.specs.Prelude.{◌≡◌, ℕ, ◌<◌, ◌≤◌, []}
use Rattle.hp_hall.specs.Values.{marks_of}
use Rattle.hp_hall.specs.declared.kept.Kept.{Kept}
use Rattle.hp_board.specs.Views.{marked_in}
use Rattle.hp_board.specs.declared.opening.Opening.{Opening}
use Rattle.hp_board.specs.declared.view.Mine.{Mine}
use Rattle.hp_board.specs.declared.words.TheConstants.{SLOTS}

-- The chunks of a slot's heap, at home or as its holder took it, that have a participant's mark are those on which the participant left it; and
-- nobody but the board's participants has marks.
pub record AreMarks (opening : Opening) (kept : ℕ → Kept) (mine : ℕ → Mine) : Type 0 where
  pub own : (who slot : ℕ) → who < opening.participants → slot < SLOTS → marks_of who (kept slot) ≡ marked_in slot (mine who)
  pub strange : (who slot : ℕ) → opening.participants ≤ who → slot < SLOTS → marks_of who (kept slot) ≡ []
