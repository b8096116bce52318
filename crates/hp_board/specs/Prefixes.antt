-- What views have seen: the part "Prefixes" of the rule in docs/BOARD.md.
use Rattle.std.specs.Prelude.{◌≡◌, ℕ, ◌<◌}
use Rattle.hp_hall.specs.declared.kept.Kept.{Kept}
use Rattle.hp_board.specs.declared.opening.Opening.{Opening}
use Rattle.hp_board.specs.declared.words.TheConstants.{SLOTS}
use Rattle.hp_board.specs.declared.view.Mine.{Mine}
use Rattle.hp_hall.specs.Values.{history_of}
use Rattle.hp_board.specs.Views.{seen_of, BeginsWith}

-- Each participant knows what the board opened with, and what it has seen of a history is a front of that history.
pub record AreSeen (opening : Opening) (kept : ℕ → Kept) (mine : ℕ → Mine) : Type 0 where
  pub opened : (who : ℕ) → who < opening.participants → (mine who).opening ≡ opening
  pub seen : (who slot : ℕ) → who < opening.participants → slot < SLOTS
      → BeginsWith (history_of (kept slot)) (seen_of slot (mine who))
