-- The heaps and whose calls their histories have: the part "Heaps" of the rule in docs/BOARD.md.
use Rattle.std.specs.Prelude.{◌≡◌, ℕ, ◌<◌, ◌≤◌, [], All}
use Rattle.hp_heap.specs.History.{entries_of}
use Rattle.hp_hall.specs.declared.kept.Kept.{Kept}
use Rattle.hp_board.specs.declared.opening.Opening.{Opening}
use Rattle.hp_board.specs.declared.words.TheConstants.{SLOTS}
use Rattle.hp_board.specs.declared.view.Mine.{Mine}
use Rattle.hp_board.specs.KeptValues.{IsKeptAt}
use Rattle.hp_hall.specs.Giving.{IsNumbered}
use Rattle.hp_hall.specs.Values.{history_of}
use Rattle.hp_board.specs.Views.{made_in, all_made}

-- The value of each slot, at home or as its holder took it, is tiled, has exact lists, stands for its legal history, and
-- opened as the board's heap of that index. The history has of each participant the entries that it made there, and of
-- nobody else any. The entries of a participant are numbered from 1 on, and each is of a slot.
pub record AreKept (opening : Opening) (kept : ℕ → Kept) (mine : ℕ → Mine) : Type 0 where
  pub at : (slot : ℕ) → slot < SLOTS → IsKeptAt opening slot (kept slot)
  pub own : (who slot : ℕ) → who < opening.participants → slot < SLOTS
      → entries_of who (history_of (kept slot)) ≡ made_in slot (mine who)
  pub strange : (who slot : ℕ) → opening.participants ≤ who → slot < SLOTS
      → entries_of who (history_of (kept slot)) ≡ []
  pub numbered : (who : ℕ) → who < opening.participants → IsNumbered who 0 (all_made (mine who))
  pub placed : (who : ℕ) → who < opening.participants → All (λ pair. pair.0 < SLOTS) (mine who).made
