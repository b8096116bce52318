-- What participants have seen of the log, and their tables: the part "Lag" of the rule in docs/BOARD.md.
use Rattle.std.specs.Prelude.{◌≡◌, ℕ, ◌≤◌, true, length}
use Rattle.hp_segs.specs.SegsView.{SegsView, is_member}
use Rattle.hp_board.specs.Views.{BeginsWith, holds_segments}
use Rattle.hp_board.specs.declared.view.Mine.{Mine}

-- What a participant has seen of the log and of the outcomes is a front of them; how many records it has acknowledged, and up to which it
-- has unmapped what they drop, are within what it has seen. It knows whether it is in the roster; and it joins only while it holds the
-- segment slot.
pub record IsLagging (segs : SegsView) (who : ℕ) (mine : Mine) : Type 0 where
  pub log : BeginsWith segs.log mine.log
  pub heard : BeginsWith segs.asks mine.heard
  pub behind : mine.number ≤ mine.unmapped
  pub within : mine.unmapped ≤ length mine.log
  pub joined : is_member segs.roster who ≡ mine.joined
  pub joining : mine.joining ≡ true → holds_segments mine ≡ true
