-- What a give of the segment value leaves, whatever its form. No public clause cites this module.
use Rattle.std.specs.Prelude.{◌≡◌, ◌≢◌, ◌⊎◌, ℕ, ◌≤◌, true, length, Contains, Some}
use Rattle.hp_segs.specs.SegsView.{SegsView, granted_by, is_member}
use Rattle.hp_segs.specs.declared.outcome.AskLog.{AskLog}
use Rattle.hp_hall.specs.SegsGives.{Giver}
use Rattle.hp_board.specs.Views.{BeginsWith}

-- log and outcomes begin with the taken ones, the others are in the roster where they were, each new grant was taken in by the members as
-- far as the giver knows, and who joins has acknowledged the whole log
pub record IsLeft (giver : Giver) (taken given : SegsView) : Type 0 where
  pub log : BeginsWith given.log taken.log
  pub asks : BeginsWith given.asks taken.asks
  pub others : (other : ℕ) → other ≢ giver.who → is_member given.roster other ≡ is_member taken.roster other
  pub agreed : (entry : AskLog) (generation member : ℕ) → Contains given.asks entry → granted_by entry.outcome ≡ Some generation
      → is_member given.roster member ≡ true → Contains taken.asks entry ⊎ (generation ≤ giver.noted member)
  pub own : is_member given.roster giver.who ≡ true
      → (is_member taken.roster giver.who ≡ true) ⊎ (giver.number ≡ length given.log)
