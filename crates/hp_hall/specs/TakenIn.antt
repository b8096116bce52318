-- How far participants have taken in the log of a segment value: the rule "What a hall shows" of docs/HALLS.md.
use Rattle.std.specs.Prelude.{◌≡◌, ℕ, ◌≤◌, true, Contains, Some}
use Rattle.hp_hall.specs.Own.{Own}
use Rattle.hp_segs.specs.SegsView.{SegsView, granted_by, is_member}
use Rattle.hp_segs.specs.declared.outcome.AskLog.{AskLog}

-- each member of the roster has taken in each record that was granted, by these numbers of the participants
abbrev pub AreTakenIn : (ℕ → ℕ) → SegsView → Type 0
AreTakenIn number segs = (entry : AskLog) (generation member : ℕ) → Contains segs.asks entry
    → granted_by entry.outcome ≡ Some generation → is_member segs.roster member ≡ true → generation ≤ number member

-- an own part is one of a log of so many records: it has unmapped what is dropped up to a record that is not before its number, nor after
-- the last one
pub record IsOwnOf (records : ℕ) (own : Own) : Type 0 where
  pub behind : own.number ≤ own.unmapped
  pub within : own.unmapped ≤ records
