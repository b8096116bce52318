-- What a give of the segment value owes to those who have a table of its log: the rules "Giving" of docs/BOARD.md and docs/HALLS.md. It is
-- said over who gives and what that one has loaded; what a giver owes for heaps and for asks stands beside it (`IsGiveOf`).
use Rattle.std.specs.Prelude.{◌≡◌, ◌≢◌, ℕ, ◌≤◌, true, false, Bool, Contains, Option, Some, drop, length}
use Rattle.hp_segs.specs.Moved.{IsMovedBy, is_log_call, is_owner_call, is_range_call, is_roster_call}
use Rattle.hp_segs.specs.SegsView.{SegsView, granted_by, is_member}
use Rattle.hp_segs.specs.declared.outcome.AskLog.{AskLog}

-- who gives: its number among the participants, how many records it has acknowledged itself, and how many since it took the segment value,
-- where it has; whether it has told since then that its table has no row; and of each participant how many records that one has acknowledged at
-- least, by what the giver has loaded
pub record Giver : Type 0 where
  pub who : ℕ
  pub number : ℕ
  pub acked : Option ℕ
  pub emptied : Bool
  pub noted : ℕ → ℕ

-- where a grant came in, each member that the giver knows of has taken in its record, by the numbers that it has loaded
abbrev pub AgreesBy : (ℕ → ℕ) → SegsView → SegsView → Type 0
AgreesBy noted taken given = (entry : AskLog) (generation member : ℕ) → Contains (drop (length taken.asks) given.asks) entry
    → granted_by entry.outcome ≡ Some generation → is_member given.roster member ≡ true → generation ≤ noted member

-- by the log: the value moved by calls that log, at most one of which opens or grants a growth; and where a grant came in, each member of
-- the roster has taken in its record, by the numbers that the giver has loaded
pub record IsLogGive (giver : Giver) (taken given : SegsView) : Type 0 where
  pub moved : IsMovedBy is_log_call 1 taken given
  pub agreed : AgreesBy giver.noted taken given

-- by the roster: nobody but the giver joins or leaves, and it joins with the whole log taken in, which it has acknowledged since it took the
-- value: a number that it kept from an earlier time in the roster does not do; and it leaves once it has told that its table has no row
pub record IsRosterGive (giver : Giver) (taken given : SegsView) : Type 0 where
  pub moved : IsMovedBy is_roster_call 0 taken given
  pub others : (other : ℕ) → other ≢ giver.who → is_member given.roster other ≡ is_member taken.roster other
  pub joins : is_member taken.roster giver.who ≡ false → is_member given.roster giver.who ≡ true → giver.number ≡ length given.log
  pub caught_up : is_member taken.roster giver.who ≡ false → is_member given.roster giver.who ≡ true → giver.acked ≡ Some (length given.log)
  pub leaves : is_member taken.roster giver.who ≡ true → is_member given.roster giver.who ≡ false → giver.emptied ≡ true

-- by ownership: agreed rows became a heap's, or a heap's rows were given up
pub record IsOwnerGive (taken given : SegsView) : Type 0 where
  pub moved : IsMovedBy is_owner_call 0 taken given

-- by external memory: the ranges of external heaps were claimed or released, and nothing else changed
pub record IsRangeGive (taken given : SegsView) : Type 0 where
  pub moved : IsMovedBy is_range_call 0 taken given

-- a give of the segment value is by one of these; a value that is as it was taken goes back by the log
pub data SegsGive (giver : Giver) (taken given : SegsView) : Type 0 where
  logs : IsLogGive giver taken given → SegsGive giver taken given
  enrols : IsRosterGive giver taken given → SegsGive giver taken given
  owns : IsOwnerGive taken given → SegsGive giver taken given
  claims_ranges : IsRangeGive taken given → SegsGive giver taken given
