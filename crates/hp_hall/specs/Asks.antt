-- What a participant knows of the ask with which it is armed, and what a give of the segment value owes for asks: the rule "Asks" of
-- docs/HALLS.md.
use Rattle.std.specs.Prelude.{◌≡◌, ◌≢◌, ◌⊎◌, ℕ, true, List, Contains, Option, Some, None, drop, length, ⊤}
use Rattle.std.specs.List.{list_any}
use Rattle.hp_segs.specs.LaterSteps.{armed_ask}
use Rattle.hp_segs.specs.Moved.{SegsCall, OpenRun}
use Rattle.hp_segs.specs.SegsView.{SegsView, granted_by, grants_or_refuses}
use Rattle.hp_segs.specs.SettledAsks.{IsSettled}
use Rattle.hp_segs.specs.Standing.{Holding, IsArmed}
use Rattle.hp_segs.specs.declared.ask.Ask.{Ask}
use Rattle.hp_segs.specs.declared.outcome.AskLog.{AskLog}

-- what was granted by an outcome, a heap in hand has claimed; of a heap that is not in hand nothing is said
abbrev pub IsClaimedIn : Option Holding → AskLog → Type 0
IsClaimedIn None entry = ⊤
IsClaimedIn (Some holding) entry = Contains holding.claimed entry

-- what was granted to an ask, as far as that was heard, its heap has claimed
abbrev pub ClaimsGrants : List AskLog → Option Holding → Ask → Type 0
ClaimsGrants heard holding ask = (entry : AskLog) (generation : ℕ) → Contains heard entry → entry.from ≡ ask.from → entry.number ≡ ask.number
    → granted_by entry.outcome ≡ Some generation → IsClaimedIn holding entry

-- a participant knows that an ask for pages is settled: it has heard a grant or a refusal of it, and what it has heard to be granted its
-- heap has claimed
pub record IsKnownSettled (heard : List AskLog) (holding : Option Holding) (ask : Ask) : Type 0 where
  pub answered : list_any (grants_or_refuses ask.from ask.number) heard ≡ true
  pub claims : ClaimsGrants heard holding ask

-- each outcome that came in beside its ask is of the ask with which its participant was armed
abbrev pub AnswersOfArmed : SegsView → SegsView → Type 0
AnswersOfArmed taken given = (entry : AskLog) (ask : Ask) → Contains (drop (length taken.asks) given.asks) entry → entry.ask ≡ Some ask
    → armed_ask taken entry.from ≡ Some ask

-- a call opens no growth but of the ask with which its participant was armed in the taken value
abbrev pub OpensForArmed : SegsView → SegsCall → Type 0
OpensForArmed taken (OpenRun ask run) = armed_ask taken ask.from ≡ Some ask
OpensForArmed taken _ = ⊤

-- asks in a value that is given by the log: nobody but the giver is armed anew; the giver is armed with the ask of before, or else with one
-- for a heap that it holds; its ask of before is still the one with which it is armed, or else is settled; the open growth and the kept
-- asks stay those of the armed; and so is each outcome that came in beside its ask
pub record Arms (who : ℕ) (Holds : ℕ → Type 0) (taken given : SegsView) : Type 0 where
  pub others : (other : ℕ) → other ≢ who → armed_ask given other ≡ armed_ask taken other
  pub for_held : (ask : Ask) → armed_ask given who ≡ Some ask → (armed_ask taken who ≡ Some ask) ⊎ Holds ask.heap
  pub settled : (ask : Ask) → armed_ask taken who ≡ Some ask → (armed_ask given who ≡ Some ask) ⊎ IsSettled ask.from ask.number given
  pub of_armed : IsArmed taken → IsArmed given
  pub answers : IsArmed taken → AnswersOfArmed taken given
