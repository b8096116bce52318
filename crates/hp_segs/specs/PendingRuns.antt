-- Runs that were granted and that no heap has claimed yet: whose they are, and how many a heap may have. The rule "Asks" of docs/HALLS.md.
use Rattle.std.specs.Prelude.{◌≡◌, ◌≢◌, ℕ, ◌≤◌, true, Contains, Some}
use Rattle.hp_segs.specs.LaterSteps.{armed_ask}
use Rattle.hp_segs.specs.SegsView.{SegsView, granted_by, is_unclaimed}
use Rattle.hp_segs.specs.declared.ask.Ask.{Ask}
use Rattle.hp_segs.specs.declared.growth.Growth.{Growth}
use Rattle.hp_segs.specs.declared.outcome.AskLog.{AskLog}

-- an outcome granted an ask a run that no heap has claimed yet
pub record IsPending (segs : SegsView) (ask : Ask) (generation : ℕ) (entry : AskLog) : Type 0 where
  pub logged : Contains segs.asks entry
  pub its_ask : entry.ask ≡ Some ask
  pub granted : granted_by entry.outcome ≡ Some generation
  pub unclaimed : is_unclaimed segs.segments generation ≡ true

-- a run that no heap has claimed is of the ask with which its participant is armed
abbrev pub PendingIsArmed : SegsView → Type 0
PendingIsArmed segs = (entry : AskLog) (ask : Ask) (generation : ℕ) → IsPending segs ask generation entry → armed_ask segs ask.from ≡ Some ask

-- while a granted run waits to be claimed no growth is open for its heap
abbrev pub PendingIsAlone : SegsView → Type 0
PendingIsAlone segs = (entry : AskLog) (ask : Ask) (generation : ℕ) (growth : Growth) → IsPending segs ask generation entry
    → segs.growth ≡ Some growth → growth.ask.heap ≢ ask.heap

-- a run that no heap has claimed is the last one that was granted for its heap
abbrev pub PendingIsLast : SegsView → Type 0
PendingIsLast segs = (entry other : AskLog) (ask asked : Ask) (generation number : ℕ) → IsPending segs ask generation entry → Contains segs.asks other
    → other.ask ≡ Some asked → granted_by other.outcome ≡ Some number → asked.heap ≡ ask.heap → number ≤ generation

-- runs that no heap has claimed are of armed asks, each alone for its heap, and the last one of that
pub record ArePending (segs : SegsView) : Type 0 where
  pub of_armed : PendingIsArmed segs
  pub alone : PendingIsAlone segs
  pub last : PendingIsLast segs
