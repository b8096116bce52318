-- What the participant that asks for pages has beside its seat.
use Rattle.std.specs.Prelude.{◌≡◌, ℕ, ◌<◌, Bool, true, false, List, [], ◌∷◌, Option, Some, None}
use Rattle.hp_segs.specs.Calls.{MayArm}
use Rattle.hp_segs.specs.LaterSteps.{after_arm}
use Rattle.hp_segs.specs.SegsView.{SegsView, closed_number}
use Rattle.hp_segs.specs.Standing.{Holding}
use Rattle.hp_segs.specs.declared.ask.Ask.{Ask}
use Rattle.hp_segs.specs.declared.outcome.AskLog.{AskLog}
use Rattle.hp_segs.specs.declared.outcome.Outcome.{Outcome}
use Rattle.hp_segs.specs.declared.outcome.Outcome.TheVariants.{Granted, Refused, Stale, Freed}
use Rattle.hp_hall.specs.Asks.{IsKnownSettled}
use Rattle.hp_hall.specs.HeapPairs.{ArePairsOf}
use Rattle.hp_hall.specs.Holding.{HasHolding}
use Rattle.hp_hall.specs.Views.{HeldHeap}
use Rattle.hp_hall.specs.declared.kept.Kept.TheVariants.{Heap}
use Rattle.hp_board.specs.declared.view.Mine.{Mine}

-- it is participant 1, has heap 0 in hand as it was taken, with the pen by which nothing but pairs of it was published; the heap has what the
-- segment value has for it; the participant, which has not the names in hand, knows nothing of external memory; it is armed so, and has made
-- no entry
pub record IsAsking (taken : HeldHeap) (ask : Option Ask) (mine : Mine) : Type 0 where
  pub holding : Holding
  pub who : mine.who ≡ 1
  pub held : mine.held ≡ (0, Heap taken.heap taken.pen) ∷ []
  pub pairs : ArePairsOf taken.heap taken.pen
  pub holdings : mine.holdings ≡ (0, holding) ∷ []
  pub has : HasHolding taken.heap holding
  pub index : taken.heap.plain.index ≡ 0
  pub unclaimed : mine.claims ≡ None
  pub armed : mine.armed ≡ ask
  pub made : mine.made ≡ []

-- the answer of an ask refuses it
abbrev pub refuses : Option Outcome → Bool
refuses None = false
refuses (Some (Granted generation)) = false
refuses (Some (Refused cause)) = true
refuses (Some (Stale done)) = false
refuses (Some (Freed generation)) = false

-- by what was heard, an ask of that participant and number is settled without a grant
abbrev pub IsRefusedIn : List AskLog → ℕ → ℕ → Type 0
IsRefusedIn heard from number = (ask : Ask) (holding : Option Holding) → ask.from ≡ from → ask.number ≡ number → IsKnownSettled heard holding ask

-- participant 1 was armed with its next ask, for heap 0
pub record IsArmedWith (ask : Ask) (old new : SegsView) : Type 0 where
  pub from : ask.from ≡ 1
  pub heap : ask.heap ≡ 0
  pub above : closed_number old.asks 1 < ask.number
  pub may : MayArm ask old
  pub step : new ≡ after_arm ask old
