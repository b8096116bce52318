-- While a participant has a heap in hand nobody else's growth is open for that: what this says of its holds, piece by piece of its steps.
use Rattle.std.proofs.Common.{◌≡◌, ◌⊎◌, ℕ, Bool, true, List, [], ◌∷◌, ◌++◌, Option, None, Some, IfSome, inl, inr, subst}
use Rattle.std.specs.List.{All}
use Rattle.std.proofs.lemmas.List.Elements.{All-cons, All-nil}
use Rattle.hp_hall.specs.Mail.{Fetches, Gives, MailStep, Notes, Posts, Takes}
use Rattle.hp_hall.specs.declared.kept.Kept.TheVariants.{Heap, Names, Segments}
use Rattle.hp_segs.specs.GrowthLaws.{IsOfArmed}
use Rattle.hp_segs.specs.LaterSteps.{armed_ask}
use Rattle.hp_segs.specs.SegsView.{SegsView}
use Rattle.hp_segs.specs.SettledAsks.{IsSettled}
use Rattle.hp_segs.specs.declared.ask.Ask.{Ask}
use Rattle.hp_segs.specs.declared.growth.Growth.{Growth}
use Rattle.hp_segs.proofs.AskFacts.SettledLaws.{above_is_unsettled}
use Rattle.hp_weave.specs.Holds.{Hold}
use Rattle.thm_run.proofs.HeapGivers.{GiveNoHeap}
use Rattle.thm_run.specs.Apart.{holds_from}
use Rattle.thm_run.specs.OwnLines.{AreOfNoHeap, NoneElseGrows, NoneElseGrowsAlong, NoneElseGrowsForHeld}

-- who takes neither a heap nor the names, gives none back and publishes nothing, does none of the first two
pub of_no_heap : (steps : List MailStep) → GiveNoHeap steps → AreOfNoHeap steps
of_no_heap [] none = tt
of_no_heap (Posts to frame action posted ∷ steps) none = (λ is. is, of_no_heap steps none.1)
of_no_heap (Fetches frame ∷ steps) none = (λ is. is, of_no_heap steps none.1)
of_no_heap (Notes note ∷ steps) none = (λ is. is, of_no_heap steps none.1)
of_no_heap (Takes slot (Heap heap pen) ∷ steps) none = absurd none.0
of_no_heap (Takes slot (Segments segs) ∷ steps) none = (λ is. is, of_no_heap steps none.1)
of_no_heap (Takes slot (Names names) ∷ steps) none = absurd none.0
of_no_heap (Gives slot (Heap heap pen) ∷ steps) none = absurd none.0
of_no_heap (Gives slot (Segments segs) ∷ steps) none = (λ is. is, of_no_heap steps none.1)
of_no_heap (Gives slot (Names names) ∷ steps) none = absurd none.0

-- steps without a heap leave what is in hand
pub growths_past : (who : ℕ) (hand : Option ℕ) (steps more : List MailStep) → AreOfNoHeap steps
    → NoneElseGrowsAlong who hand (steps ++ more) → NoneElseGrowsAlong who hand more
growths_past who hand [] more none along = along
growths_past who hand (Posts to frame action posted ∷ steps) more none along = growths_past who hand steps more none.1 along
growths_past who hand (Fetches frame ∷ steps) more none along = growths_past who hand steps more none.1 along
growths_past who hand (Notes note ∷ steps) more none along = growths_past who hand steps more none.1 along
growths_past who hand (Takes slot (Heap heap pen) ∷ steps) more none along = absurd (none.0 tt)
growths_past who hand (Takes slot (Segments segs) ∷ steps) more none along = growths_past who hand steps more none.1 along.1
growths_past who hand (Takes slot (Names names) ∷ steps) more none along = growths_past who hand steps more none.1 along
growths_past who hand (Gives slot (Heap heap pen) ∷ steps) more none along = absurd (none.0 tt)
growths_past who hand (Gives slot (Segments segs) ∷ steps) more none along = growths_past who hand steps more none.1 along.1
growths_past who hand (Gives slot (Names names) ∷ steps) more none along = growths_past who hand steps more none.1 along

-- in a hold nobody else's growth is open for the heap, neither as the value was taken nor as it was given back
abbrev pub IsAloneIn : ℕ → ℕ → Hold SegsView → Type 0
IsAloneIn who heap hold = NoneElseGrows who heap hold.taken × NoneElseGrows who heap hold.given

module _ (who heap : ℕ) where
  -- so it is in each hold among steps that leave the heap in hand
  pub holds_alone : (taken : Option SegsView) (steps more : List MailStep) → IfSome taken (NoneElseGrows who heap) → GiveNoHeap steps
      → NoneElseGrowsAlong who (Some heap) (steps ++ more) → All (IsAloneIn who heap) (holds_from who taken steps)
  holds_alone taken [] more was none along = All-nil (IsAloneIn who heap)
  holds_alone None (Posts to frame action posted ∷ steps) more was none along = holds_alone None steps more was none.1 along
  holds_alone (Some taken) (Posts to frame action posted ∷ steps) more was none along = holds_alone (Some taken) steps more was none.1 along
  holds_alone None (Fetches frame ∷ steps) more was none along = holds_alone None steps more was none.1 along
  holds_alone (Some taken) (Fetches frame ∷ steps) more was none along = holds_alone (Some taken) steps more was none.1 along
  holds_alone None (Notes note ∷ steps) more was none along = holds_alone None steps more was none.1 along
  holds_alone (Some taken) (Notes note ∷ steps) more was none along = holds_alone (Some taken) steps more was none.1 along
  holds_alone None (Takes slot (Heap other pen) ∷ steps) more was none along = absurd none.0
  holds_alone (Some taken) (Takes slot (Heap other pen) ∷ steps) more was none along = absurd none.0
  holds_alone None (Takes slot (Segments segs) ∷ steps) more was none along = holds_alone (Some segs) steps more along.0 none.1 along.1
  holds_alone (Some taken) (Takes slot (Segments segs) ∷ steps) more was none along =
      holds_alone (Some segs) steps more along.0 none.1 along.1
  holds_alone None (Takes slot (Names names) ∷ steps) more was none along = holds_alone None steps more was none.1 along
  holds_alone (Some taken) (Takes slot (Names names) ∷ steps) more was none along = holds_alone (Some taken) steps more was none.1 along
  holds_alone None (Gives slot (Heap other pen) ∷ steps) more was none along = absurd none.0
  holds_alone (Some taken) (Gives slot (Heap other pen) ∷ steps) more was none along = absurd none.0
  holds_alone None (Gives slot (Segments segs) ∷ steps) more was none along = holds_alone None steps more was none.1 along.1
  holds_alone (Some taken) (Gives slot (Segments segs) ∷ steps) more was none along =
      All-cons (IsAloneIn who heap) (record { who = who; taken = taken; given = segs }) (holds_from who None steps) (was, along.0)
      (holds_alone None steps more tt none.1 along.1)
  holds_alone None (Gives slot (Names names) ∷ steps) more was none along = holds_alone None steps more was none.1 along
  holds_alone (Some taken) (Gives slot (Names names) ∷ steps) more was none along = holds_alone (Some taken) steps more was none.1 along

-- WHO HAS A HEAP IN HAND

-- the ask of a growth is not settled, so who has that ask has the heap in hand
none_else : (segs : SegsView) (holds : ℕ → ℕ → Bool) (who heap : ℕ)
    → ((other : ℕ) (ask : Ask) → armed_ask segs other ≡ Some ask → IsSettled ask.from ask.number segs ⊎ (holds other ask.heap ≡ true))
    → ((one other heap : ℕ) → holds one heap ≡ true → holds other heap ≡ true → one ≡ other) → holds who heap ≡ true
    → (growth : Option Growth) → IfSome growth (IsOfArmed segs.asks segs.armed)
    → IfSome growth (λ growth. growth.ask.heap ≡ heap → growth.ask.from ≡ who)
none_else segs holds who heap asking once held None is = tt
none_else segs holds who heap asking once held (Some growth) is = λ same.
    elim (asking growth.ask.from growth.ask is.its_ask) [
      | inl settled ↦ absurd (above_is_unsettled segs growth.ask.from growth.ask.number is.above settled)
      | inr holding ↦ once growth.ask.from who heap (subst (λ heap. holds growth.ask.from heap ≡ true) same holding) held
    ]

pub none_else_for_held : NoneElseGrowsForHeld
none_else_for_held segs holds who heap armed asking once held = none_else segs holds who heap asking once held segs.growth armed
