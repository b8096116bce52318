-- Which segments, runs and asks are whose: the part "Ownership" of the rule in docs/BOARD.md.
use Rattle.std.specs.Prelude.{◌≡◌, ◌⊎◌, ℕ, ◌<◌, ◌≤◌, Bool, true, List, [], Option, Some, None, ⊤, slice_index, if◌then◌else◌}
use Rattle.hp_base.specs.declared.limits.TheConstants.{MAX_HEAPS}
use Rattle.hp_segs.specs.LaterSteps.{armed_ask}
use Rattle.hp_segs.specs.PendingRuns.{ArePending}
use Rattle.hp_segs.specs.SegsView.{SegsView}
use Rattle.hp_segs.specs.SettledAsks.{IsSettled}
use Rattle.hp_segs.specs.Standing.{Holding, IsArmed, standing_of}
use Rattle.hp_segs.specs.declared.ask.Ask.{Ask}
use Rattle.hp_heap.specs.HistoryLaws.{runs_cut, runs_grown}
use Rattle.hp_hall.specs.Holding.{HasHolding}
use Rattle.hp_hall.specs.declared.kept.Kept.{Kept}
use Rattle.hp_hall.specs.declared.kept.Kept.TheVariants.{Heap, Names, Segments}
use Rattle.hp_board.specs.declared.words.TheConstants.{SLOTS}
use Rattle.hp_board.specs.Knowing.{holds_heap}
use Rattle.hp_board.specs.Views.{BeginsWith, value_of}
use Rattle.hp_board.specs.declared.view.Mine.{Mine}

-- what a participant knows of a heap: while it holds that, what the segment value has for it
abbrev pub holding_by : Bool → ℕ → SegsView → Option Holding
holding_by holds heap segs = if holds then Some (standing_of heap segs) else None

-- A participant is armed with the ask with which it armed itself last. Of each heap that it holds, and of no other, it knows what the
-- segment value has for it. And while its ask is not settled it holds the heap of that.
pub record IsOwner (segs : SegsView) (who : ℕ) (mine : Mine) : Type 0 where
  pub armed : armed_ask segs who ≡ mine.armed
  pub known : (heap : ℕ) → value_of heap mine.holdings ≡ holding_by (holds_heap heap mine) heap segs
  pub asking : (ask : Ask) → mine.armed ≡ Some ask → IsSettled ask.from ask.number segs ⊎ (holds_heap ask.heap mine ≡ true)

-- a heap has what the segment value has for it: the pages of its own segments, and by its history the runs that it has claimed and given up
abbrev pub IsOwnedIn : SegsView → ℕ → Kept → Type 0
IsOwnedIn segs slot (Heap heap pen) = HasHolding heap (standing_of slot segs)
IsOwnedIn segs slot (Segments other) = ⊤
IsOwnedIn segs slot (Names names) = ⊤

-- the runs that a heap has claimed begin with those that came by its history, as it was taken where it is out, and the runs that it gave up
-- with those that were cut by that; the others are what its holder has claimed and given up since it took the heap
abbrev pub HasBegun : SegsView → ℕ → Kept → Type 0
HasBegun segs slot (Heap heap pen) = BeginsWith (standing_of slot segs).came (runs_grown heap.history)
    × BeginsWith (standing_of slot segs).retired (runs_cut heap.history)
HasBegun segs slot (Segments other) = ⊤
HasBegun segs slot (Names names) = ⊤

-- nothing of a heap
abbrev pub no_holding : Holding
no_holding = record { owned = []; claimed = []; came = []; retired = [] }

-- Each heap at home has what the segment value has for it, of each that is out that goes on from what it had when it was taken, and for
-- what is no heap of the board the segment value has nothing. The open growth and the kept asks are those of the armed; runs that no heap
-- has claimed are of armed asks, each alone for its heap, and the last one of that. Nobody but the board's participants is armed.
pub record AreOwned (participants : ℕ) (words : List ℕ) (kept : ℕ → Kept) (mine : ℕ → Mine) : Type 0 where
  -- the segment value, at home or as its holder took it
  pub segs : SegsView
  pub there : kept MAX_HEAPS ≡ Segments segs
  pub owners : (who : ℕ) → who < participants → IsOwner segs who (mine who)
  pub home : (slot : ℕ) → slot < SLOTS → slice_index words slot ≡ 0 → IsOwnedIn segs slot (kept slot)
  pub begun : (slot : ℕ) → slot < SLOTS → HasBegun segs slot (kept slot)
  pub none : (heap : ℕ) → MAX_HEAPS ≤ heap → standing_of heap segs ≡ no_holding
  pub armed : IsArmed segs
  pub pending : ArePending segs
  pub nobody : (who : ℕ) → participants ≤ who → armed_ask segs who ≡ None
