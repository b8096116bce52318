-- How one that does a line in a hall of one thread comes to ask for pages for heap 0, and to give them up: what has to hold before each of
-- its calls. The rules "Asking" of docs/PARTICIPANTS.md and "Holding" of docs/HALLS.md.
use Rattle.std.specs.Prelude.{◌≡◌, ℕ, ◌<◌, true, length, Some, None, IsSome, []}
use Rattle.hp_base.specs.declared.row.Run.{Run}
use Rattle.hp_plain.specs.HallView.{HallView, IsHome, heard_in, joined_in, own_at, part_in, slot_at}
use Rattle.hp_hall.specs.Holding.{HasPages, HeapPart}
use Rattle.hp_segs.specs.Standing.{Holding}
use Rattle.hp_plain.specs.Opening.{AreHome}
use Rattle.hp_heap.specs.PlainHeap.{PlainHeap}
use Rattle.hp_serve.specs.Asking.{HasSettledAsks, IsCutFrom}
use Rattle.hp_serve.specs.Party.{Party}
use Rattle.hp_serve.specs.Tied.{nothing_yet}
use Rattle.hp_solo.specs.Solo.{MayWait, SoloView}

-- a hall of two as it opens where nobody was armed: all values are there, nobody has acknowledged a record, both are in the roster, and
-- heap 0 takes the pages of a socket
pub record IsOpening (hall : HallView) : Type 0 where
  pub two : length hall.owns ≡ 2
  pub home : AreHome hall
  pub nothing_yet : (who : ℕ) → own_at hall who ≡ nothing_yet
  pub joined : (who : ℕ) → who < 2 → joined_in hall who ≡ true
  pub unarmed : (who heap : ℕ) → (part_in hall who heap).armed ≡ None
  pub serves : (who : ℕ) → IsSome (part_in hall who 0).serves

-- one that was never armed may take heap 0, to ask for pages
pub record MayBeginToAsk (hall : HallView) (who : ℕ) : Type 0 where
  pub home : IsHome (slot_at hall 0)
  pub serves : IsSome (part_in hall who 0).serves
  pub unarmed : (heap : ℕ) → (part_in hall who heap).armed ≡ None

-- one that holds heap 0 may ask for pages
pub record MayAsk (hall : SoloView) (party : Party) : Type 0 where
  pub waits : MayWait hall party
  pub holds : IsSome (part_in hall.plain party.me 0).holding
  pub settled : HasSettledAsks (part_in hall.plain party.me) (heard_in hall.plain)

-- heap 0 in the hand of one that has these parts: it takes pages, and has those that its holding names
pub record IsInHand (parts : ℕ → HeapPart) (heap : PlainHeap) : Type 0 where
  pub index : heap.index ≡ 0
  pub serves : IsSome heap.serves
  pub chunks : heap.chunks ≡ []
  pub holding : Holding
  pub held : (parts 0).holding ≡ Some holding
  pub pages : HasPages heap.pages holding.owned

-- a run was cut from heap 0, which is in the hand of one that has these parts, and may be given up
abbrev pub MayGiveUp : (ℕ → HeapPart) → Run → Type 0
MayGiveUp parts run = (holding : Holding) × (left : PlainHeap) × ((parts 0).holding ≡ Some holding) × IsCutFrom 0 run holding left
