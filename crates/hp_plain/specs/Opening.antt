-- How a hall of plain values opens and ends: the rule "Halls" of docs/PARTICIPANTS.md.
use Rattle.std.specs.Prelude.{◌≡◌, ℕ, ◌<◌, List, [], Contains, Some, None, length, map, slice_get}
use Rattle.std.specs.Option.{option_map_or}
use Rattle.hp_base.specs.declared.limits.TheConstants.{MAX_HEAPS}
use Rattle.hp_heap.specs.History.{HeapView}
use Rattle.hp_heap.specs.PlainHeap.{opening_heap}
use Rattle.hp_segs.specs.LaterSteps.{armed_ask}
use Rattle.hp_segs.specs.SegsView.{SegsView, granted_by}
use Rattle.hp_segs.specs.SettledAsks.{IsSettled}
use Rattle.hp_segs.specs.Standing.{IsArmed, standing_of}
use Rattle.hp_segs.specs.declared.ask.Ask.{Ask}
use Rattle.hp_segs.specs.declared.outcome.AskLog.{AskLog}
use Rattle.hp_hall.specs.declared.slot.TheConstants.{SLOTS}
use Rattle.hp_hall.specs.AgreedNames.{AreAgreedNames}
use Rattle.hp_hall.specs.Holding.{HasHolding}
use Rattle.hp_hall.specs.Naming.{Naming, naming_of}
use Rattle.hp_hall.specs.Views.{HeldHeap}
use Rattle.hp_zone.specs.declared.names.Names.{Names as NamesView}
use Rattle.hp_plain.specs.HallSteps.{opening_hall, slots_of}
use Rattle.hp_plain.specs.HallView.{HallView, IsHome, SlotView, slot_at}

-- the heaps of a hall: one for each slot of a heap, in the order of their indexes
pub record AreInOrder (heaps : List HeapView) : Type 0 where
  pub count : length heaps ≡ MAX_HEAPS
  pub index : (number : ℕ) (heap : HeapView) → slice_get heaps number ≡ Some heap → heap.plain.index ≡ number

-- no call was made of these heaps yet
abbrev pub AreUnused : List HeapView → Type 0
AreUnused heaps = (number : ℕ) (heap : HeapView) → slice_get heaps number ≡ Some heap → heap.history ≡ []

-- what names speak of, of each of these heaps; of what is none, as of a heap without a name
abbrev pub namings_of : List HeapView → ℕ → Naming
namings_of heaps index = option_map_or (λ heap. naming_of heap.plain) (slice_get heaps index) (naming_of (opening_heap index None))

-- a hall may open with these heaps, this segment value and these names: each heap has what the value has for it, the value's growth and outcomes
-- are of armed asks, each of these is settled, and no record was granted, since nobody has acknowledged one; and the names agree with the heaps
-- and with the external memory that is claimed
pub record MayOpenWith (heaps : List HeapView) (segs : SegsView) (names : NamesView) : Type 0 where
  pub held : (number : ℕ) (heap : HeapView) → slice_get heaps number ≡ Some heap → HasHolding heap (standing_of number segs)
  pub armed : IsArmed segs
  pub settled : (who : ℕ) (ask : Ask) → armed_ask segs who ≡ Some ask → IsSettled ask.from ask.number segs
  pub ungranted : (entry : AskLog) → Contains segs.asks entry → granted_by entry.outcome ≡ None
  pub agrees : AreAgreedNames names (namings_of heaps) segs.ranges

-- the heaps, and their pens
abbrev pub heaps_in : List HeldHeap → List HeapView
heaps_in held = map (λ one. one.heap) held

-- by none of the pens anything was published
abbrev pub AreUnpublished : List HeldHeap → Type 0
AreUnpublished held = (number : ℕ) (one : HeldHeap) → slice_get held number ≡ Some one → one.pen.published ≡ []

-- a hall opens with these values, and a pen beside each heap by which nothing was published
pub record OpensWith (participants : ℕ) (heaps : List HeapView) (segs : SegsView) (names : NamesView) (hall : HallView) : Type 0 where
  pub held : List HeldHeap
  pub heaps_are : heaps_in held ≡ heaps
  pub unpublished : AreUnpublished held
  pub hall_is : hall ≡ opening_hall participants held segs names

-- of these slots, each with its value, these values are handed out
pub record HandsOut (slots : List SlotView) (heaps : List HeapView) (segs : SegsView) (names : NamesView) : Type 0 where
  pub held : List HeldHeap
  pub heaps_are : heaps_in held ≡ heaps
  pub slots_are : slots ≡ slots_of held segs names

-- every value is there
abbrev pub AreHome : HallView → Type 0
AreHome hall = (number : ℕ) → number < SLOTS → IsHome (slot_at hall number)
