-- The slots of a hall: the rule "Halls" of docs/PARTICIPANTS.md.
use Rattle.std.specs.Prelude.{ℕ, ◌<◌, ⊤}
use Rattle.hp_base.specs.declared.limits.TheConstants.{MAX_HEAPS}
use Rattle.hp_hall.specs.declared.slot.Slot.{Slot}
use Rattle.hp_hall.specs.declared.slot.Slot.TheVariants.{Heap, NamesSlot, Segments}
use Rattle.hp_hall.specs.declared.slot.TheConstants.{NAMES_SLOT, SLOTS}

-- the index in a heap's slot is that of a heap
abbrev pub IsSlot : Slot → Type 0
IsSlot (Heap index) = index < MAX_HEAPS
IsSlot Segments = ⊤
IsSlot NamesSlot = ⊤

-- a slot's number: the heaps' by index, after them the segment value's, and after that the names'
abbrev pub slot_number : Slot → ℕ
slot_number (Heap index) = index
slot_number Segments = MAX_HEAPS
slot_number NamesSlot = NAMES_SLOT

-- the number is that of a slot
abbrev pub IsSlotNumber : ℕ → Type 0
IsSlotNumber number = number < SLOTS
