-- The number of a slot is one of the board's.
use Rattle.std.proofs.Common.{◌<◌, arith}
use Rattle.hp_hall.specs.Slots.{IsSlot, slot_number}
use Rattle.hp_hall.specs.declared.slot.Slot.{Slot}
use Rattle.hp_hall.specs.declared.slot.Slot.TheVariants.{Heap, NamesSlot, Segments}
use Rattle.hp_board.specs.declared.words.TheConstants.{SLOTS}

pub slot_low : (slot : Slot) → IsSlot slot → slot_number slot < SLOTS
slot_low (Heap index) is = omega (arith, is)
slot_low Segments is = omega arith
slot_low NamesSlot is = omega arith
