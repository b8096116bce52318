-- What stands against a ring, and which of it is named.
use Rattle.std.specs.Prelude.{◌≡◌, ℕ, ⊤, ◌⊎◌, ◌+◌, ◌*◌, ◌<◌}
use Rattle.hp_base.specs.Requests.{rounded_size}
use Rattle.hp_ring.specs.declared.fault.RingFault.{RingFault}
use Rattle.hp_ring.specs.declared.fault.RingFault.TheVariants.{BadSlots, BadSenders, TooSmall, OutOfMemory}
use Rattle.hp_ring.specs.declared.judging.TheConstants.{MAX_SENDERS, MAX_SLOTS, RING_HEADER, SLOT_BYTES}

-- for how many bulks of how many senders a ring is to have room, and how long the zone is
pub record Asked : Type 0 where
  pub slots : ℕ
  pub senders : ℕ
  pub have : ℕ

abbrev pub asked_of : ℕ → ℕ → ℕ → Asked
asked_of slots senders have = record { slots = slots; senders = senders; have = have }

-- a header and the slots, in whole cache lines
abbrev pub bytes_of : ℕ → ℕ
bytes_of slots = rounded_size (RING_HEADER + slots * SLOT_BYTES)

-- a fault stands against a ring, whatever else does
abbrev pub StandsAgainst : Asked → RingFault → Type 0
StandsAgainst asked (BadSlots slots) = (slots ≡ asked.slots) × ((slots ≡ 0) ⊎ (MAX_SLOTS < slots))
StandsAgainst asked (BadSenders senders) = (senders ≡ asked.senders) × ((senders ≡ 0) ⊎ (MAX_SENDERS < senders))
StandsAgainst asked (TooSmall have need) = (have ≡ asked.have) × (need ≡ bytes_of asked.slots) × (have < need)
StandsAgainst asked OutOfMemory = ⊤

-- the order in which faults are judged
abbrev pub turn_of : RingFault → ℕ
turn_of (BadSlots slots) = 1
turn_of (BadSenders senders) = 2
turn_of (TooSmall have need) = 3
turn_of OutOfMemory = 4

-- the fault is the first that stands against the ring
pub record IsFirstFault (asked : Asked) (fault : RingFault) : Type 0 where
  pub stands : StandsAgainst asked fault
  pub first : (earlier : RingFault) → turn_of earlier < turn_of fault → ¬ StandsAgainst asked earlier

-- nothing stands against the ring but want of memory
abbrev pub IsAcceptable : Asked → Type 0
IsAcceptable asked = (fault : RingFault) → turn_of fault < 4 → ¬ StandsAgainst asked fault
