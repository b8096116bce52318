-- What is right of a ring against which no fault stands.
use Rattle.std.proofs.Common.{◌<◌, refl, inl, inr, arith}
use Rattle.std.proofs.lemmas.Bool.{cases_lt}
use Rattle.hp_ring.specs.declared.fault.RingFault.TheVariants.{BadSlots}
use Rattle.hp_ring.specs.Asked.{Asked, IsAcceptable}

-- a ring against which nothing stands has a slot
pub has_slots : (asked : Asked) → IsAcceptable asked → 0 < asked.slots
has_slots asked acceptable = elim (cases_lt 0 asked.slots) [
  | inl some ↦ some
  | inr none ↦ absurd (acceptable (BadSlots asked.slots) (omega arith) (refl, inl (omega (arith, none))))
]
