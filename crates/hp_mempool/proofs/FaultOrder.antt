-- What is right of a pool against which no fault stands.
use Rattle.std.proofs.Common.{◌*◌, ◌<◌, ◌≤◌, refl, inl, inr, arith}
use Rattle.std.proofs.lemmas.Bool.{cases_lt}
use Rattle.hp_mempool.specs.declared.fault.PoolFault.TheVariants.{BadCount, TooSmall}
use Rattle.hp_mempool.specs.Asked.{Asked, IsAcceptable, stride_of}

-- a pool against which nothing stands is within the limits and fits
pub is_right : (asked : Asked) → IsAcceptable asked → (0 < asked.count) × (asked.count * stride_of asked.size ≤ asked.have)
is_right asked acceptable = (
  elim (cases_lt 0 asked.count) [
    | inl some ↦ some
    | inr none ↦ absurd (acceptable (BadCount asked.count) (omega arith) (refl, inl (omega (arith, none))))
  ],
  elim (cases_lt asked.have (asked.count * stride_of asked.size)) [
    | inl less ↦ absurd (acceptable (TooSmall asked.have (asked.count * stride_of asked.size)) (omega arith) (refl, refl, less))
    | inr fits ↦ fits
  ],
)
