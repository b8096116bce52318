-- A pool with enough pages refuses none.
use Rattle.std.proofs.Common.{◌≡◌, ◌↔◌, ℕ, ◌<◌, ◌≤◌, true, Option, Some, None, Result, Ok, Err, IsSomeAnd, IsNone, is_err, refl, arith}
use Rattle.hp_pool.specs.declared.fault.TakeFault.{TakeFault}
use Rattle.hp_pool.specs.declared.fault.TakeFault.TheVariants.{NoPool, TooFew}

pub enough_taken : {T : Type 0} (o : Option ℕ) (n : ℕ) (result : Result T TakeFault) → IsSomeAnd o (λ have. n ≤ have)
    → ((result ≡ Err NoPool) ↔ IsNone o)
    → ((have need : ℕ) → (result ≡ Err (TooFew have need)) ↔ ((o ≡ Some have) × (need ≡ n) × (have < n)))
    → is_err result ≡ true → ⊥
enough_taken None n result enough none few err = absurd enough
enough_taken (Some have) n (Ok v) enough none few err = cc
enough_taken (Some have) n (Err NoPool) enough none few err = let gone = none.0 refl in cc
enough_taken (Some have) n (Err (TooFew less need)) enough none few err =
    let short = (few less need).0 refl in
    let same : have ≡ less = cc in
    absurd (omega (arith, short.2, enough, same))
