-- Rounding to a unit: the greatest multiple below, the least above, and that rounding twice is rounding once.
use Rattle.std.proofs.Common.{◌≡◌, ℕ, ◌+◌, ◌-◌, ◌*◌, ◌/◌, ◌%◌, ◌<◌, ◌≤◌, subst, arith, inl, inr}
use Rattle.std.proofs.Math.Nat.{div-mul-le_self, mul-mod_left, div-add-mod', mul-le-mul_right, lt-div-mul-add}
use Rattle.std.proofs.lemmas.Nat.{le-div, div-mul-add}
use Rattle.std.proofs.lemmas.Grind.{div_ceil_times}
use Rattle.std.proofs.lemmas.Bool.{cases_lt}
use Rattle.std.specs.Int.{div_ceil}
use Rattle.hp_base.specs.Round.{floor_of, ceil_of}

pub multiple_is : (m unit : ℕ) → m % unit ≡ 0 → m / unit * unit ≡ m
multiple_is m unit aligned = omega (arith, div-add-mod' m unit)

pub div_monotone : (m n unit : ℕ) → 0 < unit → m ≤ n → m / unit ≤ n / unit
div_monotone m n unit some below = le-div (m / unit) n unit some (omega (arith, div-mul-le_self m unit))

pub floor_below : (n unit : ℕ) → floor_of n unit ≤ n
floor_below n unit = div-mul-le_self n unit

pub floor_aligned : (n unit : ℕ) → floor_of n unit % unit ≡ 0
floor_aligned n unit = mul-mod_left (n / unit) unit

pub floor_above : (n unit : ℕ) → 0 < unit → n < floor_of n unit + unit
floor_above n unit some = lt-div-mul-add some

-- no multiple at most n is above the floor
pub floor_greatest : (n unit m : ℕ) → 0 < unit → m % unit ≡ 0 → m ≤ n → m ≤ floor_of n unit
floor_greatest n unit m some aligned below =
    let quotients : m / unit ≤ n / unit = div_monotone m n unit some below in
    omega (arith, multiple_is m unit aligned, mul-le-mul_right unit quotients)

-- a number within the unit from a multiple on has its quotient
pub quotient_is : (n unit q : ℕ) → q * unit ≤ n → n < q * unit + unit → n / unit ≡ q
quotient_is n unit q from before =
    let rest : n - q * unit < unit = omega arith in
    let whole : q * unit + (n - q * unit) ≡ n = omega arith in
    subst (λ (m : ℕ). m / unit ≡ q) whole (div-mul-add q unit (n - q * unit) rest)

pub ceil_above : (n unit : ℕ) → 0 < unit → n ≤ ceil_of n unit
ceil_above n unit some = (div_ceil_times n unit some).0

pub ceil_below : (n unit : ℕ) → 0 < unit → ceil_of n unit < n + unit
ceil_below n unit some = (div_ceil_times n unit some).1

pub ceil_aligned : (n unit : ℕ) → ceil_of n unit % unit ≡ 0
ceil_aligned n unit = mul-mod_left (div_ceil n unit) unit

-- two multiples less than a unit apart are one
pub aligned_apart : (m n unit : ℕ) → 0 < unit → m % unit ≡ 0 → n % unit ≡ 0 → m < n + unit → m ≤ n
aligned_apart m n unit some m_aligned n_aligned near =
    let quotient : m / unit ≤ n / unit = elim (cases_lt (n / unit) (m / unit)) [
      | inl above ↦ absurd (
          let step : (n / unit + 1) * unit ≤ m / unit * unit = mul-le-mul_right unit (omega arith) in
          omega (arith, multiple_is m unit m_aligned, multiple_is n unit n_aligned))
      | inr below ↦ below
    ] in
    omega (arith, multiple_is m unit m_aligned, multiple_is n unit n_aligned, mul-le-mul_right unit quotient)

-- no multiple at least n is below the ceiling
pub ceil_least : (n unit m : ℕ) → 0 < unit → m % unit ≡ 0 → n ≤ m → ceil_of n unit ≤ m
ceil_least n unit m some aligned above =
    aligned_apart (ceil_of n unit) m unit some (ceil_aligned n unit) aligned (omega (arith, ceil_below n unit some))

-- a multiple is its own ceiling and its own floor
pub ceil_of_aligned : (n unit : ℕ) → 0 < unit → n % unit ≡ 0 → ceil_of n unit ≡ n
ceil_of_aligned n unit some aligned =
    let least : ceil_of n unit ≤ n = ceil_least n unit n some aligned (omega arith) in
    omega (arith, ceil_above n unit some, least)

pub floor_of_aligned : (n unit : ℕ) → n % unit ≡ 0 → floor_of n unit ≡ n
floor_of_aligned n unit aligned = multiple_is n unit aligned

-- rounding twice is rounding once
pub ceil_idempotent : (n unit : ℕ) → 0 < unit → ceil_of (ceil_of n unit) unit ≡ ceil_of n unit
ceil_idempotent n unit some = ceil_of_aligned (ceil_of n unit) unit some (ceil_aligned n unit)

pub floor_idempotent : (n unit : ℕ) → floor_of (floor_of n unit) unit ≡ floor_of n unit
floor_idempotent n unit = floor_of_aligned (floor_of n unit) unit (floor_aligned n unit)
