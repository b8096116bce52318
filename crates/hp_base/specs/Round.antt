-- Rounding to a unit: the rule "Rounding" of docs/HEAP.md.
use Rattle.std.specs.Prelude.{ℕ, ◌*◌, ◌/◌, ◌^◌, Option, Some, None, nat_lt, if◌then◌else◌}
use Rattle.std.specs.Int.{div_ceil}

-- n rounded down: the greatest multiple of the unit that is at most n ("Rounding")
abbrev pub floor_of : ℕ → ℕ → ℕ
floor_of n unit = n / unit * unit

-- n rounded up: the least multiple of the unit that is at least n ("Rounding")
abbrev pub ceil_of : ℕ → ℕ → ℕ
ceil_of n unit = div_ceil n unit * unit

-- a number of 64 bits, or that it is none ("Rounding")
abbrev pub fitting : ℕ → Option ℕ
fitting n = if nat_lt n (2 ^ 64) then Some n else None
