-- The numbers of a workload.
use Rattle.std.specs.Prelude.{ℕ, ◌-◌, ◌*◌, ◌^◌, Bool, ◌&&◌, ◌==◌, nat_lt, nat_eq, List, length, take, drop, slice_index, Option, Some, None, if◌then◌else◌, codes}
use Rattle.std.specs.List.{list_all, starts_with}
use Rattle.std.specs.Option.{option_and_then}
use Rattle.std.specs.Char.{digit_value}
use Rattle.std.specs.Str.Parse.{digits_value}
use Rattle.hp_base.specs.Round.{fitting}

-- one digit or more in the radix, and nothing else
abbrev pub is_numeral : ℕ → List ℕ → Bool
is_numeral radix digits = nat_lt 0 (length digits) && list_all (λ digit. nat_lt (digit_value digit) radix) digits

-- the number of at most 64 bits that the digits write
unfoldable pub numeral : ℕ → List ℕ → Option ℕ
numeral radix digits = if is_numeral radix digits then fitting (digits_value radix digits) else None

-- what the last letter K, M or G stands for
abbrev pub unit_of : ℕ → Option ℕ
unit_of letter = if letter == 75 then Some (2 ^ 10) else (if letter == 77 then Some (2 ^ 20) else (if letter == 71 then Some (2 ^ 30) else None))

-- so many units, where that has at most 64 bits
abbrev pub units : Option ℕ → ℕ → Option ℕ
units count unit = option_and_then (λ n. fitting (n * unit)) count

-- a decimal number with or without a unit after it
abbrev pub scaled : List ℕ → Option ℕ → Option ℕ
scaled text None = numeral 10 text
scaled text (Some unit) = units (numeral 10 (take (length text - 1) text)) unit

-- a number: `0x` and hexadecimal digits, or a decimal number with or without a unit
unfoldable pub number : List ℕ → Option ℕ
number text =
    if starts_with nat_eq text (codes "0x") then numeral 16 (drop 2 text)
    else scaled text (unit_of (slice_index text (length text - 1)))
