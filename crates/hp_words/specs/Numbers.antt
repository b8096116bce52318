-- The numbers among words.
use Rattle.std.specs.Prelude.{ℕ, Bool, ◌&&◌, nat_lt, nat_le, List, length, Option, Some, None, if◌then◌else◌}
use Rattle.std.specs.List.{list_all}
use Rattle.std.specs.Char.{digit_value}
use Rattle.std.specs.Str.Parse.{digits_value}

-- one decimal digit or more, and nothing else
abbrev pub is_numeral : List ℕ → Bool
is_numeral word = nat_lt 0 (length word) && list_all (λ digit. nat_lt (digit_value digit) 10) word

-- the number that a word writes, where it is one of the range
unfoldable pub number_within : ℕ → ℕ → List ℕ → Option ℕ
number_within least most word =
    if is_numeral word && (nat_le least (digits_value 10 word) && nat_le (digits_value 10 word) most) then Some (digits_value 10 word) else None
