-- Decimal numbers, as they are written and as a workload is read.
use Rattle.std.proofs.Common.{◌≡◌, ℕ, ◌-◌, ◌^◌, ◌<◌, ◌≤◌, Bool, true, false, ◌&&◌, List, [], ◌∷◌, length, refl, ap, ◌∙◌, arith}
use Rattle.std.specs.Prelude.{Some, None, nat_lt, nat_eq, slice_index, codes}
use Rattle.std.specs.Char.{digit_value, is_ascii_digit}
use Rattle.std.specs.Fmt.{decimal}
use Rattle.std.specs.List.{list_all, starts_with}
use Rattle.std.specs.Str.Parse.{AllDigits, digits_value}
use Rattle.std.proofs.lemmas.Bool.Decides.{nat_tests}
use Rattle.std.proofs.lemmas.Fmt.{decimal_is_IsNumeral, length-decimal-le}
use Rattle.std.proofs.lemmas.Str.Parse.{digit_from_value, digit_at}
use Rattle.hp_script.specs.Numbers.{numeral, number, unit_of}
use Rattle.hp_script.specs.Words.{is_visible, IsWord}
use Rattle.hp_script.proofs.NumberLemmas.{numeral_of_all}

-- what holds of the bytes of digits holds of a text of digits
pub all_digits : (p : ℕ → Bool) → ((byte : ℕ) → 48 ≤ byte → byte ≤ 57 → p byte ≡ true) → (ds : List ℕ) → AllDigits 10 ds → list_all p ds ≡ true
all_digits p passes [] digits = refl
all_digits p passes (d ∷ ds) digits =
    let range = digit_from_value d digits.0 in
    rw (passes d range.0 range.1, all_digits p passes ds digits.1) refl

module _ (n : ℕ) (fits : n < 2 ^ 64) where
  pub decimal_digits : AllDigits 10 (decimal n)
  decimal_digits = (decimal_is_IsNumeral n fits).0.1

  pub decimal_filled : 0 < length (decimal n)
  decimal_filled = (decimal_is_IsNumeral n fits).0.0

  -- it is read as a number in decimal digits
  pub numeral_decimal : numeral 10 (decimal n) ≡ Some n
  numeral_decimal =
      let value : digits_value 10 (decimal n) ≡ n = (decimal_is_IsNumeral n fits).1 in
      numeral_of_all 10 (decimal n) decimal_filled (all_digits (λ digit. nat_lt (digit_value digit) 10) (λ byte low high. grind (arith, nat_tests, low, high)) (decimal n) decimal_digits) (rw value fits)
      ∙ ap (λ m. Some m) value

  -- its first byte is a digit
  pub decimal_first : is_ascii_digit (slice_index (decimal n) 0) ≡ true
  decimal_first =
      let range = digit_at (decimal n) 0 decimal_digits decimal_filled in
      grind (arith, nat_tests, range.0, range.1)

  pub decimal_not_hash : nat_eq (slice_index (decimal n) 0) 35 ≡ false
  decimal_not_hash =
      let range = digit_at (decimal n) 0 decimal_digits decimal_filled in
      grind (arith, nat_tests, range.0)

  -- it is a word
  pub decimal_word : IsWord (decimal n)
  decimal_word = record {
    filled = omega (arith, decimal_filled);
    short = let few = length-decimal-le 20 n (omega arith) (omega (arith, fits)) fits in omega (arith, few);
    visible = all_digits is_visible (λ byte low high. grind (arith, nat_tests, low, high)) (decimal n) decimal_digits;
  }

pub never : (test : Bool) → (test && false) ≡ false
never true = refl
never false = refl

-- digits do not begin with `0x`
not_hex : (ds : List ℕ) → AllDigits 10 ds → starts_with nat_eq ds (codes "0x") ≡ false
not_hex [] digits = refl
not_hex (d ∷ []) digits = never (nat_eq 48 d)
not_hex (d ∷ e ∷ ds) digits =
    let range = digit_from_value e digits.1.0 in
    let second : nat_eq 120 e ≡ false = grind (arith, nat_tests, range.1) in
    rw second (never (nat_eq 48 d))

-- a digit is no unit
no_unit : (byte : ℕ) → byte ≤ 57 → unit_of byte ≡ None
no_unit byte high =
    let k : nat_eq byte 75 ≡ false = grind (arith, nat_tests, high) in
    let m : nat_eq byte 77 ≡ false = grind (arith, nat_tests, high) in
    let g : nat_eq byte 71 ≡ false = grind (arith, nat_tests, high) in
    rw (k, m, g) refl

-- it is read as a number of a field
pub number_decimal : (n : ℕ) → n < 2 ^ 64 → number (decimal n) ≡ Some n
unfolding number
number_decimal n fits =
    let digits = decimal_digits n fits in
    let filled = decimal_filled n fits in
    let last = digit_at (decimal n) (length (decimal n) - 1) digits (omega (arith, filled)) in
    rw (not_hex (decimal n) digits, no_unit (slice_index (decimal n) (length (decimal n) - 1)) last.1) (numeral_decimal n fits)
