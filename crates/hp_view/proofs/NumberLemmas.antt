-- What digits of a radix write, as far as a loop has come.
use Rattle.std.proofs.Common.{◌≡◌, ℕ, suc, zero, ◌+◌, ◌*◌, ◌^◌, ◌<◌, ◌≤◌, Bool, true, false, List, [], ◌∷◌, length, get_or, take, refl, arith}
use Rattle.std.specs.Prelude.{nat_lt, Option, Some, None, cond}
use Rattle.std.specs.List.{list_all}
use Rattle.std.specs.Char.{digit_value}
use Rattle.std.specs.Str.Parse.{digits_value}
use Rattle.std.proofs.lemmas.Int.Digits.{digits_value_more}
use Rattle.std.proofs.lemmas.Str.Parse.{digits_value-take-le}
use Rattle.hp_base.specs.Round.{fitting}
use Rattle.hp_view.specs.Form.{is_numeral, numeral}

-- a test that one element fails is not passed by all
list_all_fails : {X : Type 0} (p : X → Bool) (xs : List X) (i : ℕ) (d : X) → i < length xs → p (get_or xs i d) ≡ false → list_all p xs ≡ false
list_all_fails p [] i d within fails = grind arith
list_all_fails p (x ∷ xs) zero d within fails = grind arith
list_all_fails p (x ∷ xs) (suc i) d within fails =
    let step : list_all p xs ≡ false = list_all_fails p xs i d (omega arith) fails in grind arith

-- no digit is no number
pub numeral_of_none : (radix : ℕ) (digits : List ℕ) → length digits ≡ 0 → numeral radix digits ≡ None
unfolding numeral
numeral_of_none radix [] none = refl
numeral_of_none radix (digit ∷ digits) none = absurd (omega arith)

-- a byte that is no digit
pub numeral_of_bad_digit : (radix : ℕ) (digits : List ℕ) (i : ℕ) → i < length digits → radix ≤ digit_value (get_or digits i 0) → numeral radix digits ≡ None
unfolding numeral
numeral_of_bad_digit radix digits i within above =
    let test : nat_lt (digit_value (get_or digits i 0)) radix ≡ false = grind arith in
    let fails : list_all (λ digit. nat_lt (digit_value digit) radix) digits ≡ false = list_all_fails (λ digit. nat_lt (digit_value digit) radix) digits i 0 within test in
    grind arith

-- a number past 64 bits is none
fitting-large : (n : ℕ) → 2 ^ 64 ≤ n → fitting n ≡ None
fitting-large n large = grind arith

test_fails : (b : Bool) (n : ℕ) → cond b (Some n) None ≡ None → b ≡ false
test_fails true n none = absurd cc
test_fails false n none = refl

large-from_fitting : (n : ℕ) → fitting n ≡ None → 2 ^ 64 ≤ n
large-from_fitting n none =
    let fails : nat_lt n (2 ^ 64) ≡ false = test_fails (nat_lt n (2 ^ 64)) n none in grind arith

cond_none : (b : Bool) (r : Option ℕ) → r ≡ None → cond b r None ≡ None
cond_none true r none = none
cond_none false r none = refl

-- digits so far whose number passes 64 bits
pub numeral_of_large : (radix : ℕ) (digits : List ℕ) (i : ℕ) → 1 ≤ radix → i < length digits → fitting (digits_value radix (take i digits) * radix + digit_value (get_or digits i 0)) ≡ None → numeral radix digits ≡ None
unfolding numeral
numeral_of_large radix digits i some within none =
    let large = large-from_fitting (digits_value radix (take i digits) * radix + digit_value (get_or digits i 0)) none in
    let more : 2 ^ 64 ≤ digits_value radix (take (i + 1) digits) = rw (digits_value_more radix digits i within) large in
    let whole : 2 ^ 64 ≤ digits_value radix digits = omega (arith, more, digits_value-take-le radix digits (i + 1) some) in
    cond_none (is_numeral radix digits) (fitting (digits_value radix digits)) (fitting-large (digits_value radix digits) whole)

-- all digits
pub numeral_of_all : (radix : ℕ) (digits : List ℕ) → 0 < length digits → list_all (λ digit. nat_lt (digit_value digit) radix) digits ≡ true → digits_value radix digits < 2 ^ 64
    → numeral radix digits ≡ Some (digits_value radix digits)
unfolding numeral
numeral_of_all radix digits some all fits = grind arith

-- the number with one digit more, where it fits
pub fits_is : (m n : ℕ) → Some m ≡ fitting n → (m ≡ n) × (n < 2 ^ 64)
fits_is m n same = chosen_fits (nat_lt n (2 ^ 64)) refl same
  where
    chosen_fits : (b : Bool) → nat_lt n (2 ^ 64) ≡ b → Some m ≡ cond b (Some n) None → (m ≡ n) × (n < 2 ^ 64)
    chosen_fits true below chosen = (cc, grind (arith, below))
    chosen_fits false below chosen = absurd cc
