-- What digits write, as far as a loop has come.
use Rattle.std.proofs.Common.{◌≡◌, ℕ, suc, zero, ◌+◌, ◌*◌, ◌<◌, ◌≤◌, Bool, true, false, List, [], ◌∷◌, length, get_or, take, refl, arith}
use Rattle.std.specs.Prelude.{nat_lt, nat_le, Option, Some, None, cond}
use Rattle.std.specs.List.{list_all}
use Rattle.std.specs.Char.{digit_value}
use Rattle.std.specs.Str.Parse.{digits_value}
use Rattle.std.proofs.lemmas.List.Folds.{list_all_more}
use Rattle.std.proofs.lemmas.Int.Digits.{digits_value_more}
use Rattle.std.proofs.lemmas.Str.Parse.{digits_value-take-le}
use Rattle.hp_command.specs.Words.{is_numeral, number_within}

-- a test that one element fails is not passed by all
list_all_fails : {X : Type 0} (p : X → Bool) (xs : List X) (i : ℕ) (d : X) → i < length xs → p (get_or xs i d) ≡ false → list_all p xs ≡ false
list_all_fails p [] i d within fails = grind arith
list_all_fails p (x ∷ xs) zero d within fails = grind arith
list_all_fails p (x ∷ xs) (suc i) d within fails =
    let step : list_all p xs ≡ false = list_all_fails p xs i d (omega arith) fails in grind arith

-- no digit is no number
pub none_of_none : (least most : ℕ) (word : List ℕ) → length word ≡ 0 → number_within least most word ≡ None
unfolding number_within
none_of_none least most [] none = refl
none_of_none least most (digit ∷ word) none = absurd (omega arith)

-- a byte that is no digit
pub none_of_bad_digit : (least most : ℕ) (word : List ℕ) (i : ℕ) → i < length word → 10 ≤ digit_value (get_or word i 0) → number_within least most word ≡ None
unfolding number_within
none_of_bad_digit least most word i within above =
    let test : nat_lt (digit_value (get_or word i 0)) 10 ≡ false = grind arith in
    let fails : list_all (λ digit. nat_lt (digit_value digit) 10) word ≡ false = list_all_fails (λ digit. nat_lt (digit_value digit) 10) word i 0 within test in
    grind arith

-- digits so far whose number is past the range
pub none_of_large : (least most : ℕ) (word : List ℕ) (i : ℕ) → i ≤ length word → most < digits_value 10 (take i word) → number_within least most word ≡ None
unfolding number_within
none_of_large least most word i within large =
    let whole : most < digits_value 10 word = omega (arith, large, digits_value-take-le 10 word i (omega arith)) in
    grind arith

-- all digits, and too few
pub none_of_small : (least most : ℕ) (word : List ℕ) → digits_value 10 word < least → number_within least most word ≡ None
unfolding number_within
none_of_small least most word small = grind arith

-- all digits
pub some_of_all : (least most : ℕ) (word : List ℕ) → 0 < length word → list_all (λ digit. nat_lt (digit_value digit) 10) word ≡ true → least ≤ digits_value 10 word
    → digits_value 10 word ≤ most → number_within least most word ≡ Some (digits_value 10 word)
unfolding number_within
some_of_all least most word some all above below = grind arith

-- one digit more
pub one_more : (word : List ℕ) (i value digit : ℕ) → digit ≡ digit_value (get_or word i 0) → i < length word → value ≡ digits_value 10 (take i word)
    → value * 10 + digit ≡ digits_value 10 (take (i + 1) word)
one_more word i value digit digit_is within value_is =
    let more = digits_value_more 10 word i within in
    omega (arith, more, digit_is, value_is)

pub all_more : (word : List ℕ) (i : ℕ) → digit_value (get_or word i 0) < 10 → i < length word → list_all (λ digit. nat_lt (digit_value digit) 10) (take i word) ≡ true
    → list_all (λ digit. nat_lt (digit_value digit) 10) (take (i + 1) word) ≡ true
all_more word i below within all =
    let pass = list_all_more (λ digit. nat_lt (digit_value digit) 10) word i 0 within in
    rw pass (grind (arith, below, all))
