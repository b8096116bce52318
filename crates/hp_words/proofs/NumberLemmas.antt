-- What parsing a word says of the number that it writes.
use Rattle.std.proofs.Common.{◌≡◌, ◌≢◌, ℕ, ◌^◌, ◌<◌, ◌≤◌, Bool, true, false, cond, ◌&&◌, List, [], ◌∷◌, length, get_or, refl, sym, ap, subst, rules, arith}
use Rattle.std.specs.Prelude.{nat_lt, nat_le, Some, None, Result, Ok, Err, slice_index, ◌==◌}
use Rattle.std.specs.List.{list_all}
use Rattle.std.specs.Char.{digit_value}
use Rattle.std.specs.Result.{OkIff}
use Rattle.std.specs.Str.Parse.{ParsesUnsigned, digits_value}
use Rattle.std.proofs.lemmas.Bool.{le-leb, lt-ltb}
use Rattle.std.proofs.lemmas.Str.Parse.{IsNumeralModel, numerals_by_value, parse_plain}
use Rattle.hp_words.specs.Numbers.{is_numeral, number_within}

abbrev all_digits : List ℕ → Bool
all_digits = list_all (λ digit. nat_lt (digit_value digit) 10)

own : IsNumeralModel (λ ds. all_digits ds ≡ true) (digits_value 10)
own = numerals_by_value (λ ds. all_digits ds ≡ true) (search rules)

-- a plus is no digit
pub none_of_plus : (least most : ℕ) (word : List ℕ) → (slice_index word 0 == 43) ≡ true → number_within least most word ≡ None
unfolding number_within
none_of_plus least most [] plus = refl
none_of_plus least most (first ∷ rest) plus = grind arith

abbrev test : ℕ → ℕ → List ℕ → Bool
test least most word = is_numeral word && (nat_le least (digits_value 10 word) && nat_le (digits_value 10 word) most)

and_true : (a b : Bool) → (a && b) ≡ true → (a ≡ true) × (b ≡ true)
and_true true b both = (refl, both)
and_true false b both = absurd cc

none_if : (b : Bool) (n : ℕ) → (b ≡ true → ⊥) → cond b (Some n) None ≡ None
none_if true n never = absurd (never refl)
none_if false n never = refl

no_plus_first : (word : List ℕ) → (slice_index word 0 == 43) ≡ false → get_or word 0 0 ≢ 43
no_plus_first word other is = grind arith

module _ {E : Type 0} (least most : ℕ) (word : List ℕ) (other : (slice_index word 0 == 43) ≡ false) (r : Result ℕ E) (parses : ParsesUnsigned 64 10 word r) where
  parsed : OkIff r ((all_digits word ≡ true) × (0 < length word) × (digits_value 10 word < 2 ^ 64)) (digits_value 10 word)
  parsed = parse_plain own 64 word r parses (no_plus_first word other)

  parsed_ok : (n : ℕ) → r ≡ Ok n → OkIff {E = E} (Ok n) ((all_digits word ≡ true) × (0 < length word) × (digits_value 10 word < 2 ^ 64)) (digits_value 10 word)
  parsed_ok n is = subst (λ (r : Result ℕ E). OkIff r ((all_digits word ≡ true) × (0 < length word) × (digits_value 10 word < 2 ^ 64)) (digits_value 10 word)) is parsed

  pub some_of_parsed : (n : ℕ) → r ≡ Ok n → least ≤ n → n ≤ most → Some n ≡ number_within least most word
  unfolding number_within
  some_of_parsed n is above below =
      let got = parsed_ok n is in
      let digits : all_digits word ≡ true = got.0.0 in
      let some : nat_lt 0 (length word) ≡ true = lt-ltb 0 (length word) got.0.1 in
      let same : n ≡ digits_value 10 word = got.1 in
      let at_least : nat_le least (digits_value 10 word) ≡ true = le-leb least (digits_value 10 word) (omega (arith, same, above)) in
      let at_most : nat_le (digits_value 10 word) most ≡ true = le-leb (digits_value 10 word) most (omega (arith, same, below)) in
      rw (digits, some, at_least, at_most) (ap Some same)

  pub none_of_low : (n : ℕ) → r ≡ Ok n → n < least → None ≡ number_within least most word
  unfolding number_within
  none_of_low n is low =
      let same : n ≡ digits_value 10 word = (parsed_ok n is).1 in
      sym (none_if (test least most word) (digits_value 10 word) (λ is. (let range = (and_true (is_numeral word) _ is).1 in let above = (and_true (nat_le least (digits_value 10 word)) _ range).0 in grind (arith, same, low, above))))

  pub none_of_high : (n : ℕ) → r ≡ Ok n → most < n → None ≡ number_within least most word
  unfolding number_within
  none_of_high n is high =
      let same : n ≡ digits_value 10 word = (parsed_ok n is).1 in
      sym (none_if (test least most word) (digits_value 10 word) (λ is. (let range = (and_true (is_numeral word) _ is).1 in let below = (and_true (nat_le least (digits_value 10 word)) _ range).1 in grind (arith, same, high, below))))

  parsed_err : (e : E) → r ≡ Err e → ((all_digits word ≡ true) × (0 < length word) × (digits_value 10 word < 2 ^ 64)) → ⊥
  parsed_err e is = subst (λ (r : Result ℕ E). OkIff r ((all_digits word ≡ true) × (0 < length word) × (digits_value 10 word < 2 ^ 64)) (digits_value 10 word)) is parsed

  pub none_of_error : (e : E) → r ≡ Err e → most < 2 ^ 64 → None ≡ number_within least most word
  unfolding number_within
  none_of_error e is fits =
      sym (none_if (test least most word) (digits_value 10 word) (λ passes.
      (let both = and_true (is_numeral word) _ passes in
      let numeral = and_true (nat_lt 0 (length word)) _ both.0 in
      let below = (and_true (nat_le least (digits_value 10 word)) _ both.1).1 in
      let some = numeral.0 in
      parsed_err e is (numeral.1, grind (arith, some), grind (arith, below, fits)))))
