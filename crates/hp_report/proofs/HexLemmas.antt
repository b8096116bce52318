-- The hexadecimal digits of a number, two at a time.
use Rattle.std.proofs.Common.{◌≡◌, ℕ, zero, suc, ◌+◌, ◌-◌, ◌*◌, ◌/◌, ◌%◌, ◌^◌, ◌<◌, ◌≤◌, ◌==◌, Bool, true, false, ◌&&◌, cond, T, eqb, List, [], ◌∷◌, ◌++◌, length, get_or, refl, sym, ap, ◌∙◌, arith, inl, inr, append_assoc, length-append, eq-zero-or-pos, eqb→eq, true≢false, eq-eqb}
use Rattle.std.proofs.Math.Nat.{pow-succ'}
use Rattle.std.proofs.lemmas.Bool.{eqb-true}
use Rattle.std.proofs.lemmas.Fmt.{hex_one_digit, hex_two_digits}
use Rattle.std.specs.Fmt.{digit_glyph, digits, digits_onto}
use lib.Ieee.Fits.{and_l, and_r}
use Rattle.hp_report.specs.declared.hex.TheConstants.{PAIRS}

-- the digits in front of others stand as they do alone
onto_append : (k n : ℕ) (behind : List ℕ) → digits_onto k 16 false n behind ≡ digits_onto k 16 false n [] ++ behind
onto_append zero n behind = refl
onto_append (suc k) n behind =
    by_test (n / 16 == 0) (onto_append k (n / 16) (digit_glyph false (n % 16) ∷ behind)) (onto_append k (n / 16) (digit_glyph false (n % 16) ∷ []))
  where
    by_test : (test : Bool) → digits_onto k 16 false (n / 16) (digit_glyph false (n % 16) ∷ behind) ≡ digits_onto k 16 false (n / 16) [] ++ digit_glyph false (n % 16) ∷ behind
        → digits_onto k 16 false (n / 16) (digit_glyph false (n % 16) ∷ []) ≡ digits_onto k 16 false (n / 16) [] ++ digit_glyph false (n % 16) ∷ []
        → cond test (digit_glyph false (n % 16) ∷ behind) (digits_onto k 16 false (n / 16) (digit_glyph false (n % 16) ∷ behind))
        ≡ cond test (digit_glyph false (n % 16) ∷ []) (digits_onto k 16 false (n / 16) (digit_glyph false (n % 16) ∷ [])) ++ behind
    by_test true here alone = refl
    by_test false here alone =
        here ∙ sym (ap (λ t. t ++ behind) alone ∙ append_assoc (digits_onto k 16 false (n / 16) []) (digit_glyph false (n % 16) ∷ []) behind)

-- a digit less, a place less
below_less : (n k : ℕ) → n < 16 ^ (suc k) → n / 16 < 16 ^ k
below_less n k below = let power : 16 ^ (suc k) ≡ 16 * 16 ^ k = pow-succ' 16 k in omega (arith, below, power)

-- where something is left after the last digit, there is a place for it
place_left : (k n : ℕ) → n < 16 ^ (suc k) → 0 < n / 16 → 0 < k
place_left zero n below more = absurd (omega (arith, below))
place_left (suc k) n below more = omega arith

some_left : (m : ℕ) → (m == 0) ≡ false → 0 < m
some_left m is =
    elim (eq-zero-or-pos m) [
      | inl none ↦ absurd (true≢false (sym (eq-eqb m 0 none) ∙ is))
      | inr more ↦ more
    ]

-- where the digits are whole, one place more changes nothing
one_place_more : (k n : ℕ) (behind : List ℕ) → 0 < k → n < 16 ^ k → digits_onto (suc k) 16 false n behind ≡ digits_onto k 16 false n behind
one_place_more zero n behind some below = absurd (omega arith)
one_place_more (suc k) n behind some below =
    by_test (n / 16 == 0) refl (λ more. one_place_more k (n / 16) (digit_glyph false (n % 16) ∷ behind) more (below_less n k below))
  where
    by_test : (test : Bool) → (n / 16 == 0) ≡ test
        → (0 < k → digits_onto (suc k) 16 false (n / 16) (digit_glyph false (n % 16) ∷ behind) ≡ digits_onto k 16 false (n / 16) (digit_glyph false (n % 16) ∷ behind))
        → cond test (digit_glyph false (n % 16) ∷ behind) (digits_onto (suc k) 16 false (n / 16) (digit_glyph false (n % 16) ∷ behind))
        ≡ cond test (digit_glyph false (n % 16) ∷ behind) (digits_onto k 16 false (n / 16) (digit_glyph false (n % 16) ∷ behind))
    by_test true is rest = refl
    by_test false is rest = rest (place_left k n below (some_left (n / 16) is))

above_zero : (n : ℕ) → 16 ≤ n → (n / 16 == 0) ≡ false
above_zero n above = by_test (n / 16 == 0) refl
  where
    by_test : (test : Bool) → (n / 16 == 0) ≡ test → test ≡ false
    by_test true is = absurd (omega (arith, eqb-true (n / 16) 0 is))
    by_test false is = refl

-- the last digit stands after those of a sixteenth
hex_step : (n : ℕ) → 16 ≤ n → n < 2 ^ 64 → digits 16 false n ≡ digits 16 false (n / 16) ++ digit_glyph false (n % 16) ∷ []
unfolding digits
hex_step n above below =
    let last = digit_glyph false (n % 16) in
    ap (λ test. cond test (last ∷ []) (digits_onto 63 16 false (n / 16) (last ∷ []))) (above_zero n above)
    ∙ onto_append 63 (n / 16) (last ∷ [])
    ∙ ap (λ t. t ++ last ∷ []) (sym (one_place_more 63 (n / 16) [] (omega arith) (omega (arith, below))))

-- the two digits of a byte
abbrev pub pair : ℕ → List ℕ
pair p = digit_glyph false (p / 16) ∷ digit_glyph false (p % 16) ∷ []

-- the last two digits stand after those of the rest
pub hex_pair : (n : ℕ) → 256 ≤ n → n < 2 ^ 64 → digits 16 false n ≡ digits 16 false (n / 256) ++ pair (n % 256)
hex_pair n above below =
    let rest : n / 16 / 16 ≡ n / 256 = omega arith in
    let front : n / 16 % 16 ≡ n % 256 / 16 = omega arith in
    let back : n % 16 ≡ n % 256 % 16 = omega arith in
    rw (hex_step n (omega arith) below, hex_step (n / 16) (omega arith) (omega arith), append_assoc, rest, front, ← back) refl

pub length_pair : (n : ℕ) → 256 ≤ n → n < 2 ^ 64 → length (digits 16 false n) ≡ length (digits 16 false (n / 256)) + 2
length_pair n above below = ap length (hex_pair n above below) ∙ length-append _ _

pub length_one : (n : ℕ) → n < 16 → length (digits 16 false n) ≡ 1
length_one n below = ap length (hex_one_digit false n below)

pub length_two : (n : ℕ) → 16 ≤ n → n < 256 → length (digits 16 false n) ≡ 2
length_two n above below = ap length (hex_two_digits false n above below)

-- a number below a power has no more digits than that
length_le : (k n : ℕ) → 0 < k → n < 16 ^ k → n < 2 ^ 64 → length (digits 16 false n) ≤ k
length_le zero n some below fits = absurd (omega arith)
length_le (suc k) n some below fits =
    elim (eq-zero-or-pos (n / 16)) [
      | inl none ↦ omega (arith, length_one n (omega arith))
      | inr more ↦
          let rest = length_le k (n / 16) (place_left k n below more) (below_less n k below) (omega (arith, fits)) in
          let longer : length (digits 16 false n) ≡ length (digits 16 false (n / 16)) + 1 = ap length (hex_step n (omega arith) fits) ∙ length-append _ _ in
          omega (arith, rest, longer)
    ]

-- there are 16 digits at most
pub length_fits : (n : ℕ) → n < 2 ^ 64 → length (digits 16 false n) ≤ 16
length_fits n fits = length_le 16 n (omega arith) (omega (arith, fits)) fits

-- the table has the digits of each byte below a number
abbrev has_pairs : ℕ → Bool
has_pairs zero = true
has_pairs (suc p) = (eqb (get_or PAIRS (p * 2) 0) (digit_glyph false (p / 16)) && eqb (get_or PAIRS (p * 2 + 1) 0) (digit_glyph false (p % 16))) && has_pairs p

pair_below : (n p : ℕ) → T (has_pairs n) → p < n → (get_or PAIRS (p * 2) 0 ≡ digit_glyph false (p / 16)) × (get_or PAIRS (p * 2 + 1) 0 ≡ digit_glyph false (p % 16))
pair_below zero p has below = absurd (omega arith)
pair_below (suc n) p has below =
    elim (eq-zero-or-pos (n - p)) [
      | inl none ↦
          let same : p ≡ n = omega arith in
          let here = and_l _ (has_pairs n) has in
          rw same (eqb→eq _ _ (and_l _ _ here), eqb→eq _ _ (and_r _ _ here))
      | inr some ↦ pair_below n p (and_r _ (has_pairs n) has) (omega arith)
    ]

-- what the table has at a byte
pub PAIRS_at : (p : ℕ) → p < 256 → (get_or PAIRS (p * 2) 0 ≡ digit_glyph false (p / 16)) × (get_or PAIRS (p * 2 + 1) 0 ≡ digit_glyph false (p % 16))
PAIRS_at p below = pair_below 256 p tt below
