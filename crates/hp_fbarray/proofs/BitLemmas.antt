-- One bit of a word, and the first bit from one on.
use Rattle.std.proofs.Common.{not, ◌≡◌, ◌==◌, ℕ, ◌+◌, ◌-◌, ◌*◌, ◌/◌, ◌%◌, ◌^◌, ◌<◌, ◌≤◌, Bool, true, false, bit_and, bit_or, ap, sym, ◌∙◌, arith, inl, inr}
use Rattle.std.proofs.lemmas.Bool.{cases_lt}
use Rattle.std.proofs.lemmas.Nat.{shr_le, shr-shr}
use Rattle.std.proofs.lemmas.Nat.Bits.{bit_at-lt, bit_at-zero, bit_at_above, bit_at_not, bit_at_set_same, bit_at_set_other, bit_at_clear_same, bit_at_clear_other, bit_at-trailing_zeros}
use Rattle.std.specs.Int.{bit_at, bit_not, trailing_zeros, w64}
use Rattle.hp_fbarray.specs.Words.{is_bit, HasOnesAt, IsNextBit, SetsBit}

-- a bit that is 1, and one that is not
is_bit-one : (word bit : ℕ) → bit_at word bit ≡ 1 → is_bit word bit ≡ true
is_bit-one word bit one = ap (λ b. b == 1) one

is_bit-zero : (word bit : ℕ) → bit_at word bit ≡ 0 → is_bit word bit ≡ false
is_bit-zero word bit zero = ap (λ b. b == 1) zero

-- `word | 1 << bit`
pub SetsBit-or : (word bit : ℕ) → bit < 64 → SetsBit word (bit_or word (1 * 2 ^ bit % 2 ^ 64)) bit true
SetsBit-or word bit inside = record {
  same = is_bit-one (bit_or word (1 * 2 ^ bit % 2 ^ 64)) bit (bit_at_set_same w64 word bit inside);
  others = λ k within other. ap (λ b. b == 1) (bit_at_set_other w64 word bit inside k other);
}

-- `word & !(1 << bit)`
pub SetsBit-and : (word bit : ℕ) → bit < 64
    → SetsBit word (bit_and word (bit_not w64 (1 * 2 ^ bit % 2 ^ 64))) bit false
SetsBit-and word bit inside = record {
  same = is_bit-zero (bit_and word (bit_not w64 (1 * 2 ^ bit % 2 ^ 64))) bit (bit_at_clear_same w64 word bit inside);
  others = λ k within other. ap (λ b. b == 1) (bit_at_clear_other w64 word bit inside k within other);
}

-- `!word` has a 1 where the word has none
pub HasOnesAt-not : (word : ℕ) → word < 2 ^ 64 → HasOnesAt word false (bit_not w64 word)
HasOnesAt-not word fits = record { at = λ k within. bit_at_not w64 word k fits within }

-- where the other word has no 1, the word's bit is not as was asked for
pub bit_at_no_one : (word other k : ℕ) (used : Bool) → bit_at other k ≡ 0 → k < 64
    → HasOnesAt word used other → is_bit word k ≡ not used
bit_at_no_one word other k true zero within ones =
    is_bit-zero word k (sym (ones.at k within) ∙ zero)
bit_at_no_one word other k false zero within ones =
    is_bit-one word k (omega (arith, ones.at k within, bit_at-lt word k))

-- where the other word has a 1, it is
pub bit_at_its_one : (word other k : ℕ) (used : Bool) → bit_at other k ≡ 1 → k < 64
    → HasOnesAt word used other → is_bit word k ≡ used
bit_at_its_one word other k true one within ones =
    is_bit-one word k (sym (ones.at k within) ∙ one)
bit_at_its_one word other k false one within ones =
    is_bit-zero word k (omega (arith, ones.at k within, bit_at-lt word k))

-- the bits of `word >> bit`
bit_at-shr : (word bit k : ℕ) → bit ≤ k → bit_at (word / 2 ^ bit) (k - bit) ≡ bit_at word k
bit_at-shr word bit k after =
    let back : bit + (k - bit) ≡ k = omega arith in
    ap (λ n. n % 2) (shr-shr word bit (k - bit)) ∙ ap (λ i. bit_at word i) back

-- no bit is left: there is none from `bit` on
pub IsNextBit-none : (word other bit : ℕ) (used : Bool) → bit < 64 → HasOnesAt word used other
    → other / 2 ^ bit ≡ 0 → IsNextBit word bit used 64
IsNextBit-none word other bit used inside ones empty = record {
  not_before = omega arith;
  within = omega arith;
  passed = λ k after before.
      let none : bit_at other k ≡ 0
      = sym (bit_at-shr other bit k after) ∙ ap (λ n. bit_at n (k - bit)) empty ∙ bit_at-zero (k - bit) in
      bit_at_no_one word other k used none before ones;
  here = λ below. absurd (omega arith);
}

-- of the bits that are left, the lowest is the first
pub IsNextBit-first : (word other bit : ℕ) (used : Bool) → bit < 64 → other < 2 ^ 64
    → HasOnesAt word used other → 0 < other / 2 ^ bit
    → IsNextBit word bit used (bit + trailing_zeros w64 (other / 2 ^ bit))
IsNextBit-first word other bit used inside fits ones some =
    let rest : ℕ = other / 2 ^ bit in
    let zeros : ℕ = trailing_zeros w64 rest in
    let lowest : (zeros < 64) × (bit_at rest zeros ≡ 1) × ((i : ℕ) → i < zeros → bit_at rest i ≡ 0)
    = bit_at-trailing_zeros w64 rest some (omega (arith, shr_le other bit)) in
    let one : bit_at other (bit + zeros) ≡ 1
    = sym (ap (λ n. n % 2) (shr-shr other bit zeros)) ∙ lowest.1 in
    let within : bit + zeros < 64
    = elim (cases_lt (bit + zeros) 64) [
      | inl below ↦ below
      | inr above ↦
          let none : bit_at other (bit + zeros) ≡ 0 = bit_at_above other 64 (bit + zeros) fits above in
          absurd (omega arith)
    ] in
    record {
      not_before = omega arith;
      within = omega arith;
      passed = λ k after before.
          let none : bit_at other k ≡ 0
          = sym (bit_at-shr other bit k after) ∙ lowest.2 (k - bit) (omega arith) in
          bit_at_no_one word other k used none (omega arith) ones;
      here = λ _. bit_at_its_one word other (bit + zeros) used one within ones;
    }
