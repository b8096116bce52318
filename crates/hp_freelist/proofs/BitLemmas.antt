-- The bits of the lists that have a key: what the lowest one from a class on and the highest one say of the first keys.
use Rattle.std.proofs.Common.{◌≡◌, ℕ, suc, ◌+◌, ◌-◌, ◌*◌, ◌%◌, ◌^◌, ◌<◌, ◌≤◌, min, List, Option, Some, None, is_some, IsSome, set}
use Rattle.std.proofs.Common.{bit_and, refl, sym, ap, ◌∙◌, arith, inl, inr}
use Rattle.std.proofs.Common.{w16}
use Rattle.std.proofs.lemmas.Bool.{cases_lt}
use Rattle.std.proofs.lemmas.Nat.{and_le_l}
use Rattle.std.proofs.lemmas.Nat.Bits.{bit_at_and, bit_at-lt, bit_at-zero, bit_at_above, bit_at_cat_high, bit_at_mask_inside}
use Rattle.std.proofs.lemmas.Nat.Bits.{bit_at_mask_below, bit_at-trailing_zeros, ones_shl}
use Rattle.std.specs.Int.{bit_at, trailing_zeros}
use Rattle.hp_freelist.specs.Heads.{head_at, bit_of, AreBits, IsNext, NoneFrom, IsLast}

-- a bit that is set or clear, as a key that is there or not
filled_of : (key : Option ℕ) → bit_of (is_some key) ≡ 1 → IsSome key
filled_of None set = absurd (omega (arith, set))
filled_of (Some key) set = refl

empty_of : (key : Option ℕ) → bit_of (is_some key) ≡ 0 → key ≡ None
empty_of None clear = refl
empty_of (Some key) clear = absurd (omega (arith, clear))

-- the bits from a class on
abbrev pub rest_of : ℕ → ℕ → ℕ
rest_of filled class = bit_and filled (65535 * 2 ^ class % 65536)

module _ (filled class : ℕ) (within : class ≤ 13) where
  masked : (i : ℕ) → bit_at (rest_of filled class) i ≡ min (bit_at filled i) (bit_at (2 ^ 16 - 2 ^ class) i)
  masked i = bit_at_and filled (65535 * 2 ^ class % 65536) i ∙ ap (λ (mask : ℕ). min (bit_at filled i) (bit_at mask i)) (ones_shl 16 class (omega (arith, within)))

  bit_upwards : (i : ℕ) → class ≤ i → i < 16 → bit_at (rest_of filled class) i ≡ bit_at filled i
  bit_upwards i upwards below = omega (arith, masked i, bit_at_mask_inside class 16 i upwards below, bit_at-lt filled i)

  bit_below : (i : ℕ) → i < class → bit_at (rest_of filled class) i ≡ 0
  bit_below i under = omega (arith, masked i, bit_at_mask_below class 16 i under)

  module _ (firsts : List (Option ℕ)) (are : AreBits firsts filled) where
    pub none_from : rest_of filled class ≡ 0 → NoneFrom firsts class
    none_from clear other upwards below =
        empty_of (head_at firsts other)
        (sym (are.bits other below) ∙ sym (bit_upwards other upwards (omega (arith, below))) ∙ ap (λ (n : ℕ). bit_at n other) clear ∙ bit_at-zero other)

    pub is_next : filled < 2 ^ 16 → 0 < rest_of filled class → IsNext firsts class (trailing_zeros w16 (rest_of filled class))
    is_next fits some =
        let rest : ℕ = rest_of filled class in
        let next : ℕ = trailing_zeros w16 rest in
        let lowest = bit_at-trailing_zeros w16 rest some (omega (arith, fits, and_le_l filled (65535 * 2 ^ class % 65536))) in
        let upwards : class ≤ next = elim (cases_lt next class) [
          | inl under ↦ absurd (omega (arith, bit_below next under, lowest.1))
          | inr above ↦ above
        ] in
        let same : bit_at filled next ≡ 1 = sym (bit_upwards next upwards lowest.0) ∙ lowest.1 in
        let below : next < 13 = elim (cases_lt next 13) [
          | inl under ↦ under
          | inr above ↦ absurd (omega (arith, are.high next above lowest.0, same))
        ] in
        record {
          upwards = upwards;
          within = below;
          filled = filled_of (head_at firsts next) (sym (are.bits next below) ∙ same);
          lower = λ other from under.
              empty_of (head_at firsts other)
              (sym (are.bits other (omega (arith, under, below))) ∙ sym (bit_upwards other from (omega (arith, under, below))) ∙ lowest.2 other under);
        }

module _ (firsts : List (Option ℕ)) (filled : ℕ) (are : AreBits firsts filled) where
  pub is_last : (last : ℕ) → 2 ^ last ≤ filled → filled < 2 * 2 ^ last → last < 16 → IsLast firsts last
  is_last last least most fits =
      let over : ℕ = filled - 2 ^ last in
      let whole : filled ≡ 1 * 2 ^ last + over = omega (arith, least) in
      let top : bit_at filled last ≡ 1 =
      ap (λ (n : ℕ). bit_at n last) whole ∙ bit_at_cat_high 1 last over last (omega (arith, most)) (omega arith)
      ∙ ap (λ (n : ℕ). bit_at 1 n) (let none : last - last ≡ 0 = omega arith in none) in
      let below : last < 13 = elim (cases_lt last 13) [ inl under ↦ under | inr above ↦ absurd (omega (arith, are.high last above fits, top)) ] in
      record {
        within = below;
        filled = filled_of (head_at firsts last) (sym (are.bits last below) ∙ top);
        above = λ other upwards under.
            empty_of (head_at firsts other)
            (sym (are.bits other under) ∙ bit_at_above filled (suc last) other (omega (arith, most)) (omega (arith, upwards)));
      }
