-- Powers of two, by their one bit.
use Rattle.std.proofs.Common.{◌%◌, ◌≡◌, ℕ, ◌+◌, ◌-◌, ◌*◌, ◌^◌, ◌<◌, ◌≤◌, zero, suc, IsTrue, ◌==◌, refl, sym, subst, ap, ◌∙◌, arith, max, inl, inr, count_ones}
use lib.Count.{ones}
use Rattle.std.proofs.lemmas.Nat.{leading_top, ones_cat, zero_from_ones, pow_below, pow-add, pow_pos, and_mask}
use Rattle.std.proofs.lemmas.Bool.{cases_lt, eqb-true, or_cases}
use Rattle.std.proofs.Math.Nat.{max-eq_left, max-eq_right, pow-suc}
use Rattle.std.specs.Int.{is_power_of_two, IsPowerOfTwo}
use Rattle.std.proofs.Math.Nat.{div-add-mod'}
use Rattle.std.specs.Prelude.{bit_and}
use Rattle.hp_base.specs.Round.{floor_of}
use Rattle.hp_base.specs.Requests.{is_align}
use Rattle.hp_base.specs.declared.round.TheConstants.{LINE}

below_power : (n : ℕ) → n < 2 ^ n
below_power zero = omega arith
below_power (suc n) = omega (arith, below_power n, pow-suc 2 n)

one_of_one : ones 1 ≡ 1
unfolding ones
one_of_one = refl

none_of_zero : ones 0 ≡ 0
unfolding ones
none_of_zero = refl

pub line_is_power : IsTrue (is_power_of_two LINE)
unfolding ones
line_is_power = refl

-- a number between a power of two and the next one has one bit only if it is the power
power_from_top : (n top : ℕ) → ones n ≡ 1 → 2 ^ top ≤ n → n < 2 ^ suc top → n ≡ 2 ^ top
power_from_top n top one_bit from before =
    let rest_below : n - 2 ^ top < 2 ^ top = omega (arith, pow-suc 2 top) in
    let whole : 1 * 2 ^ top + (n - 2 ^ top) ≡ n = omega arith in
    let bits : ones n ≡ ones 1 + ones (n - 2 ^ top) = subst (λ (m : ℕ). ones m ≡ ones 1 + ones (n - 2 ^ top)) whole (ones_cat top 1 (n - 2 ^ top) rest_below) in
    let rest_zero : n - 2 ^ top ≡ 0 = zero_from_ones (n - 2 ^ top) (omega (arith, bits, one_of_one, one_bit)) in
    omega (arith, rest_zero)

-- a number with one bit is a power of two
pub power_of : (n : ℕ) → IsTrue (is_power_of_two n) → IsPowerOfTwo n
power_of n one_bit =
    let one : ones n ≡ 1 = eqb-true (count_ones n) 1 one_bit in
    elim (cases_lt 0 n) [
      | inl some ↦ (let (top, counted, from, before) = leading_top n n some (below_power n) in (top, power_from_top n top one from before))
      | inr none ↦ absurd (let is_zero : n ≡ 0 = omega arith in omega (arith, one, subst (λ (m : ℕ). ones m ≡ 0) (sym is_zero) none_of_zero))
    ]

pub power_pos : (n : ℕ) → IsTrue (is_power_of_two n) → 0 < n
power_pos n one_bit = let (top, is) = power_of n one_bit in subst (λ (m : ℕ). 0 < m) (sym is) (pow_pos top)

powers_divide : (i j : ℕ) → 2 ^ i ≤ 2 ^ j → 2 ^ j ≡ 2 ^ (j - i) * 2 ^ i
powers_divide i j at_most = elim (cases_lt j i) [
  | inl lower ↦ absurd (omega (arith, pow_below j i lower))
  | inr above ↦ (let sum : j - i + i ≡ j = omega arith in subst (λ (k : ℕ). 2 ^ k ≡ 2 ^ (j - i) * 2 ^ i) sum (pow-add 2 (j - i) i))
]

-- of two powers of two the lesser divides the greater
pub multiple_of_power : (a b : ℕ) → IsPowerOfTwo a → IsPowerOfTwo b → a ≤ b → (m : ℕ) × (b ≡ m * a)
multiple_of_power a b (i, a_is) (j, b_is) at_most =
    let bound : 2 ^ i ≤ 2 ^ j = omega (arith, a_is, b_is) in
    (2 ^ (j - i), b_is ∙ powers_divide i j bound ∙ ap (λ (m : ℕ). 2 ^ (j - i) * m) (sym a_is))

above_is_power : (align : ℕ) → LINE < align → IsTrue (is_align align) → IsTrue (is_power_of_two align)
above_is_power align above is = elim (or_cases (align == 0) (is_power_of_two align) is) [
  | inl is_zero ↦ absurd (omega (arith, eqb-true align 0 is_zero))
  | inr power ↦ power
]

pub raised_is_power : (align : ℕ) → IsTrue (is_align align) → IsTrue (is_power_of_two (max align LINE))
raised_is_power align is =
    elim (cases_lt LINE align) [
      | inl above ↦ subst (λ (m : ℕ). IsTrue (is_power_of_two m)) (sym (max-eq_left (omega arith))) (above_is_power align above is)
      | inr below ↦ subst (λ (m : ℕ). IsTrue (is_power_of_two m)) (sym (max-eq_right below)) line_is_power
    ]

-- the rest by a power of two is what its mask keeps
pub floor_by_mask : (n unit : ℕ) → IsTrue (is_power_of_two unit) → n - bit_and n (unit - 1) ≡ floor_of n unit
floor_by_mask n unit one_bit =
    let (top, is) = power_of unit one_bit in
    let rest : bit_and n (unit - 1) ≡ n % unit = subst (λ (u : ℕ). bit_and n (u - 1) ≡ n % u) (sym is) (and_mask n top) in
    omega (arith, rest, div-add-mod' n unit)
