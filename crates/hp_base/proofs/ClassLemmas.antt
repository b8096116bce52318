-- The class of a size: the relation, its computing form, and that it rises with the size.
use Rattle.std.proofs.Common.{◌≡◌, ℕ, ◌+◌, ◌*◌, ◌^◌, ◌<◌, ◌≤◌, zero, suc, get_or, true, false, not, refl, subst, arith, inl, inr}
use Rattle.std.proofs.lemmas.Bool.{cases_lt, leb-true, leb-false}
use Rattle.std.proofs.lemmas.List.Sums.{prefix_len-le-length, fails_before_first, passes_at_first}
use Rattle.std.proofs.Math.Nat.{pow-le-pow_right, le_antisymm}
use Rattle.std.specs.Prelude.{nat_le}
use Rattle.std.specs.List.{position_or_len}
use Rattle.hp_base.specs.Class.{IsClassOf, class_limits, class_number}

-- of two sizes the greater has no lower class
pub class_monotone : (size class more greater : ℕ) → IsClassOf size class → IsClassOf more greater → size ≤ more → class ≤ greater
class_monotone size class more greater is_class is_greater at_most =
    elim (cases_lt greater class) [
      | inl lower ↦ absurd (omega (arith, is_class.least greater lower, is_greater.within (omega (arith, is_class.last)), at_most))
      | inr above ↦ above
    ]

-- a size has one class
pub class_unique : (size class other : ℕ) → IsClassOf size class → IsClassOf size other → class ≡ other
class_unique size class other is_class is_other =
    le_antisymm (class_monotone size class size other is_class is_other (omega arith)) (class_monotone size other size class is_other is_class (omega arith))

limit_at : (class : ℕ) → class < 12 → get_or class_limits class 0 ≡ 2 ^ (8 + 2 * class)
limit_at zero _ = refl
limit_at (suc zero) _ = refl
limit_at (suc (suc zero)) _ = refl
limit_at (suc (suc (suc zero))) _ = refl
limit_at (suc (suc (suc (suc zero)))) _ = refl
limit_at (suc (suc (suc (suc (suc zero))))) _ = refl
limit_at (suc (suc (suc (suc (suc (suc zero)))))) _ = refl
limit_at (suc (suc (suc (suc (suc (suc (suc zero))))))) _ = refl
limit_at (suc (suc (suc (suc (suc (suc (suc (suc zero)))))))) _ = refl
limit_at (suc (suc (suc (suc (suc (suc (suc (suc (suc zero))))))))) _ = refl
limit_at (suc (suc (suc (suc (suc (suc (suc (suc (suc (suc zero)))))))))) _ = refl
limit_at (suc (suc (suc (suc (suc (suc (suc (suc (suc (suc (suc zero))))))))))) _ = refl
limit_at (suc (suc (suc (suc (suc (suc (suc (suc (suc (suc (suc (suc class)))))))))))) below = absurd (omega arith)

first_is_class : (size class : ℕ) → class ≤ 12 → (class < 12 → nat_le size (get_or class_limits class 0) ≡ true)
    → ((lower : ℕ) → lower < class → nat_le size (get_or class_limits lower 0) ≡ false) → IsClassOf size class
first_is_class size class last held passed = record {
  last = last;
  within = λ below. subst (λ (limit : ℕ). size ≤ limit) (limit_at class below) (leb-true size (get_or class_limits class 0) (held below));
  least = λ lower under. subst (λ (limit : ℕ). limit < size) (limit_at lower (omega arith)) (leb-false size (get_or class_limits lower 0) (passed lower under));
}

-- the computed class is the class
pub class_number-is_class : (size : ℕ) → IsClassOf size (class_number size)
unfolding class_number
class_number-is_class size = first_is_class size (position_or_len (λ limit. nat_le size limit) class_limits)
    (prefix_len-le-length (λ limit. not (nat_le size limit)) class_limits)
    (passes_at_first (λ limit. nat_le size limit) class_limits 0)
    (λ lower under. fails_before_first (λ limit. nat_le size limit) class_limits lower 0 under)

-- what is the class of a size is its computed class
pub class_number_of : (size class : ℕ) → IsClassOf size class → class ≡ class_number size
class_number_of size class is_class = class_unique size class (class_number size) is_class (class_number-is_class size)

-- the class of a size that the limit before its own does not hold
pub is_class : (size class : ℕ) → class < 12 → 2 ^ (6 + 2 * class) < size → size ≤ 2 ^ (8 + 2 * class) → IsClassOf size class
is_class size class below passed within = record {
  last = omega arith;
  within = λ _. within;
  least = λ lower under. let limits : 2 ^ (8 + 2 * lower) ≤ 2 ^ (6 + 2 * class) = pow-le-pow_right {n = 2} (omega arith) {i = 8 + 2 * lower} {j = 6 + 2 * class} (omega arith) in omega (arith, limits);
}

pub is_last_class : (size : ℕ) → 2 ^ 30 < size → IsClassOf size 12
is_last_class size passed = record {
  last = omega arith;
  within = λ below. absurd (omega arith);
  least = λ lower under. let limits : 2 ^ (8 + 2 * lower) ≤ 2 ^ 30 = pow-le-pow_right {n = 2} (omega arith) {i = 8 + 2 * lower} {j = 30} (omega arith) in omega (arith, limits);
}
