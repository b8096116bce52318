-- The first number of a range that passes.
use Rattle.std.proofs.Common.{◌≡◌, ℕ, suc, ◌+◌, ◌-◌, ◌<◌, ◌≤◌, Bool, true, false, ◌∷◌, Some, None, refl, ap, arith}
use Rattle.std.specs.List.{find, range_with_len}

-- a range that is not empty begins with its first number
pub range_begins : (a end : ℕ) → a < end → range_with_len a (end - a) ≡ a ∷ range_with_len (a + 1) (end - (a + 1))
range_begins a end below =
    let rest : end - a ≡ suc (end - (a + 1)) = omega arith in
    ap (range_with_len a) rest

module _ (p : ℕ → Bool) where
  -- a number that fails is passed over
  pub find_range_step : (a end : ℕ) → a < end → p a ≡ false
      → find p (range_with_len a (end - a)) ≡ find p (range_with_len (a + 1) (end - (a + 1)))
  find_range_step a end below fails = rw (range_begins a end below, fails) refl

  -- a number that passes is found
  pub find_range_here : (a end : ℕ) → a < end → p a ≡ true → find p (range_with_len a (end - a)) ≡ Some a
  find_range_here a end below passes = rw (range_begins a end below, passes) refl

  -- nothing is found in an empty range
  pub find_range_end : (a end : ℕ) → end ≤ a → find p (range_with_len a (end - a)) ≡ None
  find_range_end a end past =
      let empty : end - a ≡ 0 = omega arith in
      rw empty refl
