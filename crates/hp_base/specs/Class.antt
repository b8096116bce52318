-- The size classes of free elements: the rule "Size classes" of docs/HEAP.md.
use Rattle.std.specs.Prelude.{ℕ, ◌+◌, ◌*◌, ◌^◌, ◌<◌, ◌≤◌, List, [], ◌∷◌, nat_le}
use Rattle.std.specs.List.{position_or_len}

-- the class of a size is the least c from 0 to 11 with size ≤ 2^(8 + 2c), and 12 where there is none ("Size classes")
pub record IsClassOf (size class : ℕ) : Type 0 where
  pub last : class ≤ 12
  pub within : class < 12 → size ≤ 2 ^ (8 + 2 * class)
  pub least : (lower : ℕ) → lower < class → 2 ^ (8 + 2 * lower) < size

-- the limits of the classes 0 to 11 ("Size classes")
abbrev pub class_limits : List ℕ
class_limits =
    2 ^ 8 ∷ 2 ^ 10 ∷ 2 ^ 12 ∷ 2 ^ 14 ∷ 2 ^ 16 ∷ 2 ^ 18
    ∷ 2 ^ 20 ∷ 2 ^ 22 ∷ 2 ^ 24 ∷ 2 ^ 26 ∷ 2 ^ 28 ∷ 2 ^ 30 ∷ []

-- the class as a number: the place of the first limit that the size does not pass ("Size classes")
unfoldable pub class_number : ℕ → ℕ
class_number size = position_or_len (λ limit. nat_le size limit) class_limits
