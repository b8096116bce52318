-- How the first keys of the lists are kept, with a bit for each list that has one. No public clause cites this module.
use Rattle.std.specs.Prelude.{◌≡◌, ℕ, ◌<◌, ◌≤◌, Bool, List, Option, None, is_some, IsSome, length, slice_index_or, if◌then◌else◌}
use Rattle.std.specs.Int.{bit_at}

-- the first key of the list of a class
abbrev pub head_at : List (Option ℕ) → ℕ → Option ℕ
head_at firsts class = slice_index_or firsts class None

abbrev pub bit_of : Bool → ℕ
bit_of b = if b then 1 else 0

-- a bit says whether the list of its class has a key
pub record AreBits (firsts : List (Option ℕ)) (filled : ℕ) : Type 0 where
  pub count : length firsts ≡ 13
  pub bits : (class : ℕ) → class < 13 → bit_at filled class ≡ bit_of (is_some (head_at firsts class))
  pub high : (class : ℕ) → 13 ≤ class → class < 16 → bit_at filled class ≡ 0

-- the least class from a given one whose list has a key
pub record IsNext (firsts : List (Option ℕ)) (from class : ℕ) : Type 0 where
  pub upwards : from ≤ class
  pub within : class < 13
  pub filled : IsSome (head_at firsts class)
  pub lower : (other : ℕ) → from ≤ other → other < class → head_at firsts other ≡ None

-- no class from a given one has a key
abbrev pub NoneFrom : List (Option ℕ) → ℕ → Type 0
NoneFrom firsts from = (class : ℕ) → from ≤ class → class < 13 → head_at firsts class ≡ None

-- the greatest class whose list has a key
pub record IsLast (firsts : List (Option ℕ)) (class : ℕ) : Type 0 where
  pub within : class < 13
  pub filled : IsSome (head_at firsts class)
  pub above : (other : ℕ) → class < other → other < 13 → head_at firsts other ≡ None
