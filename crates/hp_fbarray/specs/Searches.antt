-- What the parts of a search through a mask answer. No public clause cites this module.
use Rattle.std.specs.Prelude.{◌≡◌, ℕ, ◌<◌, ◌≤◌, Bool, false, not, List, length, slice_index_or}
use Rattle.hp_fbarray.specs.Mask.{IsFreeRun, HasNoFreeRun}

-- the place lies in the mask, and is used or clear as it says
abbrev pub HasPlace : List Bool → ℕ → Bool → Type 0
HasPlace mask place used = slice_index_or mask place (not used) ≡ used

-- the first place from `from` up to `end` that is used, or that is clear, and `end` where there is none
pub record IsNextPlace (mask : List Bool) (from end : ℕ) (used : Bool) (place : ℕ) : Type 0 where
  pub not_before : from ≤ place
  pub within : place ≤ end
  pub passed : (earlier : ℕ) → from ≤ earlier → earlier < place → HasPlace mask earlier (not used)
  pub here : place < end → HasPlace mask place used

-- the first clear place of the mask, and the number of places where none is clear
abbrev pub IsFirstClear : List Bool → ℕ → Type 0
IsFirstClear mask place = IsNextPlace mask 0 (length mask) false place

-- n is the greatest number of clear places that follow one another from `from` on
pub record IsLongestFrom (mask : List Bool) (from n : ℕ) : Type 0 where
  pub start : ℕ
  pub not_before : from ≤ start
  pub found : IsFreeRun mask start n
  pub no_longer : (longer : ℕ) → n < longer → HasNoFreeRun mask from longer

-- the longest run from `from` on is shorter than n
pub record IsTooShort (mask : List Bool) (from n longest : ℕ) : Type 0 where
  pub shorter : longest < n
  pub is_longest : IsLongestFrom mask from longest
