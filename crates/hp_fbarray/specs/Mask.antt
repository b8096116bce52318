-- A used mask as the list of its places: true where a place is used, false where it is clear.
use Rattle.std.specs.Prelude.{◌≡◌, ℕ, ◌+◌, ◌<◌, ◌≤◌, Bool, true, false, List, length, slice_index_or}

-- the place lies in the mask and is used
abbrev pub IsUsed : List Bool → ℕ → Type 0
IsUsed mask place = slice_index_or mask place false ≡ true

-- the place lies in the mask and is clear
abbrev pub IsClear : List Bool → ℕ → Type 0
IsClear mask place = slice_index_or mask place true ≡ false

-- the n places from start on lie in the mask, and each of them is clear
pub record IsFreeRun (mask : List Bool) (start n : ℕ) : Type 0 where
  pub within : start + n ≤ length mask
  pub clear : (place : ℕ) → start ≤ place → place < start + n → IsClear mask place

-- n clear places begin at start, and nowhere between `from` and start
pub record IsFirstFreeRun (mask : List Bool) (from n start : ℕ) : Type 0 where
  pub not_before : from ≤ start
  pub free : IsFreeRun mask start n
  pub least : (earlier : ℕ) → from ≤ earlier → earlier < start → ¬ IsFreeRun mask earlier n

-- nowhere at `from` or later do n clear places begin
pub record HasNoFreeRun (mask : List Bool) (from n : ℕ) : Type 0 where
  pub nowhere : (start : ℕ) → from ≤ start → ¬ IsFreeRun mask start n

-- n is the greatest number of clear places that follow one another
pub record IsLongestFree (mask : List Bool) (n : ℕ) : Type 0 where
  pub found : (start : ℕ) × IsFreeRun mask start n
  pub no_longer : (longer : ℕ) → n < longer → HasNoFreeRun mask 0 longer

-- the place is used, and each from `from` up to it is clear
pub record IsNextUsed (mask : List Bool) (from place : ℕ) : Type 0 where
  pub not_before : from ≤ place
  pub used : IsUsed mask place
  pub clear_before : (earlier : ℕ) → from ≤ earlier → earlier < place → IsClear mask earlier

-- no place at `from` or later is used
pub record HasNoUsed (mask : List Bool) (from : ℕ) : Type 0 where
  pub nowhere : (place : ℕ) → from ≤ place → ¬ IsUsed mask place
