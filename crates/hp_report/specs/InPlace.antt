-- A text written in place.
use Rattle.std.specs.Prelude.{◌≡◌, ℕ, ◌+◌, List, ◌++◌, length, take}

-- a text stands in a buffer from one place on and ends at another; what stood before it stays
pub record IsPlaced (old new : List ℕ) (at : ℕ) (text : List ℕ) (end : ℕ) : Type 0 where
  pub bytes : take end new ≡ take at old ++ text
  pub ends : end ≡ at + length text
  pub len : length new ≡ length old
