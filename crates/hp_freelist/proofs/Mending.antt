-- How far the list before a key that left is mended.
use Rattle.std.proofs.Common.{◌≡◌, ℕ, ◌≤◌, List, ◌++◌, Option, None, false, length, slice_get}
use Rattle.hp_chain.specs.Chain.{Keyed, has_key, last_key}
use Rattle.hp_freelist.specs.Kept.{KeepsGreatest}

-- the last part of the front keeps its greatest again, and nothing else changed; so many keys are left at most
pub record IsMending (old new : List ℕ) (front back : List (Keyed ℕ)) (before : Option ℕ) (left : ℕ) : Type 0 where
  pub first : List (Keyed ℕ)
  pub mended : List (Keyed ℕ)
  pub is : front ≡ first ++ mended
  pub at : before ≡ last_key None first
  pub short : length first ≤ left
  pub keeps : KeepsGreatest new (mended ++ back)
  pub rest : (other : ℕ) → has_key other mended ≡ false → slice_get new other ≡ slice_get old other
