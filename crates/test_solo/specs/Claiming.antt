-- What is claimed of external memory and released again, for the tests of this crate.
use Rattle.std.specs.Prelude.{◌≡◌, ℕ, IsTrue, Option, Some, None}
use Rattle.hp_segs.specs.Ranges.{after_release_range, is_claimed}
use Rattle.hp_segs.specs.SegsView.{SegsView}

-- the memory of a list was claimed, and once it is released all is as it was; where no list came, all is as it was
abbrev pub IsClaimed : Option ℕ → SegsView → SegsView → Type 0
IsClaimed None old new = new ≡ old
IsClaimed (Some list) old new = IsTrue (is_claimed new list) × (after_release_range list new ≡ old)

-- a segment value once the memory of a list, where there is one, is released
abbrev pub released : Option ℕ → SegsView → SegsView
released None segs = segs
released (Some list) segs = after_release_range list segs
