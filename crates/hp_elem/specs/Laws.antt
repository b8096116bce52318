-- Laws of the elements' edits.
use Rattle.std.specs.Prelude.{◌≡◌, ℕ, false}
use Rattle.hp_chain.specs.Chain.{AreApart, has_key}
use Rattle.hp_elem.specs.Items.{Items, IsAt, IsInside, after_split, after_join}

-- an element that is cut at an address inside it, and whose parts are joined again, is what it was, and all others are as they were
abbrev pub JoinUndoesSplit : Type 0
JoinUndoesSplit = (items : Items) (key at new : ℕ) → AreApart items → IsAt (IsInside at) key items → has_key new items ≡ false
    → after_join key (after_split key at new items) ≡ items
