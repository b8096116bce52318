-- Lists of which adjacent places are set alike, such as masks. No public clause cites this module.
use Rattle.std.specs.Prelude.{ℕ, zero, suc, ◌+◌, List, slice_set}

-- the list with n places from `first` on set alike
abbrev pub with_places : {X : Type 0} → List X → ℕ → ℕ → X → List X
with_places xs first zero x = xs
with_places xs first (suc n) x = slice_set (with_places xs first n x) (first + n) x
