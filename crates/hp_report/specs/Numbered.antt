-- Texts of lists: a part for each element, with its number.
use Rattle.std.specs.Prelude.{ℕ, ◌+◌, List, [], ◌∷◌, ◌++◌}

-- the parts of elements one after the other, numbered from a number on
abbrev pub numbered : {X : Type 0} → (ℕ → X → List ℕ) → ℕ → List X → List ℕ
numbered part number [] = []
numbered part number (x ∷ xs) = part number x ++ numbered part (number + 1) xs
