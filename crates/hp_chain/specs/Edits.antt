-- Edits of a list at the element with a key.
use Rattle.std.specs.Prelude.{ℕ, List, [], ◌∷◌, nat_eq, not, filter, if◌then◌else◌}
use Rattle.hp_chain.specs.Chain.{Keyed}

module _ {X : Type 0} where
  -- the list where the first element with the key, and what follows it, became what the edit makes of them
  abbrev pub edited : ℕ → (Keyed X → List (Keyed X) → List (Keyed X)) → List (Keyed X) → List (Keyed X)
  edited key edit [] = []
  edited key edit (e ∷ es) = if nat_eq e.key key then edit e es else (e ∷ edited key edit es)

  -- the elements that do not have the key
  abbrev pub without_key : ℕ → List (Keyed X) → List (Keyed X)
  without_key key es = filter (λ e. not (nat_eq e.key key)) es
