-- Laws of chains.
use Rattle.std.specs.Prelude.{◌≡◌, ℕ, List, None, reverse}
use Rattle.hp_chain.specs.Chain.{Keyed, Places, first_key, last_key, walk, walk_back}

-- the links forwards and backwards are one order: of a list that the memory has, a walk from its first key gives the
-- list, and a walk back from its last key gives it from its end
pub record HasOneOrder {X : Type 0} (at : Places X) (xs : List (Keyed X)) (n : ℕ) : Type 0 where
  pub forwards : walk at n (first_key xs None) ≡ xs
  pub backwards : walk_back at n (last_key None xs) ≡ reverse xs
