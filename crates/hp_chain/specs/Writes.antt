-- Writes of a memory of linked values, as functions: what each key has afterwards.
use Rattle.std.specs.Prelude.{ℕ, Option, Some, None, nat_eq, option_map, if◌then◌else◌}
use Rattle.hp_chain.specs.Chain.{Place, Places}

module _ {X : Type 0} where
  -- a place with another next key, another previous key, another value
  abbrev pub to_next : Option ℕ → Place X → Place X
  to_next key place = record place { next = key }

  abbrev pub to_prev : Option ℕ → Place X → Place X
  to_prev key place = record place { prev = key }

  abbrev pub to_value : X → Place X → Place X
  to_value new place = record place { value = new }

  -- the memory where what is under one key was changed; with no key it stays
  abbrev pub written : Option ℕ → (Option (Place X) → Option (Place X)) → Places X → Places X
  written None change at = at
  written (Some key) change at = λ other. if nat_eq other key then change (at other) else at other

  -- another next key, another previous key, another value under a key
  abbrev pub with_next : Option ℕ → Option ℕ → Places X → Places X
  with_next key next at = written key (option_map (to_next next)) at

  abbrev pub with_prev : Option ℕ → Option ℕ → Places X → Places X
  with_prev key prev at = written key (option_map (to_prev prev)) at

  abbrev pub with_value : ℕ → X → Places X → Places X
  with_value key value at = written (Some key) (option_map (to_value value)) at

  -- a key that was filled, or left empty
  abbrev pub with_place : ℕ → Option (Place X) → Places X → Places X
  with_place key slot at = written (Some key) (λ _. slot) at
