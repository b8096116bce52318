-- Chains: values under keys, each linked to the key before it and the key after it.
use Rattle.std.specs.Prelude.{◌≡◌, ℕ, zero, suc, List, [], ◌∷◌, Bool, false, Option, Some, None, nat_eq}
use Rattle.std.specs.List.{list_any}

-- a value with the key that it has
pub record Keyed (X : Type 0) : Type 0 where
  pub key : ℕ
  pub value : X

-- what is stored under a key: the keys beside it, where there are any, and the value
pub record Place (X : Type 0) : Type 0 where
  pub prev : Option ℕ
  pub next : Option ℕ
  pub value : X

-- a memory: what is stored under each key
abbrev pub Places : Type 0 → Type 0
Places X = ℕ → Option (Place X)

module _ {X : Type 0} where
  -- the first key of a list, or what comes after the list where it is empty
  abbrev pub first_key : List (Keyed X) → Option ℕ → Option ℕ
  first_key [] after = after
  first_key (e ∷ es) after = Some e.key

  -- the last key of a list, or what comes before the list where it is empty
  abbrev pub last_key : Option ℕ → List (Keyed X) → Option ℕ
  last_key before [] = before
  last_key before (e ∷ es) = last_key (Some e.key) es

  -- the memory has this list, in this order: each element names the one before it and the one after it
  abbrev pub Spells : Places X → Option ℕ → List (Keyed X) → Option ℕ → Type 0
  Spells at before [] after = Unit {0}
  Spells at before (e ∷ es) after =
      (at e.key ≡ Some (record { prev = before; next = first_key es after; value = e.value })) × Spells at (Some e.key) es after

  -- the list has an element with this key
  abbrev pub has_key : ℕ → List (Keyed X) → Bool
  has_key key es = list_any (λ e. nat_eq e.key key) es

  -- no two elements have one key
  abbrev pub AreApart : List (Keyed X) → Type 0
  AreApart [] = Unit {0}
  AreApart (e ∷ es) = (has_key e.key es ≡ false) × AreApart es

  -- the element under a key, and what the rest of a walk gives
  abbrev pub visit : (Place X → Option ℕ) → ℕ → Option (Place X) → (Option ℕ → List (Keyed X)) → List (Keyed X)
  visit link key None rest = []
  visit link key (Some place) rest = record { key = key; value = place.value } ∷ rest (link place)

  -- the elements that one comes to from a key on by one of the two links, so many at most
  abbrev pub walk_along : (Place X → Option ℕ) → Places X → ℕ → Option ℕ → List (Keyed X)
  walk_along link at zero key = []
  walk_along link at (suc n) None = []
  walk_along link at (suc n) (Some key) = visit link key (at key) (λ other. walk_along link at n other)

  -- the elements from a key on, so many at most
  abbrev pub walk : Places X → ℕ → Option ℕ → List (Keyed X)
  walk at n key = walk_along (λ place. place.next) at n key

  -- the elements from a key back, so many at most
  abbrev pub walk_back : Places X → ℕ → Option ℕ → List (Keyed X)
  walk_back at n key = walk_along (λ place. place.prev) at n key
