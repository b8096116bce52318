-- A walk over elements under keys, from the first on. No public clause cites this module.
use denote.Ref.{Bor}
use Rattle.std.specs.Prelude.{◌≡◌, ℕ, [], ◌∷◌, ◌++◌, Option, Some, None, nat_eq, if◌then◌else◌}
use Rattle.hp_chain.specs.Chain.{AreApart, first_key}
use Rattle.hp_elem.specs.Items.{Items}
use Rattle.hp_heap.specs.Headers.{HeadersView}

-- the elements of the headers that a walk goes over, where there are any
abbrev pub items_seen : Option (Bor HeadersView) → Items
items_seen None = []
items_seen (Some headers) = headers.now.items

-- the elements from a key on
abbrev pub from_key : ℕ → Items → Items
from_key key [] = []
from_key key (e ∷ es) = if nat_eq e.key key then e ∷ es else from_key key es

abbrev pub rest_from : Option ℕ → Items → Items
rest_from None items = []
rest_from (Some key) items = from_key key items

-- a walk has come to a key: what was passed, and what is left
pub record IsPassed (items : Items) (next : Option ℕ) (passed : Items) : Type 0 where
  pub is : items ≡ passed ++ rest_from next items
  pub first : next ≡ first_key (rest_from next items) None

-- a walk stands at a key, and no two elements have one key
pub record IsWalk (items : Items) (next : Option ℕ) : Type 0 where
  pub apart : AreApart items
  pub passed : Items
  pub is : IsPassed items next passed
