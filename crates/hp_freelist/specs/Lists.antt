-- The thirteen free lists of a heap: keys with their whole sizes, each list from its head. The rules "Size classes" and
-- "Free lists" of docs/HEAP.md.
use Rattle.std.specs.Prelude.{ℕ, ◌-◌, Bool, List, [], ◌∷◌, map, replicate, slice_index_or, slice_set}
use Rattle.std.specs.List.{list_any}
use Rattle.hp_base.specs.Class.{class_number}
use Rattle.hp_base.specs.declared.round.TheConstants.{HEADER}
use Rattle.hp_chain.specs.Chain.{Keyed, has_key}
use Rattle.hp_chain.specs.Edits.{without_key}

-- the lists of the classes 0 to 12, and how many keys there is room for: a key below that number can be inserted
pub record FreeLists : Type 0 where
  pub lists : List (List (Keyed ℕ))
  pub room : ℕ

-- thirteen empty lists
abbrev pub empty_lists : List (List (Keyed ℕ))
empty_lists = replicate 13 []

-- the class of a whole size: that of the bytes behind the header ("Size classes")
abbrev pub list_class : ℕ → ℕ
list_class whole = class_number (whole - HEADER)

-- the list of a class
abbrev pub list_at : List (List (Keyed ℕ)) → ℕ → List (Keyed ℕ)
list_at lists class = slice_index_or lists class []

-- a key is in some list
abbrev pub is_listed : ℕ → List (List (Keyed ℕ)) → Bool
is_listed key lists = list_any (has_key key) lists

-- the lists where a key came to the head of the list of its class ("Free lists")
abbrev pub with_head : ℕ → ℕ → List (List (Keyed ℕ)) → List (List (Keyed ℕ))
with_head key whole lists =
    slice_set lists (list_class whole) (record { key = key; value = whole } ∷ list_at lists (list_class whole))

-- the lists where a key is in none
abbrev pub without : ℕ → List (List (Keyed ℕ)) → List (List (Keyed ℕ))
without key lists = map (without_key key) lists
