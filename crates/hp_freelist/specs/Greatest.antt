-- The greatest element of the free lists: the rule "Statistics" of docs/HEAP.md.
use Rattle.std.specs.Prelude.{◌≡◌, ℕ, ◌<◌, ◌≤◌, List, ◌∷◌, ◌++◌, flat_map}
use Rattle.std.specs.List.{AllByRecursion}
use Rattle.hp_chain.specs.Chain.{Keyed}

-- the elements of all lists, from class 0 on, and in each from the head
abbrev pub all_elements : List (List (Keyed ℕ)) → List (Keyed ℕ)
all_elements lists = flat_map (λ list. list) lists

-- a key has the greatest whole size of a list, and is the first where several have it
pub record IsGreatest (list : List (Keyed ℕ)) (key : ℕ) : Type 0 where
  pub front : List (Keyed ℕ)
  pub found : Keyed ℕ
  pub back : List (Keyed ℕ)
  pub is : list ≡ front ++ found ∷ back
  pub same : found.key ≡ key
  pub before : AllByRecursion (λ (e : Keyed ℕ). e.value < found.value) front
  pub behind : AllByRecursion (λ (e : Keyed ℕ). e.value ≤ found.value) back
