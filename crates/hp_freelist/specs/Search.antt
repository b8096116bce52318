-- What a search of the free lists finds: the rule "Search" of docs/HEAP.md.
use Rattle.std.specs.Prelude.{◌≡◌, ◌⊎◌, ℕ, ◌<◌, ◌≤◌, Bool, true, false, List, [], ◌∷◌, ◌++◌, Option, Some, None, map, drop, flat_map, MatchOption}
use Rattle.std.specs.List.{AllByRecursion}
use Rattle.hp_chain.specs.Chain.{Keyed}
use Rattle.hp_freelist.specs.Lists.{list_at}

-- the keys of a list, from its head
abbrev pub keys_of : List (Keyed ℕ) → List ℕ
keys_of list = map (λ e. e.key) list

-- the keys of the lists from a class upwards, and in each from the head ("Search")
abbrev pub keys_from : ℕ → List (List (Keyed ℕ)) → List ℕ
keys_from class lists = flat_map keys_of (drop class lists)

-- the first key that passes the test, in the order of the keys, or none where none passes
abbrev pub IsFirstPassing : (ℕ → Bool → Type 0) → List ℕ → Option ℕ → Type 0
IsFirstPassing test [] found = found ≡ None
IsFirstPassing test (key ∷ keys) found =
    (test key true × (found ≡ Some key)) ⊎ (test key false × IsFirstPassing test keys found)

-- no key of a list passes the test
abbrev pub NonePasses : (ℕ → Bool → Type 0) → List (Keyed ℕ) → Type 0
NonePasses test list = AllByRecursion (λ (e : Keyed ℕ). test e.key false) list

-- an element with at most so many bytes does not pass the test
abbrev pub SmallFails : (ℕ → Bool → Type 0) → ℕ → List (Keyed ℕ) → Type 0
SmallFails test most list = AllByRecursion (λ (e : Keyed ℕ). e.value ≤ most → test e.key false) list

-- a key that passes the test, in the least class from the given one that has such a key, and there the first
pub record IsFirstOfLeast (test : ℕ → Bool → Type 0) (lists : List (List (Keyed ℕ))) (from key : ℕ) : Type 0 where
  pub class : ℕ
  pub upwards : from ≤ class
  pub lower : (other : ℕ) → from ≤ other → other < class → NonePasses test (list_at lists other)
  pub front : List (Keyed ℕ)
  pub found : Keyed ℕ
  pub back : List (Keyed ℕ)
  pub is : list_at lists class ≡ front ++ found ∷ back
  pub same : found.key ≡ key
  pub passes : test key true
  pub before : NonePasses test front

-- no key of the lists from a class upwards passes the test
abbrev pub NonePassesFrom : (ℕ → Bool → Type 0) → List (List (Keyed ℕ)) → ℕ → Type 0
NonePassesFrom test lists from = (class : ℕ) → from ≤ class → NonePasses test (list_at lists class)

-- what is found is the first of the least class, and nothing is found where no key passes
abbrev pub FindsFirstOfLeast : (ℕ → Bool → Type 0) → List (List (Keyed ℕ)) → ℕ → Option ℕ → Type 0
FindsFirstOfLeast test lists from found =
    MatchOption found (NonePassesFrom test lists from) (λ key. IsFirstOfLeast test lists from key)
