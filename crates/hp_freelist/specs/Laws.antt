-- Laws of the search in the free lists.
use Rattle.std.specs.Prelude.{◌≡◌, ℕ, Bool, List, Option}
use Rattle.hp_chain.specs.Chain.{Keyed}
use Rattle.hp_freelist.specs.Search.{keys_from, IsFirstPassing, FindsFirstOfLeast}

-- what a test answers
abbrev pub answers_of : (ℕ → Bool) → ℕ → Bool → Type 0
answers_of test key answer = test key ≡ answer

-- the first key that passes in the order of a search is of the least class that has one, and in it the first ("Search")
abbrev pub FindsLeast : Type 0
FindsLeast = (test : ℕ → Bool) (lists : List (List (Keyed ℕ))) (from : ℕ) (found : Option ℕ)
    → IsFirstPassing (answers_of test) (keys_from from lists) found → FindsFirstOfLeast (answers_of test) lists from found
