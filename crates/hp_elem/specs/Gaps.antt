-- Lists of starts, cut at a place. No public clause cites this module.
use Rattle.std.specs.Prelude.{◌≡◌, ℕ, ◌<◌, ◌≤◌, ◌++◌, List, [], ◌∷◌, Option, None, nat_eq, length, if◌then◌else◌}
use Rattle.std.specs.List.{AllByRecursion}

-- the list is cut in two at a place
pub record IsCutAt (starts low high : List ℕ) (place : ℕ) : Type 0 where
  pub is : starts ≡ low ++ high
  pub at : place ≡ length low

-- wherever the list is cut in starts below an address and starts that are not, the cut is at this place
abbrev pub SplitsAt : List ℕ → ℕ → ℕ → Type 0
SplitsAt starts addr place = (low high : List ℕ) → starts ≡ low ++ high → AllByRecursion (λ start. start < addr) low → AllByRecursion (λ start. addr ≤ start) high
    → place ≡ length low

-- the list without its first start, where that is the address
abbrev pub without_first : ℕ → List ℕ → List ℕ
without_first addr [] = []
without_first addr (start ∷ starts) = if nat_eq start addr then starts else start ∷ starts

-- what a table has at the first start of a list
abbrev pub at_first : (ℕ → Option ℕ) → List ℕ → Option ℕ
at_first table [] = None
at_first table (start ∷ starts) = table start
