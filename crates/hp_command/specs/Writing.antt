-- What writing a text to a sink leaves.
use Rattle.std.specs.Prelude.{◌≡◌, ℕ, List, ◌++◌, take, Option}
use Rattle.std.specs.Option.{option_map}

-- the text stands after what the sink held, where that is told
abbrev pub Holds : Option (List ℕ) → Option (List ℕ) → List ℕ → Type 0
Holds old new text = new ≡ option_map (λ held. held ++ text) old

-- a front of the text stands after what the sink held
pub record HoldsFront (old new : Option (List ℕ)) (text : List ℕ) : Type 0 where
  pub len : ℕ
  pub front : Holds old new (take len text)
