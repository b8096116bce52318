-- Holds of a value that participants share: each of them takes it, makes something of it, and gives it back, while nobody else has it.
use Rattle.std.specs.Prelude.{◌≡◌, ℕ, ◌==◌, List, [], ◌∷◌, filter}

-- a hold: who had the value, as what it was taken, and as what it was given back
pub record Hold (S : Type 0) : Type 0 where
  pub who : ℕ
  pub taken : S
  pub given : S

-- from hold to hold, and from the first value to the last one: each took what the one before it gave back
abbrev pub Chain : {S : Type 0} → S → List (Hold S) → S → Type 0
Chain first [] last = last ≡ first
Chain first (hold ∷ holds) last = (hold.taken ≡ first) × Chain hold.given holds last

-- the holds of one participant, in their order
abbrev pub holds_of : {S : Type 0} → ℕ → List (Hold S) → List (Hold S)
holds_of who holds = filter (λ hold. hold.who == who) holds
