-- The names that are kept by line number.
use Rattle.std.specs.Prelude.{ℕ, zero, suc, List, [], ◌∷◌}
use Rattle.std.proofs.Common.{Bor}
use Rattle.hp_report.specs.declared.names.Names.{Names}

-- the name that is kept at a number, or nothing
abbrev pub kept_at : List (Bor (List ℕ)) → ℕ → List ℕ
kept_at [] number = []
kept_at (name ∷ names) zero = name.now
kept_at (name ∷ names) (suc number) = kept_at names number

-- the name that is known for a number, or nothing
abbrev pub known : Names → ℕ → List ℕ
known names = kept_at names.names.items
