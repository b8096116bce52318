-- Turns of a token's slots. No public clause cites this module.
use Rattle.std.specs.Prelude.{ℕ, zero, suc, List}
use Rattle.atomic_table.specs.Table.{turned}

-- the slots of a token after so many turns, each of which puts the first after the others
abbrev pub turned_by : {S : Type 0} → ℕ → List (ℕ × S) → List (ℕ × S)
turned_by zero pairs = pairs
turned_by (suc times) pairs = turned_by times (turned pairs)
