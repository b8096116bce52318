-- How items of participants, each of which has its own in order, come into one order.
use Rattle.std.specs.Prelude.{ℕ, ◌==◌, List, [], ◌∷◌, ◌++◌, drop, take, if◌then◌else◌}

-- what is left of each one's items where the first one of a participant is taken
abbrev pub without_first : {A : Type 0} → ℕ → (ℕ → List A) → ℕ → List A
without_first who items other = if other == who then drop 1 (items other) else items other

-- the items in the order of who is next: each time the first one that this participant has left
abbrev pub woven : {A : Type 0} → List ℕ → (ℕ → List A) → List A
woven [] items = []
woven (who ∷ whos) items = take 1 (items who) ++ woven whos (without_first who items)
