-- What participants' calls leave in the histories of heaps.
use Rattle.std.specs.Prelude.{ℕ, ◌+◌, ◌==◌, List, [], ◌∷◌, if◌then◌else◌}
use Rattle.hp_heap.specs.declared.entry.Entry.{Entry}
use Rattle.hp_proc.specs.Courses.{OwnCall}

-- the entry of a participant's call of that number
abbrev pub entry_for : ℕ → ℕ → OwnCall → Entry
entry_for who number own =
    record { caller = record { participant = who; number = number }; call = own.call; answer = own.answer }

-- the entries of one heap, where a participant's calls over all heaps are numbered on from a number
abbrev pub entries_for : ℕ → ℕ → ℕ → List OwnCall → List Entry
entries_for who heap number [] = []
entries_for who heap number (own ∷ calls) =
    if own.heap == heap then entry_for who number own ∷ entries_for who heap (number + 1) calls
    else entries_for who heap (number + 1) calls
