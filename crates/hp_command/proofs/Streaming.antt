-- What several writes to a sink leave together.
use Rattle.std.proofs.Common.{refl, ap, sym, List, [], ◌++◌, append_assoc, append-nil, ℕ, Option, Some, None}
use Rattle.hp_command.specs.Writing.{Holds}

-- nothing is written
pub Holds-nothing : (held : Option (List ℕ)) → Holds held held []
Holds-nothing None = refl
Holds-nothing (Some held) = ap Some (sym (append-nil held))

-- two texts are written, one after the other
pub Holds-then : (old mid new : Option (List ℕ)) (a b : List ℕ) → Holds old mid a → Holds mid new b → Holds old new (a ++ b)
Holds-then None mid new a b first second = rw (second, first) refl
Holds-then (Some held) mid new a b first second = rw (second, first) (ap Some (append_assoc held a b))
