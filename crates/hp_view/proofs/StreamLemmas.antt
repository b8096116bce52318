-- What several calls of a source give together.
use Rattle.std.proofs.Common.{refl, ap, sym, List, [], ◌++◌, append_assoc, ℕ, Option, Some, None}
use Rattle.hp_command.specs.Reading.{Took}

-- nothing is taken
pub Took-nothing : (left : Option (List ℕ)) → Took left left []
Took-nothing None = refl
Took-nothing (Some left) = refl

-- two pieces are taken, one after the other
pub Took-then : (old mid new : Option (List ℕ)) (a b : List ℕ) → Took old mid a → Took mid new b → Took old new (a ++ b)
Took-then old mid None a b first second = rw (first, second) refl
Took-then old mid (Some rest) a b first second = rw (first, second) (ap Some (sym (append_assoc a b rest)))
