-- Labels as keys of a map.
use Rattle.std.specs.Prelude.{◌≡◌, ℕ, List, [], ◌∷◌, IsTrue}
use Rattle.std.specs.Str.{bytes_eq}
use Rattle.std.specs.Cmp.Lexicographic.{bytes_decides}
use mathlib.Core.Path.{ap}
use Rattle.hp_bytes.specs.declared.word.WordKey.{WordKey}

-- equal labels are hashed alike: each is hashed by one write of its bytes
pub same_input : (key other : WordKey) → IsTrue (bytes_eq key.text.now other.text.now) → key.text.now ∷ [] ≡ other.text.now ∷ []
same_input key other same = ap (λ (text : List ℕ). text ∷ []) ((bytes_decides key.text.now other.text.now).0 same)
