-- Text in which each tag that is opened is closed, and no `<` and `>` stand outside of tags.
use Rattle.std.specs.Prelude.{◌≡◌, ℕ, ◌==◌, ◌&&◌, not, nat_le, Bool, true, List, [], ◌++◌, codes}
use Rattle.std.specs.List.{list_all}

-- neither `<` (60) nor `>` (62)
abbrev pub is_plain : ℕ → Bool
is_plain byte = not (byte == 60) && not (byte == 62)

abbrev pub are_plain : List ℕ → Bool
are_plain bytes = list_all is_plain bytes

abbrev pub are_letters : List ℕ → Bool
are_letters bytes = list_all (λ byte. nat_le 97 byte && nat_le byte 122) bytes

-- an element: its tag with the attributes, what is in it, and the tag that closes it
abbrev pub element : List ℕ → List ℕ → List ℕ → List ℕ
element name attributes inner = codes "<" ++ name ++ attributes ++ codes ">" ++ inner ++ codes "</" ++ name ++ codes ">"

-- text and elements, one after another
pub data IsContent : List ℕ → Type 0 where
  empty : IsContent []
  words : (text rest : List ℕ) → are_plain text ≡ true → IsContent rest → IsContent (text ++ rest)
  tagged : (name attributes inner rest : List ℕ) → are_letters name ≡ true → are_plain attributes ≡ true → IsContent inner → IsContent rest
      → IsContent (element name attributes inner ++ rest)
