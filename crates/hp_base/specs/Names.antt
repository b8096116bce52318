-- Names, the rule "Names" of docs/HEAP.md, and how their bytes are kept.
use Rattle.std.specs.Prelude.{◌≡◌, ℕ, ◌-◌, ◌<◌, ◌≤◌, List, ◌++◌, length, take, replicate}

-- a name has 1 to 63 bytes ("Names")
pub record IsNameText (text : List ℕ) : Type 0 where
  pub some : 0 < length text
  pub short : length text ≤ 63

-- a text with zeros after it, 63 bytes in all
abbrev pub padded : List ℕ → List ℕ
padded text = text ++ replicate (63 - length text) 0

-- the text at the front of such bytes
abbrev pub text_of : List ℕ → ℕ → List ℕ
text_of bytes len = take len bytes

-- the bytes are a name's text of that length, with zeros after it
pub record IsPadded (bytes : List ℕ) (len : ℕ) : Type 0 where
  pub some : 0 < len
  pub short : len ≤ 63
  pub long : length bytes ≡ 63
  pub zeros : bytes ≡ padded (text_of bytes len)
